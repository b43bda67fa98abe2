-- What stands at the names of a directory after a change.
use Rattle.std.proofs.Common.{◌≡◌, ◌≢◌, ◌∙◌, sym, ap, refl, cond, List, ℕ, Bool, true, false, true≢false, Some, None}
use Rattle.std.specs.Str.{bytes_eq}
use Rattle.std.specs.Ordering.{is_eq}
use Rattle.std.specs.declared.cmp.Ordering.{Ordering}
use Rattle.std.specs.declared.cmp.Ordering.TheVariants.{Less, Equal, Greater}
use Rattle.std.specs.Cmp.{eq_by_cmp_equiv}
use Rattle.std.specs.Cmp.Lexicographic.{nat_list_cmp_total}
use Rattle.std.specs.FinMap.{get, insert, remove, get-insert, get-remove, slice_cmp-IsAntisymmetric, nat_cmp-IsAntisymmetric}
use Rattle.gx_hash.specs.declared.oid.ObjectId.{ObjectId}
use Rattle.gx_hash.specs.HashKind.{kind_of}
use Rattle.gx_hash.specs.ObjectId.{null_id}
use Rattle.gx_hash.specs.Laws.{same_id}
use Rattle.gx_rules.specs.Name.{name_cmp}
use Rattle.gx_edit.specs.View.{Names, is_null}
use Rattle.gx_edit.specs.declared.editor.item.Item.{Item}
use Rattle.gx_edit.proofs.PathLemmas.{bytes_eq-of}

pub itself : (n : List ℕ) → bytes_eq n n ≡ true
itself n = bytes_eq-of n n refl

tied : (r : Ordering) → is_eq r ≡ true → r ≡ Equal
tied Less h = absurd (true≢false (sym h))
tied Equal h = refl
tied Greater h = absurd (true≢false (sym h))

-- names that tie are one
pub one_name : (a b : List ℕ) → is_eq (name_cmp a b) ≡ true → a ≡ b
one_name a b h = slice_cmp-IsAntisymmetric nat_cmp-IsAntisymmetric a b (tied (name_cmp a b) h)

pub ties_itself : (a : List ℕ) → is_eq (name_cmp a a) ≡ true
ties_itself a = (eq_by_cmp_equiv nat_list_cmp_total).refl a

-- and others do not
pub no_tie : (n c : List ℕ) → bytes_eq n c ≡ false → is_eq (name_cmp c n) ≡ false
no_tie n c other = go (is_eq (name_cmp c n)) refl
  where
    go : (t : Bool) → is_eq (name_cmp c n) ≡ t → t ≡ false
    go true e = absurd (true≢false (sym (bytes_eq-of n c (sym (one_name c n e))) ∙ other))
    go false e = refl

pub inserted_here : (names : Names) (n : List ℕ) (item : Item) → get (insert names n item) n ≡ Some item
inserted_here names n item = get-insert nat_list_cmp_total names n item n ∙ ap (λ t. cond t (Some item) (get names n)) (ties_itself n)

pub inserted_elsewhere : (names : Names) (n c : List ℕ) (item : Item) → bytes_eq n c ≡ false → get (insert names n item) c ≡ get names c
inserted_elsewhere names n c item other = get-insert nat_list_cmp_total names n item c ∙ ap (λ t. cond t (Some item) (get names c)) (no_tie n c other)

pub removed_here : (names : Names) (n : List ℕ) → get (remove names n) n ≡ None
removed_here names n = get-remove nat_list_cmp_total names n n ∙ ap (λ t. cond t None (get names n)) (ties_itself n)

pub removed_elsewhere : (names : Names) (n c : List ℕ) → bytes_eq n c ≡ false → get (remove names n) c ≡ get names c
removed_elsewhere names n c other = get-remove nat_list_cmp_total names n c ∙ ap (λ t. cond t None (get names c)) (no_tie n c other)

-- ---- ids

pub null_is : (id : ObjectId) → is_null id ≡ true → id ≡ null_id (kind_of id)
null_is id h = same_id id (null_id (kind_of id)) h

pub not_null_is : (id : ObjectId) → id ≢ null_id (kind_of id) → is_null id ≡ false
not_null_is id other = go (is_null id) refl
  where
    go : (t : Bool) → is_null id ≡ t → t ≡ false
    go true e = absurd (other (null_is id e))
    go false e = refl
