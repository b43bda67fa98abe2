-- Tree maps as the finite maps that they are, by the bytes of their keys.
use Rattle.std.proofs.Common.{◌≡◌, ◌≢◌, ◌∙◌, sym, ap, refl, cond, List, [], ◌∷◌, ℕ, Bool, true, false, true≢false, Some, None}
use Rattle.std.specs.declared.cmp.Ordering.{Ordering}
use Rattle.std.specs.declared.cmp.Ordering.TheVariants.{Less, Equal, Greater}
use Rattle.std.specs.Global.{Vec}
use Rattle.std.specs.Ordering.{is_eq, match_ordering}
use Rattle.std.specs.BTreeMap.{is_at, insert_entry}
use Rattle.std.specs.Cmp.{eq_by_cmp_equiv}
use Rattle.std.specs.Map.{lookup, remove_entry}
use Rattle.std.specs.Cmp.Lexicographic.{nat_list_cmp_total}
use Rattle.std.specs.FinMap as fin
use Rattle.std.specs.FinMap.{FinMap, IsAntisymmetric, slice_cmp-IsAntisymmetric, nat_cmp-IsAntisymmetric, find, get, from_entries, get-from_entries, get-insert, get-remove, same_map}
use Rattle.std.specs.FinMap.Entries.{put, by_order, find-put}
use Rattle.gx_rules.specs.Name.{name_cmp}
use Rattle.gx_edit.specs.Nodes.{keyed}

pub exact_names : IsAntisymmetric name_cmp
exact_names = slice_cmp-IsAntisymmetric nat_cmp-IsAntisymmetric

-- the key of a tree map has these bytes
abbrev pub at_key : List ℕ → Vec ℕ → Bool
at_key q = is_at (λ (k : Vec ℕ). name_cmp q k.items)

pub same_of : (a b : List ℕ) → is_eq (name_cmp a b) ≡ true → a ≡ b
same_of a b h = exact_names a b (equal_of (name_cmp a b) h)
  where
    equal_of : (r : Ordering) → is_eq r ≡ true → r ≡ Equal
    equal_of Less h = absurd (true≢false (sym h))
    equal_of Equal h = refl
    equal_of Greater h = absurd (true≢false (sym h))

pub at_itself : (k : List ℕ) → is_eq (name_cmp k k) ≡ true
at_itself k = (eq_by_cmp_equiv nat_list_cmp_total).refl k

pub apart : (q k : List ℕ) → (q ≢ k) → is_eq (name_cmp q k) ≡ false
apart q k ne = go (is_eq (name_cmp q k)) refl
  where
    go : (t : Bool) → is_eq (name_cmp q k) ≡ t → t ≡ false
    go true e = absurd (ne (same_of q k e))
    go false e = refl

module _ {X : Type 0} where
  find_keyed : (q : List ℕ) (es : List (Vec ℕ × X)) → find name_cmp q (keyed es) ≡ lookup (at_key q) es
  find_keyed q [] = refl
  find_keyed q (e ∷ es) = ap (cond (is_eq (name_cmp q e.0.items)) (Some e.1)) (find_keyed q es)

  -- what the map has at a key
  pub get_keyed : (q : List ℕ) (es : List (Vec ℕ × X)) → get (from_entries {R = name_cmp} (keyed es)) q ≡ lookup (at_key q) es
  get_keyed q es = get-from_entries nat_list_cmp_total (keyed es) q ∙ find_keyed q es

  keyed_insert : (k : Vec ℕ) (v : X) (es : List (Vec ℕ × X)) → keyed (insert_entry (λ (a b : Vec ℕ). name_cmp a.items b.items) es k v) ≡ put name_cmp k.items v (keyed es)
  keyed_insert k v [] = refl
  keyed_insert k v (e ∷ es) = go (name_cmp k.items e.0.items) (keyed_insert k v es)
    where
      rest : List (Vec ℕ × X)
      rest = insert_entry (λ (a b : Vec ℕ). name_cmp a.items b.items) es k v

      go : (r : Ordering) → keyed rest ≡ put name_cmp k.items v (keyed es) → keyed (match_ordering r ((k, v) ∷ e ∷ es) ((e.0, v) ∷ es) (e ∷ rest)) ≡ by_order r ((k.items, v) ∷ keyed (e ∷ es)) ((e.0.items, v) ∷ keyed es) ((e.0.items, e.1) ∷ put name_cmp k.items v (keyed es))
      go Less h = refl
      go Equal h = refl
      go Greater h = ap (λ t. (e.0.items, e.1) ∷ t) h

  pub inserted : (es fs : List (Vec ℕ × X)) (k : Vec ℕ) (v : X) → fs ≡ insert_entry (λ (a b : Vec ℕ). name_cmp a.items b.items) es k v → from_entries {R = name_cmp} (keyed fs) ≡ fin.insert (from_entries {R = name_cmp} (keyed es)) k.items v
  inserted es fs k v h = same_map nat_list_cmp_total exact_names _ _ (λ q.
      get-from_entries nat_list_cmp_total (keyed fs) q ∙ ap (find name_cmp q) (ap keyed h ∙ keyed_insert k v es) ∙ find-put name_cmp nat_list_cmp_total q k.items v (keyed es)
      ∙ sym (get-insert nat_list_cmp_total (from_entries (keyed es)) k.items v q ∙ ap (cond (is_eq (name_cmp q k.items)) (Some v)) (get-from_entries nat_list_cmp_total (keyed es) q)))

  others_removed : (q k : List ℕ) → (q ≢ k) → (es : List (Vec ℕ × X)) → lookup (at_key q) (remove_entry (at_key k) es) ≡ lookup (at_key q) es
  others_removed q k ne [] = refl
  others_removed q k ne (e ∷ es) = go (at_key k e.0) refl (others_removed q k ne es)
    where
      skip : (b : Bool) → at_key q e.0 ≡ b → (at_key k e.0 ≡ true) → lookup (at_key q) es ≡ cond b (Some e.1) (lookup (at_key q) es)
      skip true h t = absurd (ne (same_of q e.0.items h ∙ sym (same_of k e.0.items t)))
      skip false h t = refl

      go : (b : Bool) → at_key k e.0 ≡ b → lookup (at_key q) (remove_entry (at_key k) es) ≡ lookup (at_key q) es → lookup (at_key q) (cond b es (e ∷ remove_entry (at_key k) es)) ≡ lookup (at_key q) (e ∷ es)
      go true t ih = skip (at_key q e.0) refl t
      go false t ih = ap (cond (at_key q e.0) (Some e.1)) ih

  pub removed : (es fs : List (Vec ℕ × X)) (k : List ℕ) → fs ≡ remove_entry (at_key k) es → lookup (at_key k) fs ≡ None → from_entries {R = name_cmp} (keyed fs) ≡ fin.remove (from_entries {R = name_cmp} (keyed es)) k
  removed es fs k is gone = same_map nat_list_cmp_total exact_names _ _ (λ q. get_keyed q fs ∙ go q (is_eq (name_cmp q k)) refl ∙ sym (get-remove nat_list_cmp_total _ k q))
    where
      go : (q : List ℕ) (b : Bool) → is_eq (name_cmp q k) ≡ b → lookup (at_key q) fs ≡ cond b None (get (from_entries {R = name_cmp} (keyed es)) q)
      go q true t = ap (λ r. lookup (at_key r) fs) (same_of q k t) ∙ gone
      go q false t = ap (lookup (at_key q)) is ∙ others_removed q k (λ e. true≢false (sym (ap (λ r. is_eq (name_cmp r k)) e ∙ at_itself k) ∙ t)) es ∙ sym (get_keyed q es)

module _ {Y : Type 0} (m : FinMap name_cmp Y) where
  pub get_put : (k : List ℕ) (y : Y) → get (fin.insert m k y) k ≡ Some y
  get_put k y = get-insert nat_list_cmp_total m k y k ∙ ap (λ b. cond b (Some y) (get m k)) (at_itself k)

  pub get_put_other : (q k : List ℕ) (y : Y) → (q ≢ k) → get (fin.insert m k y) q ≡ get m q
  get_put_other q k y ne = get-insert nat_list_cmp_total m k y q ∙ ap (λ b. cond b (Some y) (get m q)) (apart q k ne)

  pub get_gone : (k : List ℕ) → get (fin.remove m k) k ≡ None
  get_gone k = get-remove nat_list_cmp_total m k k ∙ ap (λ b. cond b None (get m k)) (at_itself k)

  pub get_gone_other : (q k : List ℕ) → (q ≢ k) → get (fin.remove m k) q ≡ get m q
  get_gone_other q k ne = get-remove nat_list_cmp_total m k q ∙ ap (λ b. cond b None (get m q)) (apart q k ne)

  -- what was put where nothing was is taken away again
  pub remove_insert : (k : List ℕ) (y : Y) → get m k ≡ None → fin.remove (fin.insert m k y) k ≡ m
  remove_insert k y none = same_map nat_list_cmp_total exact_names _ _ (λ q. get-remove nat_list_cmp_total _ k q ∙ ap (cond (is_eq (name_cmp q k)) None) (get-insert nat_list_cmp_total m k y q) ∙ go q (is_eq (name_cmp q k)) refl)
    where
      go : (q : List ℕ) (b : Bool) → is_eq (name_cmp q k) ≡ b → cond b None (cond b (Some y) (get m q)) ≡ get m q
      go q true t = sym (ap (get m) (same_of q k t) ∙ none)
      go q false t = refl
