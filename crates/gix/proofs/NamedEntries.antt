-- The entries of a tree are looked through for a name.
use Rattle.std.proofs.Common.{◌≡◌, ℕ, zero, suc, ◌+◌, List, [], ◌∷◌, drop, true, false, cond, Ok, Err, Some, None, Option, Result, refl, sym, ap, ◌∙◌, subst, add-one}
use Rattle.std.specs.Option.{option_map}
use Rattle.std.specs.Prelude.{bytes_eq}
use Rattle.bstr.specs.BStr.{bstr_bytes}
use Rattle.gx_object.specs.PartsRead.{ObjectText, PartsRead}
use Rattle.gx_object.specs.TreeIter.{IsNext, GoesOn, GivesEntry}
use Rattle.gx_object.specs.TreeSpelling.{ReadsUpTo, entry_of}
use Rattle.gx_object.specs.declared.decode.DecodeError.{DecodeError}
use Rattle.gx_object.specs.declared.tree.Entry.{Entry}
use Rattle.gx_object.specs.declared.tree.decode.EntryRef.{EntryRef}
use Rattle.gix.specs.TreeEntries.{first_named, IsFirstNamed}

-- so many entries were given, and none of them has the name
pub record NoneNamed (text : ObjectText) (name : List ℕ) (place : PartsRead) : Type 0 where
  pub same : place.text ≡ text
  pub count : ℕ
  pub given : place.given ≡ Some count
  pub none : (entries : List Entry) (end : ℕ) → ReadsUpTo text.hash text.bytes entries end
      → first_named name entries ≡ first_named name (drop count entries)

pub none_yet : (text : ObjectText) (name : List ℕ) (place : PartsRead) → place.text ≡ text → place.given ≡ Some 0 → NoneNamed text name place
none_yet text name place same start = record { same = same; count = 0; given = start; none = λ entries end reads. refl }

rest_of : (n : ℕ) (xs : List Entry) (p : Entry) (ps : List Entry) → drop n xs ≡ p ∷ ps → drop (suc n) xs ≡ ps
rest_of zero [] p ps e = cc
rest_of zero (x ∷ xs) p ps e = cc
rest_of (suc n) [] p ps e = cc
rest_of (suc n) (x ∷ xs) p ps e = rest_of n xs p ps e

-- what a call gives of the entries that are left
next_is : (text : ObjectText) (name : List ℕ) (old new : PartsRead) (item : Option (Result EntryRef DecodeError)) → (it : NoneNamed text name old) → GivesEntry old item new → (entries : List Entry) (end : ℕ) → ReadsUpTo text.hash text.bytes entries end → IsNext old.text (drop it.count entries) end item
next_is text name old new item it gives entries end reads =
    subst (λ g. GoesOn old.text entries end g item) it.given
    (gives.next entries end (subst (λ (t : ObjectText). ReadsUpTo t.hash t.bytes entries end) (sym it.same) reads))

-- an entry of another name is passed by
pub passed_by : (text : ObjectText) (name : List ℕ) (old new : PartsRead) (item : EntryRef) → NoneNamed text name old → GivesEntry old (Some (Ok item)) new → bytes_eq (bstr_bytes item.filename) name ≡ false → NoneNamed text name new
passed_by text name old new item it gives other = record {
  same = gives.same ∙ it.same;
  count = suc it.count;
  given = gives.count ∙ ap (λ g. option_map (λ n. n + 1) g) it.given ∙ ap Some (add-one it.count);
  none = λ entries end reads. it.none entries end reads
      ∙ go entries end (drop it.count entries) refl (next_is text name old new (Some (Ok item)) it gives entries end reads);
} where
  go : (entries : List Entry) (end : ℕ) (left : List Entry) → drop it.count entries ≡ left → IsNext old.text left end (Some (Ok item)) → first_named name (drop it.count entries) ≡ first_named name (drop (suc it.count) entries)
  go entries end [] e h = absurd h
  go entries end (p ∷ ps) e h = ap (first_named name) e
      ∙ ap (λ b. cond b (Some p) (first_named name ps)) (ap (λ (q : Entry). bytes_eq q.filename name) (sym h.0) ∙ other)
      ∙ ap (first_named name) (sym (rest_of it.count entries p ps e))

-- the first of the name is found
pub found_now : (text : ObjectText) (name : List ℕ) (old new : PartsRead) (item : EntryRef) → NoneNamed text name old → GivesEntry old (Some (Ok item)) new → bytes_eq (bstr_bytes item.filename) name ≡ true → IsFirstNamed text name (Some (entry_of item))
found_now text name old new item it gives same entries end reads =
    sym (it.none entries end reads ∙ go (drop it.count entries) refl (next_is text name old new (Some (Ok item)) it gives entries end reads)) where
      go : (left : List Entry) → drop it.count entries ≡ left → IsNext old.text left end (Some (Ok item)) → first_named name (drop it.count entries) ≡ Some (entry_of item)
      go [] e h = absurd h
      go (p ∷ ps) e h = ap (first_named name) e
          ∙ ap (λ b. cond b (Some p) (first_named name ps)) (ap (λ (q : Entry). bytes_eq q.filename name) (sym h.0) ∙ same)
          ∙ ap Some (sym h.0)

-- nothing is left where the error or the end comes
none_left : (text : ObjectText) (name : List ℕ) (old new : PartsRead) (item : Option (Result EntryRef DecodeError)) → ((end : ℕ) (p : Entry) (ps : List Entry) → IsNext old.text (p ∷ ps) end item → ⊥) → NoneNamed text name old → GivesEntry old item new → IsFirstNamed text name None
none_left text name old new item not it gives entries end reads =
    sym (it.none entries end reads ∙ go (drop it.count entries) refl (next_is text name old new item it gives entries end reads)) where
      go : (left : List Entry) → drop it.count entries ≡ left → IsNext old.text left end item → first_named name (drop it.count entries) ≡ None
      go [] e h = ap (first_named name) e
      go (p ∷ ps) e h = absurd (not end p ps h)

pub none_at_error : (text : ObjectText) (name : List ℕ) (old new : PartsRead) (error : DecodeError) → NoneNamed text name old → GivesEntry old (Some (Err error)) new → IsFirstNamed text name None
none_at_error text name old new error = none_left text name old new (Some (Err error)) (λ end p ps h. h)

pub none_at_end : (text : ObjectText) (name : List ℕ) (old new : PartsRead) → NoneNamed text name old → GivesEntry old None new → IsFirstNamed text name None
none_at_end text name old new = none_left text name old new None (λ end p ps h. h)

-- so it is where what comes is no entry
pub none_unless_ok : (text : ObjectText) (name : List ℕ) (old new : PartsRead) (item : Result EntryRef DecodeError) → ((x : EntryRef) → item ≡ Ok x → ⊥) → NoneNamed text name old → GivesEntry old (Some item) new → IsFirstNamed text name None
none_unless_ok text name old new (Ok x) not = absurd (not x refl)
none_unless_ok text name old new (Err error) not = none_at_error text name old new error
