-- All bytes are read up to some place.
use Rattle.std.proofs.Common.{◌≡◌, ◌⊎◌, ◌≤◌, ◌^◌, ◌==◌, ◌∙◌, ℕ, zero, suc, true, Some, List, [], ◌∷◌, ◌++◌, length, take, drop, append_assoc, sym, ap, refl, subst, inl, inr, arith}
use Rattle.std.specs.Char.{digit_value}
use Rattle.std.specs.Str.Parse.{AllDigits, digits_value}
use Rattle.std.proofs.lemmas.Bool.{cases_lt, cases_eq, eq-eqb}
use Rattle.std.proofs.lemmas.List.{length-take-le, take-append-drop}
use Rattle.gx_hash.specs.declared.kind.HashKind.{HashKind}
use Rattle.gx_hash.specs.declared.kind.HashKind.TheVariants as hash_kind
use Rattle.gx_hash.specs.declared.oid.ObjectId.{ObjectId}
use Rattle.gx_hash.specs.declared.oid.ObjectId.TheVariants.{Sha1, Sha256}
use Rattle.gx_hash.specs.HashKind.{len_in_bytes}
use Rattle.gx_hash.specs.ObjectId.{id_from_bytes}
use Rattle.gx_object.specs.declared.tree.Entry.{Entry}
use Rattle.gx_object.specs.Split.{Lacks}
use Rattle.gx_object.specs.TreeSpelling.{SpellsMode, SpellsTree, ReadsUpTo, BeginsWithEntry}
use Rattle.gx_object.specs.Laws.Splits.{lacks_more}
use Rattle.gx_object.specs.Laws.EntryCuts.{no_space, no_mode, no_zero, no_name, no_id, entry_found}
use Rattle.gx_object.specs.Laws.TreeFronts.{tree_none, tree_push, reads_here}
use Rattle.gx_object.proofs.TreeReading.{entry_shortens}

cut_or_lacks : (byte : ℕ) (text : List ℕ) → ((front : List ℕ) × (rest : List ℕ) × (text ≡ front ++ byte ∷ rest) × Lacks byte front) ⊎ Lacks byte text
cut_or_lacks byte [] = inr refl
cut_or_lacks byte (b ∷ bs) =
    elim (cases_eq b byte) [
      | inl here ↦ inl ([], bs, ap (λ x. x ∷ bs) here, refl)
      | inr other ↦
          elim (cut_or_lacks byte bs) [
            | inl cut ↦ inl (b ∷ cut.0, cut.1, ap (λ x. b ∷ x) cut.2, lacks_more byte b cut.0 other cut.3)
            | inr lacks ↦ inr (lacks_more byte b bs other lacks)
          ]
    ]

octal_or_not : (digits : List ℕ) → AllDigits 8 digits ⊎ (AllDigits 8 digits → ⊥)
octal_or_not [] = inl tt
octal_or_not (c ∷ cs) =
    elim (cases_lt (digit_value c) 8) [
      | inl small ↦ elim (octal_or_not cs) [ inl all ↦ inl (small, all) | inr none ↦ inr (λ all. none all.1) ]
      | inr large ↦ inr (λ all. let small = all.0 in absurd (omega arith))
    ]

mode_or_not : (digits : List ℕ) → ((mode : ℕ) × SpellsMode digits mode) ⊎ ((mode : ℕ) → ¬ SpellsMode digits mode)
mode_or_not digits =
    elim (cases_lt 6 (length digits)) [
      | inl long ↦ inr (λ mode spelled. let short = spelled.short in absurd (omega arith))
      | inr short ↦
          elim (cases_lt 0 (length digits)) [
            | inr empty ↦ inr (λ mode spelled. let some = spelled.number.0.0 in absurd (omega arith))
            | inl some ↦
                elim (octal_or_not digits) [
                  | inr none ↦ inr (λ mode spelled. none spelled.number.0.1)
                  | inl all ↦
                      elim (cases_lt (digits_value 8 digits) (2 ^ 16)) [
                        | inl small ↦ inl (digits_value 8 digits, record { number = ((some, all), refl); short = short; small = small })
                        | inr large ↦ inr (λ mode spelled. let same = spelled.number.1 in let small = spelled.small in absurd (omega arith))
                      ]
                ]
          ]
    ]

some_id : (hash : HashKind) (id : List ℕ) → length id ≡ len_in_bytes hash → (oid : ObjectId) × (id_from_bytes hash id ≡ Some oid)
some_id hash_kind.Sha1 id long = let test : (length id == 20) ≡ true = eq-eqb _ _ long in (Sha1 id, rw test refl)
some_id hash_kind.Sha256 id long = let test : (length id == 32) ≡ true = eq-eqb _ _ long in (Sha256 id, rw test refl)

abbrev Begins : HashKind → List ℕ → Type 0
Begins hash bytes = ((entry : Entry) × (rest : List ℕ) × BeginsWithEntry hash bytes entry rest) ⊎ ((entry : Entry) (rest : List ℕ) → ¬ BeginsWithEntry hash bytes entry rest)

-- with a mode and a name, it depends on the id
by_id : (hash : HashKind) (bytes digits behind name last : List ℕ) (mode : ℕ) → bytes ≡ digits ++ 32 ∷ behind → Lacks 32 digits → SpellsMode digits mode → behind ≡ name ++ 0 ∷ last → Lacks 0 name → (length name ≡ 0 → ⊥) → Begins hash bytes
by_id hash bytes digits behind name last mode whole lacks spelled more none some =
    elim (cases_lt (length last) (len_in_bytes hash)) [
      | inl short ↦ inr (no_id hash bytes digits behind name last whole lacks more none short)
      | inr enough ↦
          let n : ℕ = len_in_bytes hash in
          let id = some_id hash (take n last) (length-take-le n last enough) in
          let entry : Entry = record { mode = record { value = mode }; filename = name; oid = id.0 } in
          inl (entry, drop n last, entry_found hash bytes digits behind name last (take n last) (drop n last) entry whole more (sym (take-append-drop n last)) none some spelled refl id.1)
    ]

by_name : (hash : HashKind) (bytes digits behind : List ℕ) (mode : ℕ) → bytes ≡ digits ++ 32 ∷ behind → Lacks 32 digits → SpellsMode digits mode → Begins hash bytes
by_name hash bytes digits behind mode whole lacks spelled =
    elim (cut_or_lacks 0 behind) [
      | inr none ↦ inr (no_zero hash bytes digits behind whole lacks none)
      | inl cut ↦
          elim (cases_eq (length cut.0) 0) [
            | inl empty ↦ inr (no_name hash bytes digits behind cut.0 cut.1 whole lacks cut.2 cut.3 empty)
            | inr some ↦ by_id hash bytes digits behind cut.0 cut.1 mode whole lacks spelled cut.2 cut.3 some
          ]
    ]

begins_or_not : (hash : HashKind) (bytes : List ℕ) → Begins hash bytes
begins_or_not hash bytes =
    elim (cut_or_lacks 32 bytes) [
      | inr none ↦ inr (no_space hash bytes none)
      | inl cut ↦
          elim (mode_or_not cut.0) [
            | inr none ↦ inr (no_mode hash bytes cut.0 cut.1 cut.2 cut.3 none)
            | inl mode ↦ by_name hash bytes cut.0 cut.1 mode.0 cut.2 cut.3 mode.1
          ]
    ]

abbrev Reads : HashKind → List ℕ → Type 0
Reads hash bytes = (entries : List Entry) × (end : ℕ) × ReadsUpTo hash bytes entries end

reads_on : (fuel : ℕ) (hash : HashKind) (front rest : List ℕ) (xs : List Entry) → length rest ≤ fuel → SpellsTree hash front xs → Reads hash (front ++ rest)
reads_on zero hash front rest xs room tree =
    elim (begins_or_not hash rest) [
      | inr none ↦ (xs, length front, reads_here hash front rest xs tree none)
      | inl found ↦ let short = entry_shortens hash rest found.0 found.1 found.2 in absurd (omega arith)
    ]
reads_on (suc fuel) hash front rest xs room tree =
    elim (begins_or_not hash rest) [
      | inr none ↦ (xs, length front, reads_here hash front rest xs tree none)
      | inl found ↦
          let short = entry_shortens hash rest found.0 found.1 found.2 in
          let begins = found.2 in
          let text : List ℕ = begins.0 in
          let same : front ++ text ++ found.1 ≡ front ++ rest = append_assoc front text found.1 ∙ ap (λ x. front ++ x) (sym begins.1) in
          subst (Reads hash) same (reads_on fuel hash (front ++ text) found.1 (xs ++ found.0 ∷ []) (omega arith) (tree_push hash front text xs found.0 tree begins.2))
    ]

pub reads_always : (hash : HashKind) (bytes : List ℕ) → (entries : List Entry) × (end : ℕ) × ReadsUpTo hash bytes entries end
reads_always hash bytes = reads_on (length bytes) hash [] bytes [] (omega arith) (tree_none hash)
