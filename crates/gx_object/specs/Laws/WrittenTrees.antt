-- What is written of a tree spells it.
use Rattle.std.proofs.Common.{◌≡◌, ◌≤◌, ◌<◌, ◌+◌, ◌-◌, ◌^◌, ◌/◌, ◌%◌, ◌==◌, ℕ, zero, suc, true, false, List, [], ◌∷◌, ◌++◌, length, All, ap, refl, inl, inr, ne_eqb, arith}
use Rattle.std.specs.Fmt.{digits, digits_onto, digit_glyph}
use Rattle.std.proofs.lemmas.Bool.{cases_eq, eq-eqb}
use Rattle.std.proofs.lemmas.Fmt.{digits_is_IsNumeral}
use Rattle.std.proofs.lemmas.List.Elements.{All-head, All-tail}
use Rattle.gx_hash.specs.declared.kind.HashKind.{HashKind}
use Rattle.gx_hash.specs.ObjectId.{bytes_of}
use Rattle.gx_object.specs.declared.tree.Entry.{Entry}
use Rattle.gx_object.specs.Tree.{octal_of, entry_bytes, tree_bytes}
use Rattle.gx_object.specs.TreeSpelling.{SpellsMode, SpellsEntry, SpellsTree, HasSpelling}
use Rattle.gx_object.specs.Laws.Octal.{octal_fits, octal_left}
use Rattle.gx_object.specs.Laws.TreeFronts.{tree_none}

-- a number below 8 ^ k has at most k digits
short_onto : (k fuel n : ℕ) (acc : List ℕ) → 0 < k → k ≤ fuel → n < 8 ^ k → length (digits_onto fuel 8 false n acc) ≤ k + length acc
short_onto zero fuel n acc some room small = absurd (omega arith)
short_onto (suc k) zero n acc some room small = absurd (omega arith)
short_onto (suc k) (suc fuel) n acc some room small =
    elim (cases_eq (n / 8) 0) [
      | inl last ↦ let test : (n / 8 == 0) ≡ true = eq-eqb _ _ last in rw test (omega arith)
      | inr more ↦
          let test : (n / 8 == 0) ≡ false = ne_eqb (n / 8) 0 more in
          let below : suc k - 1 ≡ k = omega arith in
          let fits : n / 8 < 8 ^ k = rw below at (octal_fits n (suc k) (omega arith) small) in
          let rest = short_onto k fuel (n / 8) (digit_glyph false (n % 8) ∷ acc) (octal_left (n / 8) k fits more) (omega arith) fits in
          rw test (omega arith)
    ]

octal_short : (mode : ℕ) → mode < 2 ^ 16 → length (octal_of mode) ≤ 6
unfolding digits
octal_short mode small = let short = short_onto 6 64 mode [] (omega arith) (omega arith) (omega arith) in omega arith

octal_spells : (mode : ℕ) → mode < 2 ^ 16 → SpellsMode (octal_of mode) mode
octal_spells mode small =
    let some : 2 ≤ 8 = omega arith in
    let few : 8 ≤ 16 = omega arith in record {
      number = digits_is_IsNumeral 8 false some few mode (omega arith);
      short = octal_short mode small;
      small = small;
    }

entry_spells : (hash : HashKind) (e : Entry) → HasSpelling hash e → SpellsEntry hash (entry_bytes e) e
unfolding entry_bytes
entry_spells hash e has = record {
  digits = octal_of e.mode.value;
  id = bytes_of e.oid;
  whole = refl;
  mode = octal_spells e.mode.value has.mode;
  filename = has.filename;
  oid = has.oid;
}

pub written_tree : (hash : HashKind) (entries : List Entry) → All (HasSpelling hash) entries → SpellsTree hash (tree_bytes entries) entries
written_tree hash [] all = tree_none hash
written_tree hash (e ∷ es) all =
    let rest = written_tree hash es (All-tail (HasSpelling hash) e es all) in
    (entry_bytes e ∷ rest.0, ap (λ x. entry_bytes e ++ x) rest.1, (entry_spells hash e (All-head (HasSpelling hash) e es all), rest.2))
