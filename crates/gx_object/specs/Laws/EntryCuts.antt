-- How an entry of a tree is cut.
use Rattle.std.proofs.Common.{◌≡◌, ◌<◌, ◌∙◌, ℕ, IsTrue, Some, List, ◌∷◌, ◌++◌, length, append_assoc, sym, ap, refl, ne_eqb, arith}
use Rattle.std.proofs.lemmas.Bool.{and_from, and_parts, not_from_false, not-true, eqb-true, eqb-false}
use Rattle.std.proofs.lemmas.Option.{cond_some}
use Rattle.std.proofs.lemmas.List.{length-append}
use Rattle.gx_hash.specs.declared.kind.HashKind.{HashKind}
use Rattle.gx_hash.specs.declared.kind.HashKind.TheVariants as hash_kind
use Rattle.gx_hash.specs.declared.oid.ObjectId.{ObjectId}
use Rattle.gx_hash.specs.HashKind.{len_in_bytes}
use Rattle.gx_hash.specs.ObjectId.{id_from_bytes}
use Rattle.gx_object.specs.declared.tree.Entry.{Entry}
use Rattle.gx_object.specs.Split.{Lacks}
use Rattle.gx_object.specs.Tree.{is_writable_filename}
use Rattle.gx_object.specs.TreeSpelling.{SpellsMode, BeginsWithEntry}
use Rattle.gx_object.specs.Laws.Splits.{cut_once, never_cut, digits_lack}

-- an id has as many bytes as its kind
pub id_length : (hash : HashKind) (id : List ℕ) (oid : ObjectId) → id_from_bytes hash id ≡ Some oid → length id ≡ len_in_bytes hash
id_length hash_kind.Sha1 id oid is = eqb-true _ _ (cond_some _ _ _ is).0
id_length hash_kind.Sha256 id oid is = eqb-true _ _ (cond_some _ _ _ is).0

pub mode_lacks : (digits : List ℕ) (mode : ℕ) → SpellsMode digits mode → Lacks 32 digits
mode_lacks digits mode spelled = digits_lack 8 32 (omega arith) (omega arith) digits spelled.number.0.1

pub name_lacks : (name : List ℕ) → IsTrue (is_writable_filename name) → Lacks 0 name
name_lacks name writable = (and_parts _ _ writable).1

regrouped : (digits name id rest : List ℕ) → digits ++ 32 ∷ name ++ 0 ∷ id ++ rest ≡ digits ++ 32 ∷ (name ++ 0 ∷ (id ++ rest))
regrouped digits name id rest = simp append_assoc

-- what follows the digits of an entry's mode
pub entry_whole : (hash : HashKind) (bytes : List ℕ) (entry : Entry) (rest : List ℕ) (begins : BeginsWithEntry hash bytes entry rest) → let spelled = begins.2 in bytes ≡ spelled.digits ++ 32 ∷ (entry.filename ++ 0 ∷ (spelled.id ++ rest))
entry_whole hash bytes entry rest begins =
    let spelled = begins.2 in
    begins.1 ∙ ap (λ x. x ++ rest) spelled.whole ∙ regrouped spelled.digits entry.filename spelled.id rest

-- an entry has a space after its mode
pub no_space : (hash : HashKind) (bytes : List ℕ) → Lacks 32 bytes → (entry : Entry) (rest : List ℕ) → ¬ BeginsWithEntry hash bytes entry rest
no_space hash bytes lacks entry rest begins = never_cut 32 bytes _ _ lacks (entry_whole hash bytes entry rest begins)

pub after_space : (hash : HashKind) (bytes digits behind : List ℕ) → bytes ≡ digits ++ 32 ∷ behind → Lacks 32 digits → (entry : Entry) (rest : List ℕ) (begins : BeginsWithEntry hash bytes entry rest) → let spelled = begins.2 in (digits ≡ spelled.digits) × (behind ≡ entry.filename ++ 0 ∷ (spelled.id ++ rest))
after_space hash bytes digits behind whole lacks entry rest begins =
    let spelled = begins.2 in
    cut_once 32 digits spelled.digits behind _ lacks (mode_lacks _ _ spelled.mode) (sym whole ∙ entry_whole hash bytes entry rest begins)

pub no_mode : (hash : HashKind) (bytes digits behind : List ℕ) → bytes ≡ digits ++ 32 ∷ behind → Lacks 32 digits → ((mode : ℕ) → ¬ SpellsMode digits mode) → (entry : Entry) (rest : List ℕ) → ¬ BeginsWithEntry hash bytes entry rest
no_mode hash bytes digits behind whole lacks none entry rest begins =
    let same = (after_space hash bytes digits behind whole lacks entry rest begins).0 in
    let mode = begins.2.mode in none entry.mode.value (rw same mode)

-- a name ends at a zero byte
pub no_zero : (hash : HashKind) (bytes digits behind : List ℕ) → bytes ≡ digits ++ 32 ∷ behind → Lacks 32 digits → Lacks 0 behind → (entry : Entry) (rest : List ℕ) → ¬ BeginsWithEntry hash bytes entry rest
no_zero hash bytes digits behind whole lacks none entry rest begins = never_cut 0 behind _ _ none (after_space hash bytes digits behind whole lacks entry rest begins).1

pub after_zero : (hash : HashKind) (bytes digits behind name last : List ℕ) → bytes ≡ digits ++ 32 ∷ behind → Lacks 32 digits → behind ≡ name ++ 0 ∷ last → Lacks 0 name → (entry : Entry) (rest : List ℕ) (begins : BeginsWithEntry hash bytes entry rest) → let spelled = begins.2 in (name ≡ entry.filename) × (last ≡ spelled.id ++ rest)
after_zero hash bytes digits behind name last whole lacks more none entry rest begins =
    let spelled = begins.2 in
    cut_once 0 name entry.filename last _ none (name_lacks entry.filename spelled.filename) (sym more ∙ (after_space hash bytes digits behind whole lacks entry rest begins).1)

-- no name is empty
pub no_name : (hash : HashKind) (bytes digits behind name last : List ℕ) → bytes ≡ digits ++ 32 ∷ behind → Lacks 32 digits → behind ≡ name ++ 0 ∷ last → Lacks 0 name → length name ≡ 0 → (entry : Entry) (rest : List ℕ) → ¬ BeginsWithEntry hash bytes entry rest
no_name hash bytes digits behind name last whole lacks more none empty entry rest begins =
    let same = (after_zero hash bytes digits behind name last whole lacks more none entry rest begins).0 in
    let some = (and_parts _ _ begins.2.filename).0 in
    eqb-false (length entry.filename) 0 (not-true _ some) (rw (← same) empty)

-- an id is whole
pub no_id : (hash : HashKind) (bytes digits behind name last : List ℕ) → bytes ≡ digits ++ 32 ∷ behind → Lacks 32 digits → behind ≡ name ++ 0 ∷ last → Lacks 0 name → length last < len_in_bytes hash → (entry : Entry) (rest : List ℕ) → ¬ BeginsWithEntry hash bytes entry rest
no_id hash bytes digits behind name last whole lacks more none short entry rest begins =
    let same = (after_zero hash bytes digits behind name last whole lacks more none entry rest begins).1 in
    let spelled = begins.2 in
    let id = id_length hash spelled.id entry.oid spelled.oid in
    let both = ap length same in
    let sum = length-append spelled.id rest in absurd (omega arith)

-- the entry that a mode, a name and an id make
pub entry_found : (hash : HashKind) (bytes digits behind name last id rest : List ℕ) (entry : Entry) → bytes ≡ digits ++ 32 ∷ behind → behind ≡ name ++ 0 ∷ last → last ≡ id ++ rest → Lacks 0 name → (length name ≡ 0 → ⊥) → SpellsMode digits entry.mode.value → entry.filename ≡ name → id_from_bytes hash id ≡ Some entry.oid → BeginsWithEntry hash bytes entry rest
entry_found hash bytes digits behind name last id rest entry whole more end none some mode named oid =
    let text : List ℕ = digits ++ 32 ∷ entry.filename ++ 0 ∷ id in
    let inner : behind ≡ entry.filename ++ 0 ∷ (id ++ rest) = more ∙ ap (λ x. x ++ 0 ∷ last) (sym named) ∙ ap (λ x. entry.filename ++ 0 ∷ x) end in
    let writable : IsTrue (is_writable_filename entry.filename) = rw named (and_from _ _ (not_from_false _ (ne_eqb (length name) 0 some)) none) in (
      text,
      whole ∙ ap (λ x. digits ++ 32 ∷ x) inner ∙ sym (regrouped digits entry.filename id rest),
      record {
        digits = digits;
        id = id;
        whole = refl;
        mode = mode;
        filename = writable;
        oid = oid;
      },
    )
