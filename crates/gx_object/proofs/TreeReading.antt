-- How a tree is read, entry by entry.
use Rattle.std.proofs.Common.{◌≡◌, ◌<◌, ◌+◌, ◌-◌, ◌∙◌, ℕ, List, [], ◌∷◌, ◌++◌, length, map, append_assoc, sym, ap, refl, arith}
use Rattle.std.proofs.lemmas.List.{append-nil, length-append, map-append}
use Rattle.gx_hash.specs.declared.kind.HashKind.{HashKind}
use Rattle.gx_object.specs.declared.decode.DecodeError.TheVariants.{NoMemory}
use Rattle.gx_object.specs.declared.tree.Entry.{Entry}
use Rattle.gx_object.specs.declared.tree.decode.EntryRef.{EntryRef}
use Rattle.gx_object.specs.TreeSpelling.{entry_of, SpellsTree, IsBadPlace, TreeCauses, BeginsWithEntry}
use Rattle.gx_object.specs.Laws.TreeFronts.{entry_long, tree_none, tree_push, reads_here}

-- the bytes are those that spell the entries so far, and the rest
pub record HasRead (hash : HashKind) (bytes rest : List ℕ) (entries : List EntryRef) : Type 0 where
  pub front : List ℕ
  pub whole : bytes ≡ front ++ rest
  pub tree : SpellsTree hash front (map entry_of entries)

pub reads_more : (hash : HashKind) (bytes rest behind : List ℕ) (entries : List EntryRef) (e : EntryRef) → HasRead hash bytes rest entries → BeginsWithEntry hash rest (entry_of e) behind → HasRead hash bytes behind (entries ++ e ∷ [])
reads_more hash bytes rest behind entries e read begins = record {
  front = read.front ++ begins.0;
  whole = read.whole ∙ ap (λ x. read.front ++ x) begins.1 ∙ sym (append_assoc read.front begins.0 behind);
  tree = rw (map-append entry_of entries (e ∷ [])) (tree_push hash read.front begins.0 _ (entry_of e) read.tree begins.2);
}

-- each entry takes bytes
pub entry_shortens : (hash : HashKind) (rest : List ℕ) (entry : Entry) (behind : List ℕ) → BeginsWithEntry hash rest entry behind → length behind < length rest
entry_shortens hash rest entry behind begins =
    let long = entry_long hash begins.0 entry begins.2 in
    let sum = length-append begins.0 behind in rw begins.1 (omega arith)

pub reads_all : (hash : HashKind) (bytes rest : List ℕ) (entries : List EntryRef) → HasRead hash bytes rest entries → length rest ≡ 0 → SpellsTree hash bytes (map entry_of entries)
reads_all hash bytes [] entries read empty = rw (read.whole ∙ append-nil read.front) read.tree
reads_all hash bytes (b ∷ bs) entries read empty = absurd (omega arith)

-- ---- the place, whatever the entries are

-- some entries take up the bytes before the rest
pub record HasPassed (hash : HashKind) (bytes rest : List ℕ) : Type 0 where
  pub front : List ℕ
  pub entries : List Entry
  pub whole : bytes ≡ front ++ rest
  pub tree : SpellsTree hash front entries

pub passes_none : (hash : HashKind) (bytes : List ℕ) → HasPassed hash bytes bytes
passes_none hash bytes = record { front = []; entries = []; whole = refl; tree = tree_none hash }

pub passes_more : (hash : HashKind) (bytes rest behind : List ℕ) (e : Entry) → HasPassed hash bytes rest → BeginsWithEntry hash rest e behind → HasPassed hash bytes behind
passes_more hash bytes rest behind e passed begins = record {
  front = passed.front ++ begins.0;
  entries = passed.entries ++ e ∷ [];
  whole = passed.whole ∙ ap (λ x. passed.front ++ x) begins.1 ∙ sym (append_assoc passed.front begins.0 behind);
  tree = tree_push hash passed.front begins.0 passed.entries e passed.tree begins.2;
}

pub passes_all : (hash : HashKind) (bytes rest : List ℕ) → HasPassed hash bytes rest → length rest ≡ 0 → TreeCauses hash bytes NoMemory
passes_all hash bytes [] passed empty = (passed.entries, rw (passed.whole ∙ append-nil passed.front) passed.tree)
passes_all hash bytes (b ∷ bs) passed empty = absurd (omega arith)

pub passes_bad : (hash : HashKind) (bytes rest : List ℕ) → HasPassed hash bytes rest → 0 < length rest → ((entry : Entry) (behind : List ℕ) → ¬ BeginsWithEntry hash rest entry behind) → IsBadPlace hash bytes (length bytes - length rest)
passes_bad hash bytes rest passed some none =
    let sum = length-append passed.front rest in
    let long : length bytes ≡ length passed.front + length rest = ap length passed.whole ∙ sum in
    let place : length bytes - length rest ≡ length passed.front = omega arith in record {
      before = passed.entries;
      reads = rw place (rw passed.whole (reads_here hash passed.front rest passed.entries passed.tree none));
      more = omega arith;
    }
