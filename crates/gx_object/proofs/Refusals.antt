-- Why bytes are refused, where memory may have run out first.
use Rattle.std.proofs.Common.{◌≡◌, refl, ℕ, List, map, Result, Ok, Err, IfOk, IfErr, MatchResult}
use Rattle.gx_hash.specs.declared.kind.HashKind.{HashKind}
use Rattle.gx_object.specs.declared.decode.DecodeError.{DecodeError}
use Rattle.gx_object.specs.declared.decode.DecodeError.TheVariants.{Decode, NoMemory}
use Rattle.gx_object.specs.declared.tree.Entry.{Entry}
use Rattle.gx_object.specs.declared.tree.decode.TreeRef.{TreeRef}
use Rattle.gx_object.specs.CommitItems.{SpellsMessage, SpellsNone}
use Rattle.gx_object.specs.CommitSpelling.{CommitCauses}
use Rattle.gx_object.specs.PartsRead.{object_text}
use Rattle.gx_object.specs.TreeSpelling.{entry_of, SpellsTree, TreeCauses}
use Rattle.gx_object.specs.Laws.TreeFronts.{bad_place, tree_once}

-- ---- trees

-- what is answered for a tree is that tree
pub only_tree : (hash : HashKind) (bytes : List ℕ) (result : Result TreeRef DecodeError) → IfOk result (λ tree. SpellsTree hash bytes (map entry_of tree.entries)) → IfErr result (TreeCauses hash bytes)
    → (entries : List Entry) → SpellsTree hash bytes entries → MatchResult result (λ tree. map entry_of tree.entries ≡ entries) (λ error. error ≡ NoMemory)
only_tree hash bytes (Ok tree) p q entries s = tree_once hash bytes (map entry_of tree.entries) entries p s
only_tree hash bytes (Err (Decode at)) p q entries s = absurd (bad_place hash bytes at entries q s)
only_tree hash bytes (Err NoMemory) p q entries s = refl

-- ---- commits

-- a commit with a message is one
pub memory_causes : (hash : HashKind) (bytes said : List ℕ) → SpellsMessage (object_text hash bytes) said → CommitCauses hash bytes NoMemory
memory_causes hash bytes said p = (p.commit, p.spells)

pub place_causes : (hash : HashKind) (bytes : List ℕ) (error : DecodeError) → SpellsNone (object_text hash bytes) error → CommitCauses hash bytes error
place_causes hash bytes (Decode at) p = let same : p.at ≡ at = cc in rw (← same) p.none
place_causes hash bytes NoMemory p = let e = p.error in absurd (cc)
