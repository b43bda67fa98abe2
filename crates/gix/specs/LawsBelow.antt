-- The laws of the crates below that the laws of commits rest on.
use Rattle.std.specs.Prelude.{◌≡◌}
use Rattle.gx_hash.specs.declared.kind.HashKind.{HashKind}
use Rattle.gx_hash.specs.declared.oid.ObjectId.{ObjectId}
use Rattle.gx_store.specs.Content.{Content}
use Rattle.gx_store.specs.Laws.{WritingAdds, AddedIsFound, FoundStays}
use Rattle.gx_refs.specs.EditLaws.{MadeIsNotRefused}
use Rattle.gx_edit.specs.Path.{Path}
use Rattle.gx_edit.specs.PathMap.{PathMap}
use Rattle.gx_edit.specs.CanonicalTree.{Represents}
use Rattle.gx_edit.specs.SharedIds.{HasIdsOf, HasNoNullId}
use Rattle.gx_edit.specs.ReadMapCauses.{IsStoredTree, IsAtOrBelow, HasNoMap}
use Rattle.gx_edit.specs.LawsView.{LoadExists, EmptyStands, ReadStands, EditedStands, LoadedHasMap, WrittenOnce, WrittenEntriesStand, RepresentedIsPlain, EditedIsPlain, WrittenPlainDirectory, WrittenRoot, WrittenRepresents, WrittenHasMap}

-- No content has two path maps of one tree.
abbrev pub MapIsUnique : Type 0
MapIsUnique = (hash : HashKind) (content : Content) (tree : ObjectId) (m n : PathMap) → HasIdsOf hash m
    → HasIdsOf hash n
    → Represents hash content tree m → Represents hash content tree n → (p : Path) → m p ≡ n p

-- What stands at or below a tree that has a path map is stored as a tree, and none of that is without a map.
abbrev pub TreesHaveMaps : Type 0
TreesHaveMaps = (hash : HashKind) (content : Content) (root : ObjectId) (m : PathMap) → HasIdsOf hash m
    → HasNoNullId hash m → Represents hash content root m → (id : ObjectId) → IsAtOrBelow hash content root id
    → IsStoredTree content id × ¬ HasNoMap hash content root id

-- all of these laws
pub record LawsBelow : Type 0 where
  pub exists : LoadExists
  pub empty : EmptyStands
  pub read : ReadStands
  pub edited : EditedStands
  pub loaded : LoadedHasMap
  pub once : WrittenOnce
  pub entries : WrittenEntriesStand
  pub plain : RepresentedIsPlain
  pub edits_plain : EditedIsPlain
  pub directory : WrittenPlainDirectory
  pub root : WrittenRoot
  pub represents : WrittenRepresents
  pub has_map : WrittenHasMap
  pub unique : MapIsUnique
  pub have_maps : TreesHaveMaps
  pub writing : WritingAdds
  pub added : AddedIsFound
  pub found : FoundStays
  pub not_refused : MadeIsNotRefused
