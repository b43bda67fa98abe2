-- A view stands for its map still where what is stored only grew.
use Rattle.std.proofs.Common.{inl, inr, List, [], ◌∷◌, ◌++◌, ℕ, Option, Some, None}
use Rattle.std.specs.FinMap.{get}
use Rattle.gx_hash.specs.declared.kind.HashKind.{HashKind}
use Rattle.gx_hash.specs.declared.oid.ObjectId.{ObjectId}
use Rattle.gx_object.specs.declared.kind.Kind.{Kind}
use Rattle.gx_store.specs.Content.{Content, HoldsAll, id_of}
use Rattle.gx_edit.specs.PathMap.{PathMap}
use Rattle.gx_edit.specs.CanonicalTree.{Represents, trees_of}
use Rattle.gx_edit.specs.View.{Names, View}
use Rattle.gx_edit.specs.StandsForMap.{HoldsAt, StandsForMap, IsKept}
use Rattle.gx_edit.specs.declared.editor.item.Item.{Item}

module _ (hash : HashKind) (old new : Content) (kept : IsKept old new) where
  pub held_still : (objects : List (Kind × List ℕ)) → HoldsAll hash objects old → HoldsAll hash objects new
  held_still [] h = tt
  held_still (object ∷ objects) h = (kept (id_of hash object) object h.0, held_still objects h.1)

  pub represents_still : (tree : ObjectId) (m : PathMap) → Represents hash old tree m → Represents hash new tree m
  represents_still tree m r = record { directory = r.directory; stands = r.stands; is_root = r.is_root; stored = held_still (trees_of hash r.directory) r.stored }

  holds_still : (o : Option Names) (item : Option Item) (m : PathMap) → HoldsAt hash old o item m → HoldsAt hash new o item m
  holds_still (Some names) None m h = h
  holds_still (Some names) (Some item) m h = h
  holds_still None None m h = h
  holds_still None (Some item) m (inl leaf) = inl leaf
  holds_still None (Some item) m (inr (inl placeholder)) = inr (inl placeholder)
  holds_still None (Some item) m (inr (inr t)) = inr (inr (record {
    mode = t.mode;
    not_null = t.not_null;
    has_map = record { represents = represents_still item.id m t.has_map.represents; ids = t.has_map.ids; own = t.has_map.own };
    some = t.some;
  }))

  pub stands_still : (v : View) (m : PathMap) → StandsForMap hash old v m → StandsForMap hash new v m
  stands_still v m s = record { root = s.root; closed = s.closed; no_root = s.no_root; holds = λ d names is n. holds_still (v (d ++ n ∷ [])) (get names n) (λ q. m (d ++ n ∷ q)) (s.holds d names is n) }
