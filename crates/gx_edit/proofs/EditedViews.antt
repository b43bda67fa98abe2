-- Lists of edits, made of a view and of the map that it stands for.
use Rattle.std.proofs.Common.{◌≡◌, ◌⊎◌, ◌==◌, inl, inr, sym, refl, subst, cond, List, [], ◌∷◌, ℕ, Bool, true, false, IsSome}
use Rattle.std.specs.List.{AllByRecursion}
use Rattle.gx_hash.specs.declared.kind.HashKind.{HashKind}
use Rattle.gx_hash.specs.declared.oid.ObjectId.{ObjectId}
use Rattle.gx_store.specs.Content.{Content}
use Rattle.gx_edit.specs.Path.{Path, components, at_front}
use Rattle.gx_edit.specs.PathMap.{PathMap, put, dropped, edited, file_mode, path_of, with_edit}
use Rattle.gx_edit.specs.PathList.{IsLeaf}
use Rattle.gx_edit.specs.CanonicalTree.{IsLeafMode}
use Rattle.gx_edit.specs.StandsForMap.{StandsForMap, IsAbove, item_of}
use Rattle.gx_edit.specs.View.{Names, View, IsLoad, upserted, removed}
use Rattle.gx_edit.specs.ViewOfEdits.{file_leaf, link_leaf, module_leaf, view_with, edited_view, PutsOwnId, LeadsToEdit}
use Rattle.gx_edit.specs.declared.leaf.Leaf.{Leaf}
use Rattle.gx_edit.specs.declared.path_edit.PathEdit.{PathEdit}
use Rattle.gx_edit.specs.declared.path_edit.PathEdit.TheVariants.{File, Link, Module, Remove}
use Rattle.gx_edit.proofs.LoadedPaths.{upserted_loaded, removed_loaded}
use Rattle.gx_edit.proofs.ViewEdits.{upserted_stands, removed_stands}
use Rattle.gx_edit.proofs.WrittenLists.{in_first, in_later}

-- a written path has a first name
record IsPath (p : Path) : Type 0 where
  pub first : List ℕ
  pub rest : Path
  pub is : p ≡ first ∷ rest

front_path : (b : ℕ) (p : Path) → IsPath (at_front b p)
front_path b [] = record { first = b ∷ []; rest = []; is = refl }
front_path b (n ∷ p) = record { first = b ∷ n; rest = p; is = refl }

some_path : (bytes : List ℕ) → IsPath (components bytes)
some_path [] = record { first = []; rest = []; is = refl }
some_path (b ∷ bytes) = go (b == 47)
  where
    go : (t : Bool) → IsPath (cond t ([] ∷ components bytes) (at_front b (components bytes)))
    go true = record { first = []; rest = components bytes; is = refl }
    go false = front_path b (components bytes)

file_is_leaf : (executable : Bool) → IsLeafMode (file_mode executable)
file_is_leaf true = inr (inl refl)
file_is_leaf false = inl refl

module _ (hash : HashKind) (content : Content) (load : ObjectId → Names) (loads : IsLoad hash content load) where
  abbrev Stands : View → PathMap → Type 0
  Stands = StandsForMap hash content

  put_stands : (v : View) (m : PathMap) (path : List ℕ) (leaf : Leaf) → IsLeaf leaf → Stands v m → Stands (upserted hash load v (components path) (item_of leaf)) (put m (components path) leaf)
  put_stands v m path leaf good s =
      let p = some_path path in
      subst (λ q. Stands (upserted hash load v q (item_of leaf)) (put m q leaf)) (sym p.is) (upserted_stands hash content load loads v m p.first p.rest leaf good s)

  drop_stands : (v : View) (m : PathMap) (path : List ℕ) → Stands v m → Stands (removed hash load v (components path)) (dropped m (components path))
  drop_stands v m path s =
      let p = some_path path in
      subst (λ q. Stands (removed hash load v q) (dropped m q)) (sym p.is) (removed_stands hash content load loads v m p.first p.rest s)

  edit_stands : (v : View) (m : PathMap) (edit : PathEdit) → PutsOwnId hash edit → Stands v m → Stands (view_with hash load v edit) (with_edit hash m edit)
  edit_stands v m (File path bytes executable) own s = put_stands v m path (file_leaf hash bytes executable) (record { mode = file_is_leaf executable; id = own }) s
  edit_stands v m (Link path bytes) own s = put_stands v m path (link_leaf hash bytes) (record { mode = inr (inr (inl refl)); id = own }) s
  edit_stands v m (Module path id) own s = put_stands v m path (module_leaf id) (record { mode = inr (inr (inr refl)); id = own }) s
  edit_stands v m (Remove path) own s = drop_stands v m path s

  pub edits_stand : (edits : List PathEdit) (v : View) (m : PathMap) → AllByRecursion (PutsOwnId hash) edits → Stands v m → Stands (edited_view hash load v edits) (edited hash m edits)
  edits_stand [] v m own s = s
  edits_stand (edit ∷ edits) v m own s = edits_stand edits (view_with hash load v edit) (with_edit hash m edit) own.1 (edit_stands v m edit own.0 s)

module _ (hash : HashKind) (load : ObjectId → Names) where
  edit_loads : (v : View) (edit : PathEdit) (q : Path) → IsSome (view_with hash load v edit q) → IsSome (v q) ⊎ IsAbove q (components (path_of edit))
  edit_loads v (File path bytes executable) q there = upserted_loaded hash load v (components path) (item_of (file_leaf hash bytes executable)) q there
  edit_loads v (Link path bytes) q there = upserted_loaded hash load v (components path) (item_of (link_leaf hash bytes)) q there
  edit_loads v (Module path id) q there = upserted_loaded hash load v (components path) (item_of (module_leaf id)) q there
  edit_loads v (Remove path) q there = removed_loaded hash load v (components path) q there

  pub edits_load : (edits : List PathEdit) (v : View) (q : Path) → IsSome (edited_view hash load v edits q) → IsSome (v q) ⊎ LeadsToEdit edits q
  edits_load [] v q there = inl there
  edits_load (edit ∷ edits) v q there = go (edits_load edits (view_with hash load v edit) q there)
    where
      here : IsSome (v q) ⊎ IsAbove q (components (path_of edit)) → IsSome (v q) ⊎ LeadsToEdit (edit ∷ edits) q
      here (inl was) = inl was
      here (inr above) = inr (record { edit = edit; among = in_first edit edits; above = above })

      go : IsSome (view_with hash load v edit q) ⊎ LeadsToEdit edits q → IsSome (v q) ⊎ LeadsToEdit (edit ∷ edits) q
      go (inl more) = here (edit_loads v edit q more)
      go (inr leads) = inr (record { edit = leads.edit; among = in_later edit leads.edit edits leads.among; above = leads.above })
