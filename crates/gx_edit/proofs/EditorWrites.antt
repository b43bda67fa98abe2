-- What is written of an editor's view represents the map that the view stood for.
use Rattle.std.proofs.Common.{◌≡◌, ◌≢◌, ◌∙◌, ◌⊎◌, inl, inr, sym, ap, subst, List, [], ◌∷◌, ℕ, Option, Some, None, IfSome, Contains}
use Rattle.std.specs.Prelude.{option_map}
use Rattle.std.specs.List.{AllByRecursion}
use Rattle.gx_hash.specs.declared.kind.HashKind.{HashKind}
use Rattle.gx_hash.specs.declared.oid.ObjectId.{ObjectId}
use Rattle.gx_hash.specs.ObjectId.{null_id}
use Rattle.gx_object.specs.declared.kind.Kind.{Kind}
use Rattle.gx_rules.specs.declared.component_rules.Protect.{Protect}
use Rattle.gx_store.specs.Content.{Content, AreApart, AreOfOwnIds, lookup, id_of, with_objects}
use Rattle.gx_store.specs.Laws.{WritingAdds, AddedIsFound, FoundStays}
use Rattle.gx_store.specs.State.{StoreState}
use Rattle.gx_edit.specs.CanonicalTree.{Represents, trees_of}
use Rattle.gx_edit.specs.EditorWriting.{RepresentsView}
use Rattle.gx_edit.specs.Output.{Output}
use Rattle.gx_edit.specs.StandsForMap.{StandsForMap, IsKept}
use Rattle.gx_edit.specs.View.{View}
use Rattle.gx_edit.specs.Writing.{Writes}
use Rattle.gx_edit.specs.Written.{IsOutputOfView}
use Rattle.gx_edit.proofs.WrittenLists.{first_or_later, none_in, all_at, all_of}
use Rattle.gx_edit.proofs.WrittenTrees.{output_trees, output_represents}

-- ---- objects that are apart

module _ (hash : HashKind) where
  own_pair : (objects : List (Kind × List ℕ)) → AreOfOwnIds hash objects → (x y : Kind × List ℕ) → Contains objects x → Contains objects y → id_of hash x ≡ id_of hash y → x ≡ y
  own_pair [] own x y hx hy same = absurd (none_in x hx)
  own_pair (o ∷ objects) own x y hx hy same = go (first_or_later o x objects hx) (first_or_later o y objects hy) (λ fx fy. own_pair objects own.1 x y fx fy same)
    where
      go : (o ≡ x) ⊎ Contains objects x → (o ≡ y) ⊎ Contains objects y → (Contains objects x → Contains objects y → x ≡ y) → x ≡ y
      go (inl ox) (inl oy) more = sym ox ∙ oy
      go (inl ox) (inr fy) more = sym ox ∙ sym (all_at (λ other. id_of hash other ≡ id_of hash o → other ≡ o) objects y own.0 fy (sym same ∙ ap (id_of hash) (sym ox)))
      go (inr fx) (inl oy) more = all_at (λ other. id_of hash other ≡ id_of hash o → other ≡ o) objects x own.0 fx (same ∙ ap (id_of hash) (sym oy)) ∙ oy
      go (inr fx) (inr fy) more = more fx fy

  module _ (objects : List (Kind × List ℕ)) where
    own_part : AreOfOwnIds hash objects → (xs : List (Kind × List ℕ)) → AllByRecursion (Contains objects) xs → AreOfOwnIds hash xs
    own_part own [] among = tt
    own_part own (x ∷ xs) among = (
      all_of (λ other. id_of hash other ≡ id_of hash x → other ≡ x) xs (λ y h same. own_pair objects own y x (all_at (Contains objects) xs y among.1 h) among.0 same),
      own_part own xs among.1,
    )

    -- some of them are apart too
    pub part_apart : (content : Content) (xs : List (Kind × List ℕ)) → AllByRecursion (Contains objects) xs → AreApart hash content objects → AreApart hash content xs
    part_apart content xs among apart = record {
      named = all_of (λ x. id_of hash x ≢ null_id hash) xs (λ x h. all_at (λ y. id_of hash y ≢ null_id hash) objects x apart.named (all_at (Contains objects) xs x among h));
      own = own_part apart.own xs among;
      agreed = all_of (λ x. IfSome (lookup content (id_of hash x)) (λ there. there ≡ x)) xs (λ x h. all_at (λ y. IfSome (lookup content (id_of hash y)) (λ there. there ≡ y)) objects x apart.agreed (all_at (Contains objects) xs x among h));
    }

-- ---- the map

found_still : (new : Content) (id : ObjectId) (object : Kind × List ℕ) (o : Option (Kind × List ℕ)) → o ≡ Some object → IfSome o (λ there. lookup new id ≡ Some there) → lookup new id ≡ Some object
found_still new id object None is h = cc
found_still new id object (Some there) is h = h ∙ is

told_both : (hash : HashKind) (objects : List (Kind × List ℕ)) (old new : Option Content) (A B P : Content → Type 0) → new ≡ option_map (with_objects hash objects) old
    → ((before : Content) → A before → B before → P (with_objects hash objects before)) → IfSome old (λ before. A before → B before → IfSome new P)
told_both hash objects None new A B P is f = tt
told_both hash objects (Some before) new A B P is f = λ a b. subst (λ t. IfSome t P) (sym is) (f before a b)

module _ (adds : WritingAdds) (found : AddedIsFound) (stays : FoundStays) where
  pub represents_view : (v : View) (protect : Option Protect) (s u : StoreState) (o : Output) → IsOutputOfView s.hash v o → (id : ObjectId) → Writes o protect s id u → RepresentsView v s id u
  represents_view v protect s u o out id h = λ m d stands.
      told_both s.hash o.trees s.content u.content (λ before. StandsForMap s.hash before v m) (λ before. AreApart s.hash before (trees_of s.hash d)) (λ after. Represents s.hash after id m) (ap (λ (x : StoreState). x.content) h.becomes.same)
      (λ before st apart.
      let after : Content = with_objects s.hash o.trees before in
      let own : AreApart s.hash before o.trees = part_apart s.hash (trees_of s.hash d) before o.trees (output_trees s.hash before v m o d st out stands) apart in
      let kept : IsKept before after = λ i object there. found_still after i object (lookup before i) there (stays s.hash o.trees before after own (adds s.hash o.trees before) i) in
      subst (λ r. Represents s.hash after r m) (sym h.is_root)
      (output_represents s.hash before after kept v m o d st out stands (found s.hash o.trees before after own (adds s.hash o.trees before))))
