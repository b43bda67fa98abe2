-- What is stored can be loaded.
use Rattle.std.proofs.Common.{◌≡◌, ◌≤◌, ◌<◌, ◌∙◌, sym, ap, refl, subst, List, ℕ, Option, Some, None, length, arith, inl, inr, ◌⊎◌}
use Rattle.std.proofs.lemmas.Bool.{cases_lt}
use Rattle.std.proofs.lemmas.List.{take_all}
use Rattle.std.specs.FinMap.{empty}
use Rattle.gx_hash.specs.declared.kind.HashKind.{HashKind}
use Rattle.gx_hash.specs.declared.oid.ObjectId.{ObjectId}
use Rattle.gx_object.specs.declared.kind.Kind.{Kind}
use Rattle.gx_object.specs.declared.kind.Kind.TheVariants as kind
use Rattle.gx_object.specs.declared.tree.Entry.{Entry}
use Rattle.gx_object.specs.TreeSpelling.{SpellsTree, ReadsUpTo}
use Rattle.gx_object.specs.Laws.{tree_once}
use Rattle.gx_store.specs.Content.{Content, lookup}
use Rattle.gx_edit.specs.StoredTree.{HasEntries, IsReadable}
use Rattle.gx_edit.specs.View.{Names, IsLoad, names_of}

-- all bytes are read up to some place
abbrev pub Reader : HashKind → Type 0
Reader hash = (bytes : List ℕ) → (entries : List Entry) × (end : ℕ) × ReadsUpTo hash bytes entries end

one : (a b : Kind × List ℕ) → ◌≡◌ {A = Option (Kind × List ℕ)} (Some a) (Some b) → a ≡ b
one a b e = cc

-- no bytes that are stored at the id as a tree spell entries
abbrev pub IsUnread : HashKind → Content → ObjectId → Type 0
IsUnread hash content id = (entries : List Entry) → HasEntries hash content id entries → ⊥

module _ (hash : HashKind) (content : Content) (reader : Reader hash) where
  found : Option (Kind × List ℕ) → Names
  found None = empty
  found (Some (kind.Tree, bytes)) = names_of (reader bytes).0
  found (Some (other, bytes)) = empty

  load_of : ObjectId → Names
  load_of id = found (lookup content id)

  -- bytes that spell a tree are read up to their end
  read_whole : (bytes : List ℕ) (entries : List Entry) → SpellsTree hash bytes entries → SpellsTree hash bytes (reader bytes).0
  read_whole bytes entries spelled = go (cases_lt (reader bytes).1 (length bytes))
    where
      reads : ReadsUpTo hash bytes (reader bytes).0 (reader bytes).1
      reads = (reader bytes).2

      go : ((reader bytes).1 < length bytes) ⊎ (length bytes ≤ (reader bytes).1) → SpellsTree hash bytes (reader bytes).0
      go (inl less) = absurd (reads.longest (length bytes) entries less (omega arith) (subst (λ b. SpellsTree hash b entries) (sym (take_all (length bytes) bytes (omega arith))) spelled))
      go (inr more) = subst (λ b. SpellsTree hash b (reader bytes).0) (take_all (reader bytes).1 bytes more) reads.front

  pub has_load : (load : ObjectId → Names) × IsLoad hash content load
  unfolding load_of found
  has_load = (load_of, λ id entries has. ap found has.stored ∙ ap names_of (tree_once hash has.bytes (reader has.bytes).0 entries (read_whole has.bytes entries has.spelled) has.spelled))

  pub readable : (id : ObjectId) → IsReadable hash content id ⊎ IsUnread hash content id
  readable id = by (lookup content id) refl
    where
      by : (o : Option (Kind × List ℕ)) → lookup content id ≡ o → IsReadable hash content id ⊎ IsUnread hash content id
      by None e = inr (λ entries has. let no : ◌≡◌ {A = Option (Kind × List ℕ)} None (Some (kind.Tree, has.bytes)) = sym e ∙ has.stored in cc)
      by (Some (kind.Tree, bytes)) e = go (cases_lt (reader bytes).1 (length bytes))
        where
          reads : ReadsUpTo hash bytes (reader bytes).0 (reader bytes).1
          reads = (reader bytes).2

          same : (other : List ℕ) → ◌≡◌ {A = Option (Kind × List ℕ)} (Some (kind.Tree, bytes)) (Some (kind.Tree, other)) → other ≡ bytes
          same other is = sym (ap (λ (x : Kind × List ℕ). x.1) (one (kind.Tree, bytes) (kind.Tree, other) is))

          go : ((reader bytes).1 < length bytes) ⊎ (length bytes ≤ (reader bytes).1) → IsReadable hash content id ⊎ IsUnread hash content id
          go (inl less) = inr (λ entries has. reads.longest (length bytes) entries less (omega arith)
              (subst (λ b. SpellsTree hash b entries) (same has.bytes (sym e ∙ has.stored) ∙ sym (take_all (length bytes) bytes (omega arith))) has.spelled))
          go (inr more) = inl (record {
            entries = (reader bytes).0;
            has = record { bytes = bytes; stored = e; spelled = subst (λ b. SpellsTree hash b (reader bytes).0) (take_all (reader bytes).1 bytes more) reads.front };
          })
      by (Some (kind.Blob, bytes)) e = inr (λ entries has. let no : kind.Blob ≡ kind.Tree = ap (λ (x : Kind × List ℕ). x.0) (one (kind.Blob, bytes) (kind.Tree, has.bytes) (sym e ∙ has.stored)) in cc)
      by (Some (kind.Commit, bytes)) e = inr (λ entries has. let no : kind.Commit ≡ kind.Tree = ap (λ (x : Kind × List ℕ). x.0) (one (kind.Commit, bytes) (kind.Tree, has.bytes) (sym e ∙ has.stored)) in cc)
      by (Some (kind.Tag, bytes)) e = inr (λ entries has. let no : kind.Tag ≡ kind.Tree = ap (λ (x : Kind × List ℕ). x.0) (one (kind.Tag, bytes) (kind.Tree, has.bytes) (sym e ∙ has.stored)) in cc)
