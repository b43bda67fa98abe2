-- What the test calls of a store in memory make of its state.
use Rattle.std.specs.Prelude.{◌≡◌, ℕ, codes, Bool, true, false, ◌||◌, List, Some, nat_eq, option_map}
use Rattle.std.specs.Cmp.Lexicographic.{pointwise}
use Rattle.std.specs.FinMap.{insert, empty}
use Rattle.gx_hash.specs.declared.kind.HashKind.{HashKind}
use Rattle.gx_hash.specs.declared.oid.ObjectId.{ObjectId}
use Rattle.gx_object.specs.declared.kind.Kind.{Kind}
use Rattle.gx_hash.specs.ObjectIds.{id_eq}
use Rattle.gx_store.specs.Content.{Content}
use Rattle.gx_store.specs.Faults.{Rose}
use Rattle.gx_store.specs.State.{StoreState, RefState, Becomes}
use Rattle.gx_store.specs.declared.target.Target.TheVariants.{Symbolic}
use Rattle.gx_store.specs.declared.error.What.{What}
use Rattle.gx_store.specs.declared.error.What.TheVariants.{Object, Name, Index, Listing, Write}

-- A change that fails has raised the count, and one that doesn't has changed nothing yet.
abbrev pub Fails : Bool → StoreState → StoreState → Type 0
Fails true old new = Becomes old new × Rose old.faults new.faults
Fails false old new = new ≡ old

-- A new repository has no object and no log, and `HEAD` is symbolic to `refs/heads/main`. (Ours: Git's own default is
-- `master`; git-init(1), "--initial-branch".)
abbrev pub fresh_refs : RefState
fresh_refs = record { targets = insert empty (codes "HEAD") (Symbolic (codes "refs/heads/main")); logs = empty }

-- The state of a new repository tells all, can read all, and has counted no fault.
abbrev pub fresh : HashKind → StoreState
fresh hash = record {
  hash = hash;
  content = Some empty;
  references = Some fresh_refs;
  unreadable = λ _. false;
  faults = 0;
}

-- a test that also holds of an object
abbrev pub or_object : ObjectId → (What → Bool) → What → Bool
or_object id test (Object other) = test (Object other) || id_eq id other
or_object id test (Name name) = test (Name name)
or_object id test Index = test Index
or_object id test Listing = test Listing
or_object id test Write = test Write

-- a test that also holds of a name
abbrev pub or_name : List ℕ → (What → Bool) → What → Bool
or_name name test (Object id) = test (Object id)
or_name name test (Name other) = test (Name other) || pointwise nat_eq name other
or_name name test Index = test Index
or_name name test Listing = test Listing
or_name name test Write = test Write

-- a test that also holds of the index
abbrev pub or_index : (What → Bool) → What → Bool
or_index test (Object id) = test (Object id)
or_index test (Name name) = test (Name name)
or_index test Index = true
or_index test Listing = test Listing
or_index test Write = test Write

-- a test that also holds of the listing
abbrev pub or_listing : (What → Bool) → What → Bool
or_listing test (Object id) = test (Object id)
or_listing test (Name name) = test (Name name)
or_listing test Index = test Index
or_listing test Listing = true
or_listing test Write = test Write

-- the state in which an object can't be read, besides what couldn't be before
abbrev pub with_broken_object : ObjectId → StoreState → StoreState
with_broken_object id state = record state { unreadable = or_object id state.unreadable }

-- the same of a name
abbrev pub with_broken_name : List ℕ → StoreState → StoreState
with_broken_name name state = record state { unreadable = or_name name state.unreadable }

-- the same of the index
abbrev pub with_broken_index : StoreState → StoreState
with_broken_index state = record state { unreadable = or_index state.unreadable }

-- the same of the listing
abbrev pub with_broken_listing : StoreState → StoreState
with_broken_listing state = record state { unreadable = or_listing state.unreadable }

-- the state with an object at an id, whatever was there, and whatever the id is the digest of
abbrev pub with_object_put : ObjectId → Kind × List ℕ → StoreState → StoreState
with_object_put id object state =
    record state { content = option_map (λ (c : Content). insert c id object) state.content }
