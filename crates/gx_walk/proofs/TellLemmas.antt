-- Facts of what a store tells, and causes of errors, handed on.
use Rattle.std.proofs.Common.{◌≡◌, refl, Some, None, Option, IfSome}
use Rattle.gx_hash.specs.declared.oid.ObjectId.{ObjectId}
use Rattle.gx_store.specs.Content.{Content}
use Rattle.gx_store.specs.State.{StoreState, OfFault, IsUnreadable}
use Rattle.gx_store.specs.declared.error.StoreError.{StoreError}
use Rattle.gx_store.specs.declared.error.StoreError.TheVariants as store_error
use Rattle.gx_store.specs.declared.error.What.TheVariants as what
use Rattle.gx_walk.specs.Causes.{CommitCauses}
use Rattle.gx_walk.specs.History.{History, IsHistoryOf, Told}
use Rattle.gx_walk.specs.Lifting.{lifted_store}
use Rattle.gx_walk.specs.declared.error.WalkError.{WalkError}
use Rattle.gx_walk.specs.declared.error.WalkError.TheVariants.{Missing, NotACommit, NotATree, Decode, TreeCycle, Cancelled, Store, NoMemory}

abbrev Of : StoreState → (History → Type 0) → Content → Type 0
Of state P content = (history : History) → IsHistoryOf state.hash content history → P history

-- what holds of every history holds of the one that is told
pub told_all : (state : StoreState) (P : History → Type 0) → ((h : History) → P h) → Told state P
told_all state P f = go state.content where
  go : (o : Option Content) → IfSome o (Of state P)
  go None = tt
  go (Some content) = λ h is. f h

pub told_then : (state : StoreState) (P Q : History → Type 0) → ((h : History) → P h → Q h) → Told state P → Told state Q
told_then state P Q f p = go state.content p where
  go : (o : Option Content) → IfSome o (Of state P) → IfSome o (Of state Q)
  go None p = tt
  go (Some content) p = λ h is. f h (p h is)

pub told_both : (state : StoreState) (P Q R : History → Type 0) → ((h : History) → P h → Q h → R h) → Told state P → Told state Q → Told state R
told_both state P Q R f p q = go state.content p q where
  go : (o : Option Content) → IfSome o (Of state P) → IfSome o (Of state Q) → IfSome o (Of state R)
  go None p q = tt
  go (Some content) p q = λ h is. f h (p h is) (q h is)

pub told_three : (state : StoreState) (P Q R T : History → Type 0) → ((h : History) → P h → Q h → R h → T h) → Told state P → Told state Q → Told state R → Told state T
told_three state P Q R T f p q r = told_both state (λ h. P h × Q h) R T (λ h pq. f h pq.0 pq.1) (told_both state P Q (λ h. P h × Q h) (λ h p q. (p, q)) p q) r

-- what follows from a fact of the content, for each history of it
pub told_from : (state : StoreState) (C : Content → Type 0) (P : History → Type 0) → ((content : Content) (h : History) → IsHistoryOf state.hash content h → C content → P h) → IfSome state.content C → Told state P
told_from state C P f c = go state.content c where
  go : (o : Option Content) → IfSome o C → IfSome o (Of state P)
  go None c = tt
  go (Some content) c = λ h is. f content h is c

pub content_then : (state : StoreState) (C D : Content → Type 0) → ((content : Content) → C content → D content) → IfSome state.content C → IfSome state.content D
content_then state C D f c = go state.content c where
  go : (o : Option Content) → IfSome o C → IfSome o D
  go None c = tt
  go (Some content) c = f content c

-- an error names an id of which more is known
pub causes_then : (state : StoreState) (N M : ObjectId → Type 0) (e : WalkError) → ((id : ObjectId) → N id → M id) → CommitCauses state N e → CommitCauses state M e
causes_then state N M (Missing id) f c = (f id c.0, c.1)
causes_then state N M (NotACommit id) f c = (f id c.0, c.1)
causes_then state N M (Decode id) f c = (f id c.0, c.1)
causes_then state N M (Store part) f c = (c.0, c.1, c.2, f c.0 c.3)
causes_then state N M NoMemory f c = tt
causes_then state N M (NotATree id) f c = absurd c
causes_then state N M (TreeCycle id) f c = absurd c
causes_then state N M Cancelled f c = absurd c

-- an error of the store that was read at an id
pub lifted_causes : (state : StoreState) (id : ObjectId) (error : StoreError) → OfFault error (IsUnreadable state (what.Object id)) → CommitCauses state (λ one. one ≡ id) (lifted_store error)
lifted_causes state id store_error.NoMemory h = tt
lifted_causes state id (store_error.Fault part) h = (id, h.0, h.1, refl)
