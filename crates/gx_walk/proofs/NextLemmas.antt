-- What a call of `next` makes of a walk.
use Rattle.std.proofs.Common.{◌≡◌, Bool, List, Option, refl, subst, inl}
use Rattle.std.specs.Prelude.{Result, Ok, Err, IfErr}
use Rattle.gx_hash.specs.declared.oid.ObjectId.{ObjectId}
use Rattle.gx_store.specs.State.{StoreState}
use Rattle.gx_walk.specs.Causes.{CommitCauses}
use Rattle.gx_walk.specs.Course.{IfAt, IfUnderWay, IsAt, IsUnderWay}
use Rattle.gx_walk.specs.History.{History, Told}
use Rattle.gx_walk.specs.Simple.{Walk, IsHidden, IsNamed}
use Rattle.gx_walk.specs.declared.commit.course.Course.{Course}
use Rattle.gx_walk.specs.declared.commit.info.Info.{Info}
use Rattle.gx_walk.specs.declared.commit.sorting.WalkOptions.{WalkOptions}
use Rattle.gx_walk.specs.declared.error.WalkError.{WalkError}
use Rattle.gx_walk.proofs.AskedLemmas.{Answers}
use Rattle.gx_walk.proofs.TellLemmas.{told_then, told_both, causes_then}

-- a walk from its parts
abbrev pub walk_of : {S F : Type 0} → S → F → WalkOptions → List ObjectId → Answers → Bool → Walk S F
walk_of store filter options listed asked failed = record {
  store = store;
  filter = filter;
  options = options;
  listed = listed;
  asked = asked;
  failed = failed;
}

module _ (state : StoreState) (options : WalkOptions) (old : Course) (asked : Answers) where
  -- what a walk that begins may name, it may name as it goes on
  pub named_at_start : (e : WalkError) → CommitCauses state (λ id. Told state (λ history. IsHidden history options id)) e
      → CommitCauses state (λ id. IfAt state options old (λ history. IsNamed history options asked old.listed.items id)) e
  named_at_start e causes = causes_then state (λ id. Told state (λ history. IsHidden history options id))
      (λ id. IfAt state options old (λ history. IsNamed history options asked old.listed.items id)) e
      (λ id told. told_then state (λ history. IsHidden history options id) (λ history. IsAt history options old → IsNamed history options asked old.listed.items id)
      (λ history hidden at. inl hidden) told) causes

  -- what is named once the walk is under way
  pub named_under_way : (mid : Course) (r : Result (Option Info) WalkError) → IfAt state options old (λ history. IsUnderWay history options mid) → mid.listed.items ≡ old.listed.items
      → IfErr r (CommitCauses state (λ id. IfUnderWay state options mid (λ history. IsNamed history options asked mid.listed.items id)))
      → IfErr r (CommitCauses state (λ id. IfAt state options old (λ history. IsNamed history options asked old.listed.items id)))
  named_under_way mid (Ok found) begun same causes = tt
  named_under_way mid (Err e) begun same causes = causes_then state (λ id. IfUnderWay state options mid (λ history. IsNamed history options asked mid.listed.items id))
      (λ id. IfAt state options old (λ history. IsNamed history options asked old.listed.items id)) e
      (λ id told. told_both state (λ history. IsAt history options old → IsUnderWay history options mid) (λ history. IsUnderWay history options mid → IsNamed history options asked mid.listed.items id)
      (λ history. IsAt history options old → IsNamed history options asked old.listed.items id)
      (λ history to of at. subst (λ w. IsNamed history options asked w id) same (of (to at))) begun told) causes

module _ (state : StoreState) (options : WalkOptions) (course : Course) (at : Told state (λ history. IsAt history options course)) where
  -- what holds where the walk stands holds
  pub told_at : (P : History → Type 0) → IfAt state options course P → Told state P
  told_at P of = told_both state (λ history. IsAt history options course) (λ history. IsAt history options course → P history) P (λ history here go. go here) at of

  pub named_at : (P : ObjectId → History → Type 0) (e : WalkError) → CommitCauses state (λ id. IfAt state options course (P id)) e → CommitCauses state (λ id. Told state (P id)) e
  named_at P e causes = causes_then state (λ id. IfAt state options course (P id)) (λ id. Told state (P id)) e (λ id of. told_at (P id) of) causes

-- a walk is what it was but for its list and for whether it failed
pub walk_is : {S F : Type 0} (store : S) (filter : F) (options : WalkOptions) (listed more : List ObjectId) (asked : Answers) (failed ended : Bool) → listed ≡ more → failed ≡ ended
    → walk_of store filter options listed asked failed ≡ walk_of store filter options more asked ended
walk_is store filter options listed more asked failed ended same end = rw (same, end) refl
