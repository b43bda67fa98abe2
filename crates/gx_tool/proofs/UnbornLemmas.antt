-- A commit on an unborn branch, and one that moves the branch of `HEAD` on from its commit, may move it; and what they leave.
use Rattle.std.proofs.Common.{◌≡◌, ◌∙◌, sym, ap, refl, subst, arith, ℕ, zero, suc, ◌+◌, Bool, true, false, not, ◌&&◌, List, [], ◌∷◌, ◌++◌, length, length-append, drop, codes, nat_eq, Option, Some, None, IsTrue, inl, inr}
use Rattle.std.specs.List.{starts_with}
use Rattle.std.specs.FinMap.{get}
use Rattle.std.proofs.lemmas.Bool.{and_parts}
use Rattle.gx_hash.specs.declared.oid.ObjectId.{ObjectId}
use Rattle.gx_object.specs.declared.signature.Signature.{Signature}
use Rattle.gx_object.specs.Identity.{is_writable_identity}
use Rattle.gx_rules.specs.Name.{ForbiddenAt, IsFullName, is_forbidden}
use Rattle.gx_rules.specs.declared.name_error.NameError.TheVariants as broken
use Rattle.gx_store.specs.Conflict.{Conflict, IsFree}
use Rattle.gx_store.specs.State.{RefState}
use Rattle.gx_store.specs.declared.target.Target.{Target}
use Rattle.gx_store.specs.declared.target.Target.TheVariants as target
use Rattle.gx_refs.specs.EditCauses.{AreAccepted, AreMade, MayBeMade}
use Rattle.gx_refs.specs.EditLaws.{OnePlan}
use Rattle.gx_refs.specs.Edits.{EditsReferences}
use Rattle.gx_refs.specs.Chain.{IsChain, IsEnd}
use Rattle.gx_refs.specs.Plan.{IsPlan, ArePlans}
use Rattle.gx_refs.specs.Shown.{IsShownFound}
use Rattle.gx_refs.specs.declared.edit.Change.TheVariants.{Update}
use Rattle.gx_refs.specs.declared.edit.PreviousValue.{PreviousValue}
use Rattle.gx_refs.specs.declared.edit.PreviousValue.TheVariants.{MustNotExist, MustExistAndMatch}
use Rattle.gx_refs.specs.declared.edit.RefEdit.{RefEdit}
use Rattle.gx_refs.specs.declared.edit.RefLog.TheVariants.{AndReference}
use Rattle.gx_refs.specs.declared.log.WriteReflog.{WriteReflog}
use Rattle.gx_refs.specs.declared.plan.Plan.{Plan}
use Rattle.gx_refs.specs.declared.terms.Terms.{Terms}

abbrev pub head : List ℕ
head = codes "HEAD"

abbrev pub branch : List ℕ
branch = codes "refs/heads/main"

-- ---- both names are full

-- no end of the text has the property
nowhere : (List ℕ → Bool) → List ℕ → Bool
nowhere test [] = not (test [])
nowhere test (b ∷ text) = not (test (b ∷ text)) && nowhere test text

none : (t : Bool) → not t ≡ true → IsTrue t → ⊥
none true h e = absurd cc
none false h e = absurd cc

at_none : (test : List ℕ → Bool) (text : List ℕ) → nowhere test text ≡ true → (at : ℕ) → IsTrue (test (drop at text)) → ⊥
unfolding nowhere
at_none test [] h zero is = none (test []) h is
at_none test [] h (suc at) is = none (test []) h is
at_none test (b ∷ text) h zero is = none (test (b ∷ text)) (and_parts _ _ h).0 is
at_none test (b ∷ text) h (suc at) is = at_none test text (and_parts _ _ h).1 at is

allowed : List ℕ → Bool
allowed [] = true
allowed (b ∷ text) = not (is_forbidden b) && allowed text

all_allowed : (text : List ℕ) → allowed text ≡ true → (at : ℕ) → ForbiddenAt text at → ⊥
unfolding allowed
all_allowed [] h zero is = is
all_allowed [] h (suc at) is = is
all_allowed (b ∷ text) h zero is = none (is_forbidden b) (and_parts _ _ h).0 is
all_allowed (b ∷ text) h (suc at) is = all_allowed text (and_parts _ _ h).1 at is

full_head : IsFullName head
unfolding nowhere allowed
full_head broken.Empty = λ e. cc
full_head (broken.InvalidByte at) = λ p. all_allowed head refl at p.here
full_head (broken.RepeatedDot at) = λ p. at_none (λ t. starts_with nat_eq t (codes "..")) head refl at p.here
full_head (broken.ReflogPortion at) = λ p. at_none (λ t. starts_with nat_eq t (codes "@{")) head refl at p.here
full_head broken.StartsWithSlash = λ h. absurd cc
full_head broken.EndsWithSlash = λ h. absurd cc
full_head (broken.RepeatedSlash at) = λ p. at_none (λ t. starts_with nat_eq t (codes "//")) head refl at p.here
full_head (broken.StartsWithDot at) = λ p. at_none (λ t. starts_with nat_eq t (codes ".")) head refl at p.here.0
full_head (broken.LockFileSuffix at) = λ p. at_none (λ t. starts_with nat_eq t (codes ".lock")) head refl at p.here.0
full_head broken.EndsWithDot = λ h. absurd cc
full_head broken.SingleAt = λ e. cc
full_head broken.SomeLowercase = λ p. absurd (let e = p.1 in cc)
full_head broken.NoMemory = λ h. h

full_branch : IsFullName branch
unfolding nowhere allowed
full_branch broken.Empty = λ e. cc
full_branch (broken.InvalidByte at) = λ p. all_allowed branch refl at p.here
full_branch (broken.RepeatedDot at) = λ p. at_none (λ t. starts_with nat_eq t (codes "..")) branch refl at p.here
full_branch (broken.ReflogPortion at) = λ p. at_none (λ t. starts_with nat_eq t (codes "@{")) branch refl at p.here
full_branch broken.StartsWithSlash = λ h. absurd cc
full_branch broken.EndsWithSlash = λ h. absurd cc
full_branch (broken.RepeatedSlash at) = λ p. at_none (λ t. starts_with nat_eq t (codes "//")) branch refl at p.here
full_branch (broken.StartsWithDot at) = λ p. at_none (λ t. starts_with nat_eq t (codes ".")) branch refl at p.here.0
full_branch (broken.LockFileSuffix at) = λ p. at_none (λ t. starts_with nat_eq t (codes ".lock")) branch refl at p.here.0
full_branch broken.EndsWithDot = λ h. absurd cc
full_branch broken.SingleAt = λ e. cc
full_branch broken.SomeLowercase = λ p. p.0 4 refl
full_branch broken.NoMemory = λ h. h

not_longer : (n m : ℕ) → n ≡ n + suc m → ⊥
not_longer n m e = omega (arith, e)

no_own_prefix : (rest : List ℕ) → branch ≡ branch ++ 47 ∷ rest → ⊥
no_own_prefix rest e = not_longer (length branch) (length rest) (ap length e ∙ length-append branch (47 ∷ rest))

no_own_conflict : Conflict branch branch → ⊥
no_own_conflict (inl p) = no_own_prefix p.0 p.1
no_own_conflict (inr p) = no_own_prefix p.0 p.1

-- ---- the edit

-- what is found where the branch names this commit, or none
abbrev pub found_of : Option ObjectId → Option Target
found_of None = None
found_of (Some id) = Some (target.Object id)

-- what an edit over this commit expects
abbrev pub expected_over : Option ObjectId → PreviousValue
expected_over None = MustNotExist
expected_over (Some id) = MustExistAndMatch (target.Object id)

abbrev pub edit_over : List ℕ → Option ObjectId → ObjectId → RefEdit
edit_over message last id = record {
  change = Update (record { mode = AndReference; force_create_reflog = false; message = message }) (expected_over last) (target.Object id);
  name = head;
  deref = true;
}

-- `HEAD` leads to the branch, which names the last commit or is free
pub record LeadsOn (refs : RefState) (last : Option ObjectId) : Type 0 where
  pub leads : get refs.targets head ≡ Some (target.Symbolic branch)
  pub found : get refs.targets branch ≡ found_of last
  pub free : last ≡ None → IsFree refs.targets branch

no_id : (id : ObjectId) → Some id ≡ None → ⊥
no_id id e = cc

module _ (mode : WriteReflog) (who : Signature) (writable : is_writable_identity who ≡ true) (message : List ℕ) (id : ObjectId) where
  abbrev terms : Terms
  terms = record { space = []; mode = mode; committer = Some who }

  abbrev plan_over : Option ObjectId → Plan
  plan_over last = record {
    edit = edit_over message last id;
    way = record {
      before = record { name = head; shown = head } ∷ [];
      end = record { name = branch; shown = branch };
      found = found_of last;
      shown = found_of last;
    };
  }

  module _ (refs : RefState) where
    is_plan : (last : Option ObjectId) → LeadsOn refs last → IsPlan [] (Some refs) (edit_over message last id) (plan_over last)
    is_plan last h = record {
      of_edit = refl;
      way = record { chain = chain; stops = stops last; ends = record { walks = record { walked = record { chain = chain; path = (h.leads, tt) }; before = head ∷ []; last = refl }; is = sym h.found; stops = stops last } };
      shown = record { places = ((refl, inl (refl, full_head)), ((refl, inl (refl, full_branch)), tt)); target = shown last };
    }
      where
        chain : IsChain head (head ∷ branch ∷ [])
        chain = record { others = branch ∷ []; first = refl; distinct = (refl, (refl, tt)); short = omega arith }

        stops : (last : Option ObjectId) → IsEnd (found_of last)
        stops None = tt
        stops (Some id) = tt

        shown : (last : Option ObjectId) → IsShownFound [] (found_of last) (found_of last)
        shown None = refl
        shown (Some id) = (target.Object id, refl, refl)

    accepted : (last : Option ObjectId) → LeadsOn refs last → AreAccepted terms (Some refs) (plan_over last ∷ [])
    accepted None h = record {
      met = (refl, tt);
      apart = (tt, tt);
      room = ((λ made. record { stored = h.free refl; made = ((λ other. no_own_conflict), tt) }), tt);
      signed = ((λ sure. writable), tt);
    }
    accepted (Some last) h = record {
      met = (refl, tt);
      apart = (tt, tt);
      room = ((λ made. absurd cc), tt);
      signed = ((λ sure. writable), tt);
    }

    pub may_move : (last : Option ObjectId) → LeadsOn refs last → MayBeMade terms (Some refs) (edit_over message last id ∷ [])
    may_move last h = record { plans = plan_over last ∷ []; ways = (is_plan last h, tt); accepted = accepted last h }

    one_of : (last : Option ObjectId) → OnePlan → LeadsOn refs last → (plans : List Plan) → ArePlans [] (Some refs) (edit_over message last id ∷ []) plans → plans ≡ plan_over last ∷ []
    one_of last one h [] ways = absurd ways
    one_of last one h (plan ∷ []) ways = ap (λ (p : Plan). p ∷ []) (one [] refs (edit_over message last id) plan (plan_over last) ways.0 (is_plan last h))
    one_of last one h (plan ∷ other ∷ plans) ways = absurd ways.1

    moved : (last : Option ObjectId) (new : RefState) → LeadsOn refs last → EditsReferences terms (plan_over last ∷ []) refs new → LeadsOn new (Some id)
    moved last new h makes = record {
      leads = makes.targets head ∙ h.leads;
      found = makes.targets branch;
      free = λ e. absurd (no_id id e);
    }

    pub moves_on : (last : Option ObjectId) (new : RefState) → OnePlan → LeadsOn refs last → AreMade terms (edit_over message last id ∷ []) refs new → LeadsOn new (Some id)
    moves_on last new one h made = moved last new h (subst (λ (plans : List Plan). EditsReferences terms plans refs new) (one_of last one h made.plans made.ways) made.makes)
