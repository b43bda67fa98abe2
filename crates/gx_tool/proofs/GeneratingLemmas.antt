-- Runs of the generator, commit by commit.
use Rattle.std.proofs.Common.{◌≡◌, ◌∙◌, sym, ap, refl, subst, ℕ, suc, ◌+◌, ◌<◌, ◌≤◌, true, false, List, [], ◌∷◌, ◌++◌, length, length-append, Option, Some, None, arith, inl, inr}
use Rattle.gx_hash.specs.declared.kind.HashKind.{HashKind}
use Rattle.gx_hash.specs.declared.oid.ObjectId.{ObjectId}
use Rattle.gix.specs.Held.{Held, HeldTold}
use Rattle.gix.specs.MadeCommit.{IsCommitOver}
use Rattle.gix.specs.declared.commit_edits.MadeCommit.{MadeCommit}
use Rattle.gx_script.specs.declared.request.CommitRequest.{CommitRequest}
use Rattle.gx_script.specs.declared.request.Request.{Request}
use Rattle.gx_script.specs.declared.request.Request.TheVariants.{Commit}
use Rattle.gx_tool.specs.CommitForm.{commit_request}
use Rattle.gx_tool.specs.Generating.{IsLast, IsOver, Makes, last_id}
use Rattle.gx_tool.specs.Generator.{commit_after, commit_at, commit_of, last_of, number_after, number_at, replies_of, requests_from, requests_of}
use Rattle.gx_tool.specs.Machine.{IsReply, Run}
use Rattle.gx_tool.specs.Progress.{HasBroken, IsOutcome, IsProgress}
use Rattle.gx_tool.specs.Serving.{ServesAll, Stops}
use Rattle.gx_tool.specs.declared.answer.Answer.TheVariants.{Id}
use Rattle.gx_tool.specs.declared.executing.ExecuteError.{ExecuteError}
use Rattle.gx_tool.specs.declared.executing.ExecuteError.TheVariants as no_reply
use Rattle.gx_tool.specs.declared.generating.Outcome.TheVariants as outcome
use Rattle.gx_tool.specs.declared.generating.Progress.{Progress}
use Rattle.gx_tool.specs.declared.reply.Reply.{Reply}
use Rattle.gx_tool.specs.declared.reply.Reply.TheVariants.{Accepted, Refused}
use Rattle.gx_tool.proofs.CourseLemmas.{run_more, run_none}
use Rattle.gx_tool.proofs.MachineLemmas.{runs_none, runs_on}

-- ---- the lists of requests and replies

requests_more : (place : ℕ) (last : Option ObjectId) (ids : List ObjectId) (id : ObjectId) (at : ℕ) → at ≡ place + length ids → requests_from place last (ids ++ id ∷ []) ≡ requests_from place last ids ++ Commit (commit_at at (last_of last ids)) ∷ []
unfolding requests_from
requests_more place last [] id at is = ap (λ (n : ℕ). Commit (commit_at n last) ∷ []) (omega (arith, is))
requests_more place last (first ∷ ids) id at is = ap (λ l. Commit (commit_at place last) ∷ l) (requests_more (suc place) (Some first) ids id at (omega (arith, is)))

replies_more : (ids : List ObjectId) (id : ObjectId) → replies_of (ids ++ id ∷ []) ≡ replies_of ids ++ Accepted (Id id) ∷ []
unfolding replies_of
replies_more [] id = refl
replies_more (first ∷ ids) id = ap (λ l. Accepted (Id first) ∷ l) (replies_more ids id)

last_of_more : (before : Option ObjectId) (ids : List ObjectId) (id : ObjectId) → last_of before (ids ++ id ∷ []) ≡ Some id
last_of_more before [] id = refl
last_of_more before (first ∷ ids) id = last_of_more (Some first) ids id

last_is : (hash : HashKind) (ids : List ObjectId) (last : Option MadeCommit) → IsLast hash ids last → last_id last ≡ last_of None ids
last_is hash ids None is = ap (λ l. last_of None l) (sym is)
last_is hash ids (Some made) is = sym (ap (λ l. last_of None l) is.is ∙ last_of_more None is.before made.id)

-- ---- the commits so far, at the start of a turn

pub record SoFar (count : ℕ) (start now : Held) (progress : Progress) (number : ℕ) : Type 0 where
  pub ids : List ObjectId
  pub makes : Makes start ids now
  pub counts : progress.count ≡ length ids
  pub is_last : IsLast start.store.hash ids progress.last
  pub going : progress.refused ≡ false
  pub drawn : number ≡ number_at progress.count
  pub kind : now.store.hash ≡ start.store.hash
  pub fits : progress.count ≤ count

makes_none : (held : Held) → Makes held [] held
unfolding requests_from replies_of
makes_none held = record { run = run_none held; machine = runs_none held }

pub first_number : 1 ≡ number_at 0
unfolding number_at
first_number = refl

pub so_far_first : (count : ℕ) (held : Held) → SoFar count held held (record { count = 0; last = None; refused = false }) 1
so_far_first count held = record {
  ids = [];
  makes = makes_none held;
  counts = refl;
  is_last = refl;
  going = refl;
  drawn = first_number;
  kind = refl;
  fits = omega arith;
}

next_number : (place : ℕ) → number_after (number_at place) ≡ number_at (suc place)
unfolding number_at
next_number place = refl

pub drawn_next : (number place next : ℕ) → number ≡ number_at place → next ≡ suc place → number_after number ≡ number_at next
drawn_next number place next drawn is = ap (λ (n : ℕ). number_after n) drawn ∙ next_number place ∙ ap (λ (n : ℕ). number_at n) (sym is)

pub drawn_last : (number count place : ℕ) → number ≡ number_at count → count ≤ place → (count < place → ⊥) → number ≡ number_at place
drawn_last number count place drawn within all = drawn ∙ ap (λ (n : ℕ). number_at n) (omega (arith, within, all))

-- the request of the turn is the generator's next
pub asked_is : (count : ℕ) (start now : Held) (progress : Progress) (number place : ℕ) (s : SoFar count start now progress number) → place ≡ suc progress.count → commit_of place (number_after number) (last_id progress.last) ≡ commit_after s.ids
asked_is count start now progress number place s is =
    ap (λ (n : ℕ). commit_of place n (last_id progress.last)) (drawn_next number progress.count place s.drawn is)
    ∙ ap (λ (l : Option ObjectId). commit_at place l) (last_is start.store.hash s.ids progress.last s.is_last)
    ∙ ap (λ (n : ℕ). commit_at n (last_of None s.ids)) (omega (arith, is, s.counts))

makes_more : (start now next : Held) (ids : List ObjectId) (id : ObjectId) → Makes start ids now → IsReply now (Commit (commit_after ids)) (Accepted (Id id)) next → Makes start (ids ++ id ∷ []) next
makes_more start now next ids id m reply =
    let requests : requests_of (ids ++ id ∷ []) ≡ requests_of ids ++ Commit (commit_after ids) ∷ [] = requests_more 1 None ids id (suc (length ids)) (omega arith) in
    let replies = replies_more ids id in
    record {
      run = subst (λ (l : List Request). ServesAll start l (replies_of (ids ++ id ∷ [])) next) (sym requests)
          (subst (λ (l : List Reply). ServesAll start (requests_of ids ++ Commit (commit_after ids) ∷ []) l next) (sym replies)
          (run_more start now next (requests_of ids) (replies_of ids) (Commit (commit_after ids)) (Accepted (Id id)) m.run reply.served));
      machine = subst (λ (l : List Request). HeldTold (λ o n. Run o l (replies_of (ids ++ id ∷ [])) n) start next) (sym requests)
          (subst (λ (l : List Reply). HeldTold (λ o n. Run o (requests_of ids ++ Commit (commit_after ids) ∷ []) l n) start next) (sym replies)
          (runs_on (requests_of ids) (replies_of ids) (Commit (commit_after ids)) (Accepted (Id id)) start now next m.machine reply.step));
    }

-- one commit more
pub so_far_more : (count : ℕ) (start now next : Held) (progress : Progress) (number place : ℕ) (made : MadeCommit) (asked : CommitRequest) → SoFar count start now progress number → progress.count < count → place ≡ suc progress.count → asked ≡ commit_of place (number_after number) (last_id progress.last) → IsOutcome now asked (outcome.Accepted made) next → SoFar count start next (record { count = place; last = Some made; refused = false }) (number_after number)
so_far_more count start now next progress number place made asked s fewer is same o =
    let asked_next : asked ≡ commit_after s.ids = same ∙ asked_is count start now progress number place s is in
    record {
      ids = s.ids ++ made.id ∷ [];
      makes = makes_more start now next s.ids made.id s.makes (subst (λ (r : CommitRequest). IsReply now (Commit r) (Accepted (Id made.id)) next) asked_next o.0);
      counts = omega (arith, is, s.counts, length-append s.ids (made.id ∷ []));
      is_last = record {
        before = s.ids;
        is = refl;
        over = subst (λ (h : HashKind). IsCommitOver h (commit_request (commit_after s.ids)) made) s.kind (subst (λ (r : CommitRequest). IsCommitOver now.store.hash (commit_request r) made) asked_next o.1);
      };
      going = refl;
      drawn = drawn_next number progress.count place s.drawn is;
      kind = o.2 ∙ s.kind;
      fits = omega (arith, is, fewer);
    }

-- the next one is refused
pub is_refused : (count : ℕ) (start now next : Held) (progress : Progress) (number place : ℕ) (asked : CommitRequest) → SoFar count start now progress number → progress.count < count → place ≡ suc progress.count → asked ≡ commit_of place (number_after number) (last_id progress.last) → IsOutcome now asked outcome.Refused next → IsProgress count start (record { count = progress.count; last = progress.last; refused = true }) next
is_refused count start now next progress number place asked s fewer is same o = record {
  ids = s.ids;
  held = now;
  makes = s.makes;
  counts = s.counts;
  is_last = s.is_last;
  over = (omega (arith, fewer, s.counts), record { refusal = o.0; reply = subst (λ (r : CommitRequest). IsReply now (Commit r) (Refused o.0) next) (same ∙ asked_is count start now progress number place s is) o.1 });
}

-- all are made
pub is_done : (count : ℕ) (start now : Held) (progress : Progress) (number : ℕ) → SoFar count start now progress number → (progress.count < count → ⊥) → IsProgress count start progress now
is_done count start now progress number s all = record {
  ids = s.ids;
  held = now;
  makes = s.makes;
  counts = s.counts;
  is_last = s.is_last;
  over = subst (IsOver count s.ids now now) (sym s.going) (omega (arith, all, s.fits, s.counts), refl);
}

-- the next one gets no reply
pub has_broken : (count : ℕ) (start now next : Held) (progress : Progress) (number place : ℕ) (asked : CommitRequest) (error : ExecuteError) → SoFar count start now progress number → progress.count < count → place ≡ suc progress.count → asked ≡ commit_of place (number_after number) (last_id progress.last) → Stops now (Commit asked) next error → HasBroken count start next error
has_broken count start now next progress number place asked error s fewer is same stops = record {
  ids = s.ids;
  held = now;
  makes = s.makes;
  last = progress.last;
  is_last = s.is_last;
  fewer = omega (arith, fewer, s.counts);
  broken = inl (subst (λ (r : CommitRequest). Stops now (Commit r) next error) (same ∙ asked_is count start now progress number place s is) stops);
}

-- there is no memory for the request
pub has_no_request : (count : ℕ) (start now : Held) (progress : Progress) (number : ℕ) → SoFar count start now progress number → progress.count < count → HasBroken count start now no_reply.NoMemory
has_no_request count start now progress number s fewer = record {
  ids = s.ids;
  held = now;
  makes = s.makes;
  last = progress.last;
  is_last = s.is_last;
  fewer = omega (arith, fewer, s.counts);
  broken = inr (refl, refl);
}
