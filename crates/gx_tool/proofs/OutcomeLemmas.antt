-- What the request for a commit of the generator comes to.
use Rattle.std.proofs.Common.{◌≡◌, sym, ap, refl, Result, Ok, Err, IfOk, IfErr}
use Rattle.gix.specs.Held.{Held}
use Rattle.gix.specs.MadeCommit.{IsCommitOver}
use Rattle.gix.specs.Meaning.{Means}
use Rattle.gix.specs.Machine.{commit_edits_meaning}
use Rattle.gix.specs.declared.commit_edits.MadeCommit.{MadeCommit}
use Rattle.gix.specs.declared.error.CommitEditsError.{CommitEditsError}
use Rattle.gx_script.specs.declared.request.CommitRequest.{CommitRequest}
use Rattle.gx_script.specs.declared.request.Request.TheVariants.{Commit}
use Rattle.gx_store.specs.State.{StoreState}
use Rattle.gx_tool.specs.Call.{Executes, refused}
use Rattle.gx_tool.specs.CallLaws.{CallLaws}
use Rattle.gx_tool.specs.CommitForm.{commit_call, commit_request, commit_tells}
use Rattle.gx_tool.specs.Machine.{IsReply}
use Rattle.gx_tool.specs.Progress.{IsOutcome, outcome_told}
use Rattle.gx_tool.specs.Serving.{Stops, call_of}
use Rattle.gx_tool.specs.declared.answer.Answer.TheVariants.{Id}
use Rattle.gx_tool.specs.declared.executing.ExecuteError.{ExecuteError}
use Rattle.gx_tool.specs.declared.generating.Outcome.TheVariants as outcome
use Rattle.gx_tool.specs.declared.refusal.Refusal.{Refusal}
use Rattle.gx_tool.specs.declared.reply.Reply.{Reply}
use Rattle.gx_tool.specs.declared.reply.Reply.TheVariants.{Accepted, Refused}
use Rattle.gx_tool.proofs.CallLemmas.{replied, stopped}
use Rattle.gx_tool.proofs.FormLemmas.{lawful}

executed : (asked : CommitRequest) (old new : Held) (given : Result Reply ExecuteError) → Executes (commit_call asked) old given new → Executes (call_of (Commit asked)) old given new
unfolding call_of
executed asked old new given x = x

gets_reply : CallLaws → (asked : CommitRequest) (old new : Held) (reply : Reply) → Executes (commit_call asked) old (Ok reply) new → IsReply old (Commit asked) reply new
gets_reply laws asked old new reply x = replied (Commit asked) (lawful laws (Commit asked)) old new (Ok reply) (executed asked old new (Ok reply) x)

pub accepted : CallLaws → (asked : CommitRequest) (old new : Held) (made : MadeCommit) → Means (commit_edits_meaning (commit_request asked)) old (Ok made.id) new → IsCommitOver old.store.hash (commit_request asked) made → IsOutcome old asked (outcome.Accepted made) new
accepted laws asked old new made means over =
    (gets_reply laws asked old new (Accepted (Id made.id)) (record { outcome = Ok made.id; told = refl; means = means }), over, ap (λ (s : StoreState). s.hash) means.ok.becomes.same)

refused_by : CallLaws → (asked : CommitRequest) (old new : Held) (e : CommitEditsError) → Means (commit_edits_meaning (commit_request asked)) old (Err e) new → (told : Result Refusal ExecuteError) → commit_tells e ≡ told → IfOk (outcome_told told) (λ o. IsOutcome old asked o new)
refused_by laws asked old new e means (Ok refusal) told = (refusal, gets_reply laws asked old new (Refused refusal) (record { outcome = Err e; told = ap refused (sym told); means = means }))
refused_by laws asked old new e means (Err error) told = tt

stopped_by : (asked : CommitRequest) (old new : Held) (e : CommitEditsError) → Means (commit_edits_meaning (commit_request asked)) old (Err e) new → (told : Result Refusal ExecuteError) → commit_tells e ≡ told → IfErr (outcome_told told) (Stops old (Commit asked) new)
stopped_by asked old new e means (Ok refusal) told = tt
stopped_by asked old new e means (Err error) told = stopped (Commit asked) old new (Err error) (executed asked old new (Err error) (record { outcome = Err e; told = ap refused (sym told); means = means }))

pub not_accepted : CallLaws → (asked : CommitRequest) (old new : Held) (e : CommitEditsError) → Means (commit_edits_meaning (commit_request asked)) old (Err e) new → IfOk (outcome_told (commit_tells e)) (λ o. IsOutcome old asked o new)
not_accepted laws asked old new e means = refused_by laws asked old new e means (commit_tells e) refl

pub not_answered : (asked : CommitRequest) (old new : Held) (e : CommitEditsError) → Means (commit_edits_meaning (commit_request asked)) old (Err e) new → IfErr (outcome_told (commit_tells e)) (Stops old (Commit asked) new)
not_answered asked old new e means = stopped_by asked old new e means (commit_tells e) refl
