-- What is written about a run of the generator, and how it ends.
use Rattle.std.proofs.Common.{◌≡◌, ◌∙◌, sym, ap, refl, subst, ℕ, Bool, true, false, List, [], length, Option, inl, inr}
use Rattle.std.specs.declared.alloc.Global.{Global}
use Rattle.std.specs.Prelude.{String}
use Rattle.gx_hash.specs.declared.kind.HashKind.{HashKind}
use Rattle.gx_hash.specs.declared.oid.ObjectId.{ObjectId}
use Rattle.gx_store.specs.Outside.{Writes}
use Rattle.gx_store.specs.declared.error.What.{What}
use Rattle.gix.specs.Held.{Held}
use Rattle.gix.specs.declared.commit_edits.MadeCommit.{MadeCommit}
use Rattle.gx_tool.specs.Course.{WritesFront, code}
use Rattle.gx_tool.specs.Generating.{EndsSo, Generates, IsBroken, IsFront, IsGenerated, IsOver, Scene, summary_text}
use Rattle.gx_tool.specs.Generator.{commit_after}
use Rattle.gx_tool.specs.Progress.{HasBroken, IsProgress, IsTold}
use Rattle.gx_tool.specs.Serving.{Stops}
use Rattle.gx_tool.specs.Words.{IsGenerate}
use Rattle.gx_tool.specs.declared.executing.ExecuteError.{ExecuteError}
use Rattle.gx_tool.specs.declared.executing.ExecuteError.TheVariants as no_reply
use Rattle.gx_script.specs.declared.request.Request.TheVariants.{Commit}
use Rattle.gx_tool.specs.declared.generating.Progress.{Progress}
use Rattle.gx_tool.specs.declared.status.Status.{Status}
use Rattle.gx_tool.specs.declared.status.Status.TheVariants.{Done, Refusals, Malformed, ReadFault, WriteFault, NoMemory, BadWords, StoreFault, TooLong}
use Rattle.gx_tool.proofs.OutsideLemmas.{writes_none}
use Rattle.gx_tool.proofs.WordLemmas.{one_job}

-- nothing is written of lines that are there
pub wrote_none : (hash : HashKind) (count : ℕ) (last : Option MadeCommit) (written : Option (List ℕ)) → WritesFront written written (summary_text hash count last)
wrote_none hash count last written = record {
  part = [];
  more = summary_text hash count last;
  is = refl;
  short = λ none. cc;
  writes = writes_none written;
}

-- the lines of the commits that were made
lines_of : (count : ℕ) (start now : Scene) (progress : Progress) (p : IsProgress count start.held progress now.held) → summary_text start.held.store.hash progress.count progress.last ≡ summary_text start.held.store.hash (length p.ids) progress.last
lines_of count start now progress p = ap (λ (n : ℕ). summary_text start.held.store.hash n progress.last) p.counts

whole : (count : ℕ) (start now : Scene) (progress : Progress) (refused : Bool) (status : Status) → (p : IsProgress count start.held progress now.held) → progress.refused ≡ refused → Writes start.written now.written (summary_text start.held.store.hash progress.count progress.last)
    → (IsOver count p.ids p.held now.held refused → (out : List ℕ) → out ≡ summary_text start.held.store.hash (length p.ids) progress.last → EndsSo count start now p.ids (summary_text start.held.store.hash (length p.ids) progress.last) out p.held status)
    → Generates count start now status
whole count start now progress refused status p is w ends = record {
  ids = p.ids;
  last = progress.last;
  out = summary_text start.held.store.hash progress.count progress.last;
  held = p.held;
  makes = p.makes;
  is_last = p.is_last;
  writes = w;
  ends = ends (subst (IsOver count p.ids p.held now.held) is p.over) _ (lines_of count start now progress p);
}

front : (count : ℕ) (start now : Scene) (progress : Progress) (status : Status) → (p : IsProgress count start.held progress now.held) → (w : WritesFront start.written now.written (summary_text start.held.store.hash progress.count progress.last))
    → (IsFront w.part (summary_text start.held.store.hash (length p.ids) progress.last) → EndsSo count start now p.ids (summary_text start.held.store.hash (length p.ids) progress.last) w.part p.held status)
    → Generates count start now status
front count start now progress status p w ends = record {
  ids = p.ids;
  last = progress.last;
  out = w.part;
  held = p.held;
  makes = p.makes;
  is_last = p.is_last;
  writes = w.writes;
  ends = ends (record { more = w.more; is = w.is ∙ lines_of count start now progress p; short = w.short });
}

pub told : (count : ℕ) (start now : Scene) (progress : Progress) (status : Status) → IsProgress count start.held progress now.held → IsTold (summary_text start.held.store.hash progress.count progress.last) start.written now.written start.faults now.faults progress status → Generates count start now status
told count start now progress Done p t = whole count start now progress false Done p t.0 t.1 (λ over out is. (over, is))
told count start now progress Refusals p t = whole count start now progress true Refusals p t.0 t.1 (λ over out is. (over, is))
told count start now progress WriteFault p t = front count start now progress WriteFault p t.1 (λ f. ((progress.refused, p.over), f, t.0))
told count start now progress NoMemory p t = front count start now progress NoMemory p t (λ f. inl ((progress.refused, p.over), f))
told count start now progress Malformed p t = absurd t
told count start now progress ReadFault p t = absurd t
told count start now progress BadWords p t = absurd t
told count start now progress StoreFault p t = absurd t
told count start now progress TooLong p t = absurd t

broken : (count : ℕ) (start now : Scene) (error : ExecuteError) (status : Status) → (b : HasBroken count start.held now.held error) → now.written ≡ start.written
    → ((lines : List ℕ) → EndsSo count start now b.ids lines [] b.held status)
    → Generates count start now status
broken count start now error status b same ends = record {
  ids = b.ids;
  last = b.last;
  out = [];
  held = b.held;
  makes = b.makes;
  is_last = b.is_last;
  writes = subst (λ w. Writes start.written w []) (sym same) (writes_none start.written);
  ends = ends (summary_text start.held.store.hash (length b.ids) b.last);
}

-- no memory for the next request, or for its commit
pub broken_memory : (count : ℕ) (start now : Scene) → HasBroken count start.held now.held no_reply.NoMemory → now.written ≡ start.written → Generates count start now NoMemory
broken_memory count start now b same = broken count start now no_reply.NoMemory NoMemory b same (λ lines. inr (b.fewer, b.broken, refl))

stopped : (ids : List ObjectId) (old new : Held) (fault : What) → IsBroken ids old new (no_reply.Store fault) → Stops old (Commit (commit_after ids)) new (no_reply.Store fault)
stopped ids old new fault (inl stops) = stops
stopped ids old new fault (inr none) = cc

-- the store failed at the next one
pub broken_store : (count : ℕ) (start now : Scene) (fault : What) → HasBroken count start.held now.held (no_reply.Store fault) → now.written ≡ start.written → Generates count start now StoreFault
broken_store count start now fault b same = broken count start now (no_reply.Store fault) StoreFault b same (λ lines. (b.fewer, (fault, stopped b.ids b.held now.held fault b.broken), refl))

-- the run that the words ask for answers the number of its status
pub generated : (count asked : ℕ) (words : List (String Global)) (start now : Scene) (status : Status) (number : ℕ) → IsGenerate asked words → Generates asked start now status → number ≡ code status → IsGenerate count words → IsGenerated count start now number
generated count asked words start now status number asks g is also =
    record { status = status; is = is; generates = subst (λ (n : ℕ). Generates n start now status) (one_job asked count words asks also) g }
