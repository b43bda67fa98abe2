-- From the first line of a request and what stands after it to the request.
use Rattle.std.proofs.Common.{◌≡◌, ◌∙◌, sym, ap, refl, ℕ, ◌≤◌, List, [], ◌∷◌, length, Option, arith}
use Rattle.gx_hash.specs.declared.oid.ObjectId.{ObjectId}
use Rattle.gx_object.specs.declared.kind.Kind.{Kind}
use Rattle.gx_object.specs.declared.signature.Signature.{Signature}
use Rattle.gx_store.specs.declared.target.Target.{Target}
use Rattle.gx_script.specs.declared.error.ScriptError.{ScriptError}
use Rattle.gx_script.specs.declared.opening.Opening.TheVariants as opening
use Rattle.gx_script.specs.declared.request.CommitRequest.{CommitRequest}
use Rattle.gx_script.specs.declared.request.Expect.{Expect}
use Rattle.gx_script.specs.declared.request.Request.{Request}
use Rattle.gx_script.specs.declared.request.Request.TheVariants.{Commit, Tag, Ref, NoteSet}
use Rattle.gx_script.specs.Commits.{commit_line}
use Rattle.gx_script.specs.Fields.{tagger_word, committer_word}
use Rattle.gx_script.specs.Grammar.{AtAuthor, AtNote, AtOver, AtPerson, Leads, FailsFrom, ReadsRest, commit_tail, FitsCommit, described_items, FitsDescribed}
use Rattle.gx_script.specs.Items.{Line, Block, items_text, ended, block_limit}
use Rattle.gx_script.specs.Notes.{note_set_line}
use Rattle.gx_script.specs.Reading.{Reading, Moves}
use Rattle.gx_script.specs.Steps.{BlockFails}
use Rattle.gx_script.proofs.BodyLemmas.{one_moved}
use Rattle.gx_script.proofs.GrammarLemmas.{block_fails_from}
use Rattle.gx_script.proofs.ReaderLemmas.{moves_none}
use Rattle.gx_script.proofs.StateLemmas.{has_note}

pub whole_line : (request : Request) (a : Reading) (l : Option (List ℕ)) → ReadsRest (opening.OneLine request) a a l l request
whole_line request a l = record { tail = []; items = λ line e. e; form = λ fits. fits; leads = refl; moves = moves_none a l }

pub whole_commit : (name : List ℕ) (request : CommitRequest) (a b : Reading) (l m : Option (List ℕ)) → FitsCommit a.hash name request × Leads a.hash AtAuthor (commit_tail request) AtOver × Moves a b l m (items_text (commit_tail request)) → ReadsRest (opening.Commit name) a b l m (Commit request)
whole_commit name request a b l m p = record {
  tail = commit_tail request;
  items = λ line e. ap (λ (x : List ℕ). Line x ∷ commit_tail request) (ap commit_line p.0.0 ∙ sym e);
  form = λ named. p.0.1 named;
  leads = p.1;
  moves = p.2;
}

pub whole_tag : (name : List ℕ) (target : ObjectId) (kind : Kind) (tagger : Option Signature) (message : List ℕ) (a b : Reading) (l m : Option (List ℕ))
    → FitsDescribed (tagger, message) × Leads a.hash (AtPerson tagger_word) (described_items tagger_word (tagger, message)) AtOver × Moves a b l m (items_text (described_items tagger_word (tagger, message)))
    → ReadsRest (opening.Tag name target kind) a b l m (Tag (record { name = name; target = target; kind = kind; tagger = tagger; message = message }))
whole_tag name target kind tagger message a b l m p = record {
  tail = described_items tagger_word (tagger, message);
  items = λ line e. ap (λ (x : List ℕ). Line x ∷ described_items tagger_word (tagger, message)) (sym e);
  form = λ fits. record { some = fits.0; name = fits.1; target = fits.2; tagger = p.0 };
  leads = p.1;
  moves = p.2;
}

pub whole_ref : (name : List ℕ) (target : Target) (expect : Expect) (committer : Option Signature) (message : List ℕ) (a b : Reading) (l m : Option (List ℕ))
    → FitsDescribed (committer, message) × Leads a.hash (AtPerson committer_word) (described_items committer_word (committer, message)) AtOver × Moves a b l m (items_text (described_items committer_word (committer, message)))
    → ReadsRest (opening.Ref name target expect) a b l m (Ref (record { name = name; target = target; expect = expect; committer = committer; message = message }))
whole_ref name target expect committer message a b l m p = record {
  tail = described_items committer_word (committer, message);
  items = λ line e. ap (λ (x : List ℕ). Line x ∷ described_items committer_word (committer, message)) (sym e);
  form = λ fits. record { name = fits.0; target = fits.1; expect = fits.2; committer = p.0 };
  leads = p.1;
  moves = p.2;
}

pub note_cut : (size : ℕ) (a : Reading) (l n : Option (List ℕ)) (f h : ℕ) (e : ScriptError) → size ≤ block_limit → BlockFails size a l n f h e → FailsFrom (AtNote size) a l n f h e
note_cut size a l n f h e le fails = block_fails_from (AtNote size) size a l n f h e (has_note a.hash size le) fails

pub whole_note : (reference : List ℕ) (object : ObjectId) (size : ℕ) (note : List ℕ) (a b : Reading) (l m : Option (List ℕ)) → size ≤ block_limit → (length note ≡ size) × Moves a b l m (ended note)
    → ReadsRest (opening.NoteSet reference object size) a b l m (NoteSet (record { reference = reference; object = object; note = note }))
whole_note reference object size note a b l m le block = record {
  tail = Block note ∷ [];
  items = λ line e. ap (λ (x : List ℕ). Line x ∷ Block note ∷ []) (ap (note_set_line reference object) block.0 ∙ sym e);
  form = λ fits. fits.0;
  leads = ((block.0, omega (arith, block.0, le)), refl);
  moves = one_moved a b l m (Block note) block.1;
}
