use Rattle.std.proofs.Common.{◌⊎◌, ℕ, subst}
use Rattle.gx_object.specs.CommitSpelling.{CommitText, SpellsCommit, IsNoCommit}
use Rattle.gx_object.specs.PartsRead.{PartsRead}
use Rattle.gx_object.proofs.Judgements.{commit_or_not, one_bad_commit}
use Rattle.gx_object.proofs.laws.bytes_spell_a_commit_or_go_wrong.Goals as goal

pub returns-clause-judged : goal.returns-clause-judged
returns-clause-judged c =
    subst (λ (v : PartsRead). ((t : CommitText) × SpellsCommit v.text.hash v.text.bytes t) ⊎ ((at : ℕ) × IsNoCommit v.text.hash v.text.bytes at)) c.from_bytes.ensures
    (commit_or_not c.from_bytes.result.text c.message.result c.message.ensures.ok c.message.ensures.causes)

pub returns-clause-once : goal.returns-clause-once
returns-clause-once c = one_bad_commit c.args.hash c.args.bytes.now
