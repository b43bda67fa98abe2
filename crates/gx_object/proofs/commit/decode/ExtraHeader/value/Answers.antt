use Rattle.std.proofs.Common.{◌≡◌, ◌∙◌, ap, rules}
use Rattle.bstr.specs.BStr.{bstr_bytes}
use Rattle.gx_object.specs.CommitSpelling.{unfolded}
use Rattle.gx_object.specs.Laws.Unfolding.{unfolded_again}
use Rattle.gx_object.proofs.commit.decode.ExtraHeader.value.Goals as goal

pub returns-clause-folded : goal.returns-clause-folded
returns-clause-folded c value e = let p : c.from_vec.result ≡ unfolded (bstr_bytes c.args.self.now.raw) = search rules in p ∙ ap unfolded e ∙ unfolded_again value
