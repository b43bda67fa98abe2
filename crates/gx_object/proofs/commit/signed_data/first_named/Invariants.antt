use Rattle.std.proofs.Common.{◌≡◌, List, ℕ, length}
use Rattle.std.specs.List.{AllByRecursion}
use Rattle.gx_object.specs.CommitSignature.{lines_to_end, PassesOthers}
use Rattle.gx_object.specs.CommitSpelling.{HeaderText, IsHeader}
use Rattle.gx_object.proofs.commit.signed_data.first_named.Given as goal

-- headers of other names were passed
abbrev pub invariant-loop-found : goal.invariant-loop-found
invariant-loop-found l = (headers : List HeaderText) (message : List ℕ) → AllByRecursion IsHeader headers → l.bytes ≡ lines_to_end headers message → PassesOthers l.name headers message l.rest

abbrev pub decreases-loop-found : goal.decreases-loop-found
decreases-loop-found l = length l.rest
