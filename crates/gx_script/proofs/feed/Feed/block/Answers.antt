use Rattle.std.proofs.Common.{ap, ◌∙◌, List, ℕ, take}
use Rattle.gx_script.specs.Script.{newlines_in}
use Rattle.gx_script.specs.Reading.{line_number}
use Rattle.gx_script.proofs.ReaderLemmas.{bad_block}
use Rattle.gx_script.proofs.feed.Feed.block.Goals as goal

pub returns-then-held-count-ne10-clause-block : goal.returns-then-held-count-ne10-clause-block
returns-then-held-count-ne10-clause-block g c =
    let found = rw c.if-not-branch.false at c.in_ok-find_block.ensures.found in
    rw c.malformed_behind-then-held-count-ne10.ensures (bad_block _ _ _ _ _ _ _ found.0 found.1 (rw c.held-2.ensures at c.if-held-count-ne10.true)
    (ap (line_number c.find_block.new.self) (c.newlines_of-then-held-count-ne10.ensures ∙ ap (λ (h : List ℕ). newlines_in (take c.args.count h)) c.held-then-held-count-ne10.ensures)))
