use Rattle.gx_tool.proofs.commit_form.commit.Goals as goal

pub returns : goal.returns
returns g c = record {
  outcome = c.commit_edits.result;
  told = c.commit_reply.ensures;
  means = rw c.as_slice.ensures at (rw c.as_slice-2.ensures at (rw c.as_slice-3.ensures at c.commit_edits.ensures));
}
