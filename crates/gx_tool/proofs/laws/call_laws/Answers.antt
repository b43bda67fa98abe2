use Rattle.gx_tool.proofs.laws.call_laws.Goals as goal

pub returns : goal.returns
returns c = record {
  commit = c.commit_edits_is_lawful.ensures;
  commit_admits = c.valid_commit_is_not_refused.ensures;
  log = c.log_is_lawful.ensures;
  references = c.references_is_lawful.ensures;
  edits = c.edit_references_is_lawful.ensures;
  edits_admit = c.edits_that_may_be_made_are_not_refused.ensures;
  refs_is_relative = c.refs_is_a_relative_path.ensures;
}
