use Rattle.gx_tool.proofs.laws.reads_once.Goals as goal

pub returns : goal.returns
returns c = record {
  bad = c.what_is_bad_has_no_whole_request.ensures;
  nothing = c.no_bytes_are_no_request.ensures;
  one = c.a_script_is_read_one_way.ensures;
}
