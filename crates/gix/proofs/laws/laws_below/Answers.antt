use Rattle.gix.proofs.laws.laws_below.Goals as goal

pub returns : goal.returns
returns c = record {
  exists = c.load_exists.ensures;
  empty = c.empty_view_stands.ensures;
  read = c.read_view_stands.ensures;
  edited = c.edited_view_stands.ensures;
  loaded = c.loaded_trees_have_maps.ensures;
  once = c.view_is_written_once.ensures;
  entries = c.written_entries_stand.ensures;
  plain = c.represented_map_is_plain.ensures;
  edits_plain = c.edited_map_is_plain.ensures;
  directory = c.spelled_view_has_a_directory.ensures;
  root = c.written_root_is_the_map.ensures;
  represents = c.stored_output_represents.ensures;
  has_map = c.written_view_has_the_map.ensures;
  unique = c.map_is_unique.ensures;
  have_maps = c.represented_tree_has_a_map.ensures;
  writing = c.writing_adds.ensures;
  added = c.added_is_found.ensures;
  found = c.found_stays.ensures;
  not_refused = c.edits_that_may_be_made_are_not_refused.ensures;
}
