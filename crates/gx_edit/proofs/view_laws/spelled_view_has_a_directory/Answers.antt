use Rattle.std.specs.Prelude.{◌≡◌, true}
use Rattle.gx_object.specs.declared.tree.Entry.{Entry}
use Rattle.gx_object.specs.Tree.{is_writable_filename}
use Rattle.gx_edit.proofs.WrittenDirectory.{plain_directory, output_named}
use Rattle.gx_edit.proofs.view_laws.spelled_view_has_a_directory.Goals as goal

pub returns : goal.returns
returns c = λ hash content v m output s out plain writable.
    plain_directory hash content v out.root.0 out.root.1 m s plain (output_named hash content (λ (e : Entry). is_writable_filename e.filename ≡ true) v output out writable)
