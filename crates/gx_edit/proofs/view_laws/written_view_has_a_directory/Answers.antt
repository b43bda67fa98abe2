use Rattle.gx_object.specs.declared.tree.Entry.{Entry}
use Rattle.gx_edit.specs.Path.{IsName}
use Rattle.gx_edit.proofs.WrittenDirectory.{has_directory, output_named}
use Rattle.gx_edit.proofs.view_laws.written_view_has_a_directory.Goals as goal

pub returns : goal.returns
returns c = λ hash content v m output s out names.
    has_directory hash content v out.root.0 out.root.1 m s (output_named hash content (λ (e : Entry). IsName e.filename) v output out names)
