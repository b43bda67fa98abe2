-- How the refusals of the crates below are handed on.
use Rattle.gx_edit.specs.declared.error.EditError.{EditError}
use Rattle.gx_edit.specs.declared.error.EditError.TheVariants as edit_error
use Rattle.gx_refs.specs.declared.error.RefError.{RefError}
use Rattle.gx_refs.specs.declared.error.RefError.TheVariants as ref_error
use Rattle.gix.specs.declared.error.CommitEditsError.{CommitEditsError}
use Rattle.gix.specs.declared.error.CommitEditsError.TheVariants.{FindExistingObject, ObjectKind, Decode, InvalidFilename, MissingObject, WriteObject, Cycle, DepthLimitExceeded, MustExist, MustNotExist, ReferenceOutOfDate, NameConflict, Store, NoMemory}

-- it tells of no empty component, and of no directory in place of a leaf
abbrev pub HasPlace : EditError → Type 0
HasPlace edit_error.EmptyPathComponent = ⊥
HasPlace edit_error.IsTree = ⊥
HasPlace refusal = Unit {0}

-- of all but these two
abbrev pub lifted : EditError → CommitEditsError
lifted edit_error.EmptyPathComponent = NoMemory
lifted edit_error.IsTree = NoMemory
lifted (edit_error.FindExistingObject id) = FindExistingObject id
lifted (edit_error.ObjectKind id actual) = ObjectKind id actual
lifted (edit_error.Decode id) = Decode id
lifted (edit_error.InvalidFilename filename kind id source) = InvalidFilename filename kind id source
lifted (edit_error.MissingObject filename kind id) = MissingObject filename kind id
lifted (edit_error.WriteObject field) = WriteObject field
lifted (edit_error.Store fault) = Store fault
lifted edit_error.NoMemory = NoMemory

-- one edit whose lines are signed is refused so: it meets no other
abbrev pub IsOfOne : RefError → Type 0
IsOfOne (ref_error.DuplicateEdit name) = ⊥
IsOfOne ref_error.MissingCommitter = ⊥
IsOfOne (ref_error.Unwritable field) = ⊥
IsOfOne (ref_error.NameValidation error) = ⊥
IsOfOne refusal = Unit {0}

-- of all but these four
abbrev pub of_reference : RefError → CommitEditsError
of_reference (ref_error.DuplicateEdit name) = NoMemory
of_reference ref_error.MissingCommitter = NoMemory
of_reference (ref_error.Unwritable field) = NoMemory
of_reference (ref_error.NameValidation error) = NoMemory
of_reference (ref_error.Cycle name) = Cycle name
of_reference (ref_error.DepthLimitExceeded name) = DepthLimitExceeded name
of_reference (ref_error.MustExist name) = MustExist name
of_reference (ref_error.MustNotExist name actual) = MustNotExist name actual
of_reference (ref_error.ReferenceOutOfDate name expected actual) = ReferenceOutOfDate name expected actual
of_reference (ref_error.NameConflict name with) = NameConflict name with
of_reference (ref_error.Store fault) = Store fault
of_reference ref_error.NoMemory = NoMemory
