-- Which of the fields of a value is named, where several can't be written.
use Rattle.std.specs.Prelude.{Bool, not, List, [], ◌∷◌, Option, Some, None, Result, IsErrOf}
use Rattle.std.specs.List.{find}
use Rattle.gx_object.specs.declared.encode.EncodeError.{EncodeError}
use Rattle.gx_object.specs.declared.encode.EncodeError.TheVariants.{Unwritable}
use Rattle.gx_object.specs.declared.encode.Field.{Field}
use Rattle.gx_object.specs.declared.encode.Field.TheVariants.{FileName, AuthorName, AuthorEmail, AuthorOffset, CommitterName, CommitterEmail, CommitterOffset, TaggerName, TaggerEmail, TaggerOffset, TagName, Encoding, HeaderName}

-- each field, in the order in which they are tested
abbrev pub all_fields : List Field
all_fields =
    FileName ∷ AuthorName ∷ AuthorEmail ∷ AuthorOffset ∷ CommitterName ∷ CommitterEmail ∷ CommitterOffset
    ∷ TaggerName ∷ TaggerEmail ∷ TaggerOffset ∷ TagName ∷ Encoding ∷ HeaderName ∷ []

-- the first field that can't be written
abbrev pub first_unwritable : (Field → Bool) → Option Field
first_unwritable is_writable = find (λ field. not (is_writable field)) all_fields

-- The answer names this field exactly where there is one; else it names none.
abbrev pub NamesUnwritable : {T : Type 0} → Option Field → Result T EncodeError → Type 0
NamesUnwritable (Some field) result = IsErrOf result (Unwritable field)
NamesUnwritable None result = (field : Field) → ¬ IsErrOf result (Unwritable field)
