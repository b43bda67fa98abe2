-- Objects that become those of one kind, and that are read as one.
use Rattle.std.specs.Prelude.{◌≡◌, ◌≢◌, ◌⊎◌, Result, MatchResult}
use Rattle.gx_object.specs.declared.decode.DecodeError.{DecodeError}
use Rattle.gx_object.specs.declared.decode.DecodeError.TheVariants as decode
use Rattle.gx_object.specs.declared.kind.Kind.{Kind}
use Rattle.gix.specs.AttachedObjects.{Attached, of_object}
use Rattle.gix.specs.declared.object.conversion.ConversionError.{ConversionError}
use Rattle.gix.specs.declared.object.conversion.ConversionError.TheVariants as conversion
use Rattle.gix.specs.declared.object.conversion.KindError.{KindError}
use Rattle.gix.specs.declared.types.Object.{Object}
use Rattle.gix.specs.declared.types.ObjectDetached.{ObjectDetached}

-- The object is of another kind than the one that is asked for, and the error tells of it.
abbrev pub IsOfOtherKind : ObjectDetached → Kind → KindError → Type 0
IsOfOtherKind object asked e =
    (e ≡ record { id = object.id; expected = asked; actual = object.kind }) × (object.kind ≢ asked)

-- An object becomes the same object as a value of its kind. One of another kind is handed back as it was.
abbrev pub Converts : {S Value : Type 0} → (Value → Attached S) → Kind → Object S → Result Value (Object S) → Type 0
Converts shown asked object result = MatchResult result (λ value. shown value ≡ of_object object)
    (λ back. (of_object back ≡ of_object object) × (object.kind ≢ asked))

-- The bytes are not read as an object of the kind, for a cause of its decoder.
abbrev pub IsUnread : (DecodeError → Type 0) → ConversionError → Type 0
IsUnread causes (conversion.Decode at) = causes (decode.Decode at)
IsUnread causes (conversion.UnexpectedType expected actual) = ⊥
IsUnread causes conversion.NoMemory = causes decode.NoMemory

-- The object is of another kind than the one that is asked for, and the error tells of it.
abbrev pub IsUnexpected : ObjectDetached → Kind → ConversionError → Type 0
IsUnexpected object asked e = (e ≡ conversion.UnexpectedType asked object.kind) × (object.kind ≢ asked)

-- Why an object is not read as one of a kind: it is, and its bytes are not read; or it is of another kind.
abbrev pub ConversionCauses : ObjectDetached → Kind → (DecodeError → Type 0) → ConversionError → Type 0
ConversionCauses object asked causes e =
    ((object.kind ≡ asked) × IsUnread causes e) ⊎ IsUnexpected object asked e
