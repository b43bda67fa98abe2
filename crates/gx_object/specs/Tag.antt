-- The bytes of an annotated tag.
use Rattle.std.specs.Prelude.{ℕ, ◌==◌, ◌&&◌, not, Bool, true, List, [], ◌∷◌, ◌++◌, length, codes, Option, Some, None}
use Rattle.std.specs.List.{list_all}
use Rattle.gx_object.specs.declared.kind.Kind.{Kind}
use Rattle.gx_object.specs.declared.signature.Signature.{Signature}
use Rattle.gx_object.specs.declared.tag.Tag.{Tag}
use Rattle.gx_object.specs.declared.encode.Field.{Field}
use Rattle.gx_object.specs.declared.encode.Field.TheVariants.{TagName, TaggerName, TaggerEmail, TaggerOffset}
use Rattle.gx_object.specs.Commit.{id_line, identity_line}
use Rattle.gx_object.specs.Identity.{is_writable_text, is_writable_offset}
use Rattle.gx_object.specs.Kind.{kind_name}

-- the line with the kind of a tag's target
abbrev pub type_line : Kind → List ℕ
type_line kind = codes "type " ++ kind_name kind ++ 10 ∷ []

-- the line with a tag's name
abbrev pub name_line : List ℕ → List ℕ
name_line name = codes "tag " ++ name ++ 10 ∷ []

-- the line that says who made a tag, where that is told
abbrev pub tagger_line : Option Signature → List ℕ
tagger_line None = []
tagger_line (Some who) = identity_line (codes "tagger ") who

-- a signature ends a tag, as it is
abbrev pub signature_bytes : Option (List ℕ) → List ℕ
signature_bytes None = []
signature_bytes (Some text) = text

-- the header lines of a tag: its target, the kind of that, its name, and its tagger where it has one (Git, git-mktag,
-- "Tag Format")
unfoldable pub tag_head_bytes : Tag → List ℕ
tag_head_bytes t =
    id_line (codes "object ") t.target ++ (type_line t.target_kind ++ (name_line t.name ++ tagger_line t.tagger))

-- A tag is its header lines, an empty line, its message and its signature. (Git, git-mktag, "Tag Format";
-- gitformat-signature, "Tag signatures")
unfoldable pub tag_bytes : Tag → List ℕ
tag_bytes t = tag_head_bytes t ++ (10 ∷ t.message ++ signature_bytes t.signature)

-- a tag is named in one line, which is not empty (Git, git-mktag, "Tag Format"; that git-check-ref-format allows it
-- is not asked)
abbrev pub is_writable_tag_name : List ℕ → Bool
is_writable_tag_name name = not (length name == 0) && list_all (λ b. not (b == 10)) name

-- whether a field of the tagger can be written
abbrev pub is_writable_tagger : Option Signature → Field → Bool
is_writable_tagger (Some who) TaggerName = is_writable_text who.name
is_writable_tagger (Some who) TaggerEmail = is_writable_text who.email
is_writable_tagger (Some who) TaggerOffset = is_writable_offset who.time.offset
is_writable_tagger tagger field = true

-- whether a field of a tag can be written
abbrev pub is_writable_tag : Tag → Field → Bool
is_writable_tag t TagName = is_writable_tag_name t.name
is_writable_tag t field = is_writable_tagger t.tagger field
