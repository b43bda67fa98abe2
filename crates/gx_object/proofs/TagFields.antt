-- Which fields of a tag can be written.
use Rattle.std.proofs.Common.{◌≡◌, true}
use Rattle.gx_object.specs.declared.tag.Tag.{Tag}
use Rattle.gx_object.specs.declared.encode.Field.{Field}
use Rattle.gx_object.specs.declared.encode.Field.TheVariants.{TagName}
use Rattle.gx_object.specs.Tag.{is_writable_tag_name, is_writable_tagger, is_writable_tag}

-- a tag can be written where its tagger and its name can
pub all_writable : (t : Tag) → ((field : Field) → is_writable_tagger t.tagger field ≡ true) → is_writable_tag_name t.name ≡ true → (field : Field) → is_writable_tag t field ≡ true
all_writable t tagger name TagName = name
all_writable t tagger name field = tagger field
