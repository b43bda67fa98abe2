-- Descriptions as text. (git-describe(1), "DESCRIPTION", "--long", "--abbrev")
use Rattle.std.specs.Prelude.{ℕ, ◌==◌, ◌||◌, not, List, ◌++◌, codes, take, Option, Some, None, decimal, if◌then◌else◌}
use Rattle.gx_hash.specs.ObjectId.{hex_of}
use Rattle.gx_hash.specs.declared.oid.ObjectId.{ObjectId}
use Rattle.gx_walk.specs.declared.describe.Format.{Format}

-- the first digits of an id, or all of them
abbrev pub prefix_digits : ObjectId → ℕ → List ℕ
prefix_digits id hex_len = take hex_len (hex_of id)

-- the name, the depth and the prefix: `v1-2-g0123456`
abbrev pub long_text : List ℕ → ℕ → List ℕ → List ℕ
long_text name depth prefix = name ++ codes "-" ++ decimal depth ++ codes "-g" ++ prefix

-- the long text, or the name alone at depth 0 where the long one was not asked for; without a name the prefix alone
abbrev pub text_of : Option (List ℕ) → Format → List ℕ
text_of None f = prefix_digits f.id f.hex_len
text_of (Some name) f = if f.long || not (f.depth == 0)
    then long_text name f.depth (prefix_digits f.id f.hex_len) else name

-- the text of a description
abbrev pub format_text : Format → List ℕ
format_text f = text_of f.name f
