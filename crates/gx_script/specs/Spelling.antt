-- How a request is spelled: which lines and blocks it has, in their order. (Ours; docs/SCRIPT.md.)
use Rattle.std.specs.Prelude.{ℕ, List, [], ◌∷◌, ◌++◌, codes}
use Rattle.gx_script.specs.declared.request.Request.{Request}
use Rattle.gx_script.specs.declared.request.Request.TheVariants.{Commit, Identity, Tag, Ref, Delete, Refs, Log, Paths, Walk, Bases, Octopus, Describe, NoteSet, NoteDrop, NoteGet, Head, Namespace}
use Rattle.gx_script.specs.Commits.{commit_items}
use Rattle.gx_script.specs.Fields.{who_text}
use Rattle.gx_script.specs.History.{paths_line, walk_line, bases_line, octopus_line, describe_line}
use Rattle.gx_script.specs.Items.{Item, Line, items_text}
use Rattle.gx_script.specs.Notes.{note_items, note_drop_line, note_get_line}
use Rattle.gx_script.specs.References.{tag_items, ref_items, delete_line, refs_line, log_line, head_line, namespace_line}

-- The word of who commits from now on.
abbrev pub identity_word : List ℕ
identity_word = codes "identity "

-- Four forms have several lines or a block; each other one is a line.
abbrev pub items_of : Request → List Item
items_of (Commit request) = commit_items request
items_of (Identity who) = Line (identity_word ++ who_text who) ∷ []
items_of (Tag request) = tag_items request
items_of (Ref request) = ref_items request
items_of (Delete name expect) = Line (delete_line name expect) ∷ []
items_of (Refs prefix) = Line (refs_line prefix) ∷ []
items_of (Log name) = Line (log_line name) ∷ []
items_of (Paths id) = Line (paths_line id) ∷ []
items_of (Walk order ids) = Line (walk_line order ids) ∷ []
items_of (Bases first others) = Line (bases_line first others) ∷ []
items_of (Octopus ids) = Line (octopus_line ids) ∷ []
items_of (Describe names max id) = Line (describe_line names max id) ∷ []
items_of (NoteSet request) = note_items request
items_of (NoteDrop reference object) = Line (note_drop_line reference object) ∷ []
items_of (NoteGet object patterns) = Line (note_get_line object patterns) ∷ []
items_of Head = Line head_line ∷ []
items_of (Namespace name) = Line (namespace_line name) ∷ []

-- The bytes that spell a request.
unfoldable pub spelling : Request → List ℕ
spelling request = items_text (items_of request)
