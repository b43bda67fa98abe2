-- The namespace that a repository's names are in.
use Rattle.std.specs.Prelude.{◌≡◌, ℕ, List, Option, Some, None}
use Rattle.gx_hash.specs.declared.no_memory.NoMemory.{NoMemory}
use Rattle.gx_rules.specs.Namespace.{namespace_prefix}
use Rattle.gx_refs.specs.Shown.{prefix_of}
use Rattle.gix.specs.declared.settings.Settings.{Settings}
use Rattle.gix.specs.Meaning.{Meaning}
use Rattle.gix.specs.Setting.{sets}

-- What stands before a given name where it is stored: the prefix of the settings' namespace. (gitnamespaces(7))
abbrev pub space_of : Settings → List ℕ
space_of settings = prefix_of settings.namespace

-- the settings with this namespace, or with none
abbrev pub in_space : Option (List ℕ) → Settings → Settings
in_space space settings = record settings { namespace = space }

-- the namespace from before is answered
abbrev pub WasSpace : Settings → Option (List ℕ) → Type 0
WasSpace settings answer = answer ≡ settings.namespace

-- Names are in the namespace of this name from now on. (gitnamespaces(7))
abbrev pub set_namespace_meaning : List ℕ → Meaning (Option (List ℕ)) NoMemory
set_namespace_meaning name = sets WasSpace (in_space (Some (namespace_prefix name)))

-- Names are in no namespace from now on.
abbrev pub clear_namespace_meaning : Meaning (Option (List ℕ)) NoMemory
clear_namespace_meaning = sets WasSpace (in_space None)
