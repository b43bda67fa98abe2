-- The rule of names in a tree: which of them may be checked out into a folder. The protections are Git's
-- `core.protectHFS` and `core.protectNTFS` (git-config(1)), and what Windows says of the names of its files ("Naming
-- Files, Paths, and Namespaces").
use Rattle.std.specs.Prelude.{◌≡◌, ℕ, ◌&&◌, ◌||◌, ◌==◌, Bool, true, if◌then◌else◌, not, nat_lt, nat_le, nat_eq, IsTrue, List, [], ◌∷◌, length, drop, codes, Contains, ◌⊎◌, find}
use Rattle.std.specs.List.{starts_with, ends_with, list_any}
use Rattle.std.specs.Option.{option_map_or}
use Rattle.std.specs.Str.{str_to_ascii_lowercase}
use Rattle.gx_rules.specs.Rules.{IsFirst}
use Rattle.gx_rules.specs.declared.component_error.ComponentError.{ComponentError}
use Rattle.gx_rules.specs.declared.component_error.ComponentError.TheVariants.{Empty, PathSeparator, Relative, DotGitDir, SymlinkedGitModules, WindowsIllegal, WindowsReserved}
use Rattle.gx_rules.specs.declared.component_rules.Protect.{Protect}

-- the byte is one of these
abbrev pub is_one_of : List ℕ → ℕ → Bool
is_one_of bytes byte = list_any (λ b. b == byte) bytes

-- HFS+ passes over the code points U+200C to U+200F, U+202A to U+202E, U+206A to U+206F and U+FEFF, here by their
-- bytes in UTF-8. (Git, "utf8.c": `is_hfs_dotgit`)
abbrev pub is_ignorable : ℕ → ℕ → ℕ → Bool
is_ignorable a b c =
    a == 226 && b == 128 && (nat_le 140 c && nat_le c 143 || nat_le 170 c && nat_le c 174)
    || a == 226 && b == 129 && (nat_le 170 c && nat_le c 175)
    || a == 239 && b == 187 && c == 191

-- the numbers of these code points, 8204 being U+200C
abbrev pub ignorable_points : List ℕ
ignorable_points =
    8204 ∷ 8205 ∷ 8206 ∷ 8207 ∷ 8234 ∷ 8235 ∷ 8236 ∷ 8237 ∷ 8238 ∷ 8298 ∷ 8299 ∷ 8300 ∷ 8301 ∷ 8302 ∷ 8303 ∷ 65279 ∷ []

-- the name without these code points
abbrev pub without_ignorable : List ℕ → List ℕ
without_ignorable [] = []
without_ignorable (a ∷ []) = a ∷ []
without_ignorable (a ∷ b ∷ []) = a ∷ b ∷ []
without_ignorable (a ∷ b ∷ c ∷ name) =
    if is_ignorable a b c then without_ignorable name else a ∷ without_ignorable (b ∷ c ∷ name)

-- the name as the file system sees it
abbrev pub seen : Bool → List ℕ → List ℕ
seen hfs name = if hfs then without_ignorable name else name

-- any bytes of `fill` are at the front, and then comes the end or a byte of `cut`
abbrev pub ends_at : (fill cut : List ℕ) → List ℕ → Bool
ends_at fill cut bytes = option_map_or (is_one_of cut) (find (λ byte. not (is_one_of fill byte)) bytes) true

-- The bytes are the word, here in lower case, in any ASCII case, then any bytes of `fill`, and then the end or a byte
-- of `cut`.
abbrev pub spells : (word fill cut : List ℕ) → List ℕ → Bool
spells word fill cut bytes =
    starts_with nat_eq (str_to_ascii_lowercase bytes) word && ends_at fill cut (drop (length word) bytes)

-- `.git` in any case. NTFS takes `git~1` for it too, drops spaces and periods at the end of a name, and reads a colon
-- as the start of a stream's name; Windows splits paths at a backslash. (git-config(1), core.protectNTFS; Git,
-- "path.c": `is_ntfs_dotgit`)
abbrev pub is_dot_git : Bool → List ℕ → Bool
is_dot_git ntfs name =
    spells (codes ".git") [] [] name
    || ntfs && (spells (codes ".git") (codes " .") (codes "\\:") name
    || spells (codes "git~1") (codes " .") (codes "\\:") name)

-- Windows takes no backslash, control character or one of `<>:"|?*` in a name, and no space or period at its end.
abbrev pub is_illegal : ℕ → Bool
is_illegal byte = nat_lt byte 32 || is_one_of (codes "\\<>:\"|?*") byte

-- the last byte is a space or a period
abbrev pub ends_loosely : List ℕ → Bool
ends_loosely name = ends_with nat_eq name (codes " ") || ends_with nat_eq name (codes ".")

-- Windows keeps these names for devices, also where spaces and an extension follow.
abbrev pub device_names : List (List ℕ)
device_names =
    codes "con" ∷ codes "prn" ∷ codes "aux" ∷ codes "nul" ∷ codes "conin$" ∷ codes "conout$"
    ∷ codes "com1" ∷ codes "com2" ∷ codes "com3" ∷ codes "com4" ∷ codes "com5"
    ∷ codes "com6" ∷ codes "com7" ∷ codes "com8" ∷ codes "com9"
    ∷ codes "lpt1" ∷ codes "lpt2" ∷ codes "lpt3" ∷ codes "lpt4" ∷ codes "lpt5"
    ∷ codes "lpt6" ∷ codes "lpt7" ∷ codes "lpt8" ∷ codes "lpt9" ∷ []

-- the name is that of a device
abbrev pub is_device : List ℕ → Bool
is_device name = list_any (λ device. spells device (codes " ") (codes ".") name) device_names

-- The name breaks the rule that the error names. What HFS+ passes over is dropped before `.git` and `.gitmodules` are
-- looked for, in the spellings of NTFS too; the rules of Windows are on the name as it is.
abbrev pub Violates : List ℕ → Bool → Protect → ComponentError → Type 0
Violates name is_link protect Empty = name ≡ []
Violates name is_link protect PathSeparator = Contains name 47
Violates name is_link protect Relative = (name ≡ codes ".") ⊎ (name ≡ codes "..")
Violates name is_link protect DotGitDir = IsTrue (is_dot_git protect.ntfs (seen protect.hfs name))
Violates name is_link protect SymlinkedGitModules =
    IsTrue (is_link && spells (codes ".gitmodules") [] [] (seen protect.hfs name))
Violates name is_link protect WindowsIllegal =
    IsTrue (protect.windows && (list_any is_illegal name || ends_loosely name))
Violates name is_link protect WindowsReserved = IsTrue (protect.windows && is_device name)

-- the order in which the rules are asked
abbrev pub rule_rank : ComponentError → ℕ
rule_rank Empty = 0
rule_rank PathSeparator = 1
rule_rank Relative = 2
rule_rank DotGitDir = 3
rule_rank SymlinkedGitModules = 4
rule_rank WindowsIllegal = 5
rule_rank WindowsReserved = 6

-- the name breaks no rule
abbrev pub IsComponent : List ℕ → Bool → Protect → Type 0
IsComponent name is_link protect = (error : ComponentError) → ¬ Violates name is_link protect error

-- the error names the first rule that the name breaks
abbrev pub IsFirstViolated : List ℕ → Bool → Protect → ComponentError → Type 0
IsFirstViolated name is_link protect = IsFirst (Violates name is_link protect) rule_rank
