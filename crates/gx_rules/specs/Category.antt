-- What a reference is for, by its name, and the name that people call it by.
use Rattle.std.specs.Prelude.{◌≡◌, ℕ, if◌then◌else◌, nat_eq, ◌==◌, List, ◌++◌, length, drop, codes, Contains, Option, None, Some}
use Rattle.std.specs.List.{starts_with, list_any}
use Rattle.gx_rules.specs.declared.category.Category.{Category}
use Rattle.gx_rules.specs.declared.category.Category.TheVariants.{Tag, LocalBranch, RemoteBranch, Note, PseudoRef}

-- Tags are under `refs/tags/`, branches under `refs/heads/`, remote-tracking branches under `refs/remotes/`, notes
-- under `refs/notes/`, and pseudo references, as `HEAD`, outside of any directory.
-- (gitglossary(7), "ref"; git-notes(1))
abbrev pub category_of : List ℕ → Option Category
category_of name =
    if starts_with nat_eq name (codes "refs/tags/") then Some Tag
    else if starts_with nat_eq name (codes "refs/heads/") then Some LocalBranch
    else if starts_with nat_eq name (codes "refs/remotes/") then Some RemoteBranch
    else if starts_with nat_eq name (codes "refs/notes/") then Some Note
    else if list_any (λ byte. byte == 47) name then None
    else Some PseudoRef

-- What the short name leaves out: the directory of tags, branches and remote-tracking branches, and `refs/` alone of
-- notes. (git-for-each-ref(1), "refname")
abbrev pub shared_prefix : Option Category → List ℕ
shared_prefix (Some Tag) = codes "refs/tags/"
shared_prefix (Some LocalBranch) = codes "refs/heads/"
shared_prefix (Some RemoteBranch) = codes "refs/remotes/"
shared_prefix (Some Note) = codes "refs/"
shared_prefix (Some PseudoRef) = codes ""
shared_prefix None = codes ""

-- the name without what its category's names share
abbrev pub short_name : List ℕ → List ℕ
short_name name = drop (length (shared_prefix (category_of name))) name

-- the name is in the directory: it begins with the directory's path
abbrev pub IsIn : List ℕ → List ℕ → Type 0
IsIn directory name = (rest : List ℕ) × (name ≡ directory ++ rest)

-- Each category but pseudo references has a directory; these have no slash, and a name without a category has one.
abbrev pub IsInDirectoryOf : Option Category → List ℕ → Type 0
IsInDirectoryOf (Some Tag) name = IsIn (codes "refs/tags/") name
IsInDirectoryOf (Some LocalBranch) name = IsIn (codes "refs/heads/") name
IsInDirectoryOf (Some RemoteBranch) name = IsIn (codes "refs/remotes/") name
IsInDirectoryOf (Some Note) name = IsIn (codes "refs/notes/") name
IsInDirectoryOf (Some PseudoRef) name = ¬ Contains name 47
IsInDirectoryOf None name = Contains name 47
