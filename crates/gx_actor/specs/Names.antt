-- English names in dates, as Git writes them: three letters, the first of them a capital (RFC 2822, section 3.3).
use Rattle.std.specs.Prelude.{ℕ, ◌||◌, Bool, List, codes, Option, Some, None, if◌then◌else◌}
use Rattle.std.specs.Str.{bytes_eq}

-- the text is the name of a weekday (git-commit(1), "Date Formats", "RFC 2822")
abbrev pub is_weekday : List ℕ → Bool
is_weekday name =
    bytes_eq name (codes "Mon") || bytes_eq name (codes "Tue") || bytes_eq name (codes "Wed")
    || bytes_eq name (codes "Thu") || bytes_eq name (codes "Fri") || bytes_eq name (codes "Sat")
    || bytes_eq name (codes "Sun")

-- the number of the month that has this name (git-commit(1), "Date Formats", "RFC 2822")
abbrev pub month_named : List ℕ → Option ℕ
month_named name =
    if bytes_eq name (codes "Jan") then Some 1
    else if bytes_eq name (codes "Feb") then Some 2
    else if bytes_eq name (codes "Mar") then Some 3
    else if bytes_eq name (codes "Apr") then Some 4
    else if bytes_eq name (codes "May") then Some 5
    else if bytes_eq name (codes "Jun") then Some 6
    else if bytes_eq name (codes "Jul") then Some 7
    else if bytes_eq name (codes "Aug") then Some 8
    else if bytes_eq name (codes "Sep") then Some 9
    else if bytes_eq name (codes "Oct") then Some 10
    else if bytes_eq name (codes "Nov") then Some 11
    else if bytes_eq name (codes "Dec") then Some 12
    else None
