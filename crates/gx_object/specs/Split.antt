-- Texts without a byte.
use Rattle.std.specs.Prelude.{ℕ, ◌==◌, not, List, IsTrue}
use Rattle.std.specs.List.{list_all}

-- the text does not contain the byte
abbrev pub Lacks : ℕ → List ℕ → Type 0
Lacks byte text = IsTrue (list_all (λ b. not (b == byte)) text)
