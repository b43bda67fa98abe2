-- Sources, sinks and signers in memory, whose calls fail as a test wants.
use Rattle.std.specs.Prelude.{ℕ, List, ◌+◌, ◌-◌, ◌^◌, min}

-- Bytes that are left, the most that a call takes, and the numbers of the calls that fail, counted from 1.
pub record MemorySourceState : Type 0 where
  pub left : List ℕ
  pub most : ℕ
  pub failing : List ℕ
  pub calls : ℕ
  pub faults : ℕ

-- Bytes that were written, and the numbers of the calls that fail, counted from 1.
pub record MemorySinkState : Type 0 where
  pub written : List ℕ
  pub failing : List ℕ
  pub calls : ℕ
  pub faults : ℕ

-- The text of each signature, the bytes that were signed last, and the numbers of the calls that fail, counted from 1.
pub record MemorySignerState : Type 0 where
  pub text : List ℕ
  pub last : List ℕ
  pub failing : List ℕ
  pub calls : ℕ
  pub faults : ℕ

-- A count that stays at the last value of u64.
abbrev pub counted : ℕ → ℕ
counted n = min (n + 1) (2 ^ 64 - 1)
