-- Which of a memory store's changes are to fail.
use Rattle.std.specs.Prelude.{ℕ, ◌+◌, ◌-◌, ◌^◌, Bool, true, false, ◌||◌, nat_eq, min, Result, Ok, Err}
use Rattle.std.specs.List.{list_any}
use Rattle.gx_store.specs.declared.memory.Memory.{Memory}
use Rattle.gx_store.specs.declared.error.StoreError.{StoreError}
use Rattle.gx_store.specs.declared.error.StoreError.TheVariants.{NoMemory, Fault}

-- The calls of `write` and of `apply` are counted together.
pub record Calls : Type 0 where
  -- how many have been made; the count stops at the last value of u64
  pub made : ℕ
  -- whether the nth fails, counted from 1
  pub fails : ℕ → Bool

-- the calls of a store in memory
abbrev pub calls_of : Memory → Calls
calls_of m = record { made = m.calls; fails = λ n. list_any (λ y. nat_eq y n) m.failing.items }

-- no call made, and none to fail
abbrev pub no_calls : Calls
no_calls = record { made = 0; fails = λ _. false }

-- the number of the next call
abbrev pub next_call : Calls → ℕ
next_call calls = min (calls.made + 1) (2 ^ 64 - 1)

-- whether the next call fails
abbrev pub is_due : Calls → Bool
is_due calls = calls.fails (next_call calls)

-- after a call
abbrev pub counted : Calls → Calls
counted calls = record calls { made = next_call calls }

-- the nth call fails too
abbrev pub with_due : ℕ → Calls → Calls
with_due nth calls = record calls { fails = λ n. calls.fails n || nat_eq nth n }

-- whether a call failed otherwise than for lack of memory
abbrev pub is_fault : {T : Type 0} → Result T StoreError → Bool
is_fault (Ok x) = false
is_fault (Err NoMemory) = false
is_fault (Err (Fault what)) = true
