use Rattle.std.proofs.Common.{◌≡◌, ◌<◌, ◌≤◌, ◌-◌, ℕ, Some, length}
use Rattle.std.specs.List.{slice_get}
use Rattle.std.specs.declared.cmp.Ordering.TheVariants.{Equal}
use Rattle.gx_actor.specs.declared.mailmap.index.Places.{Places}
use Rattle.gx_actor.specs.Index.{Key, key_cmp, key_of}
use Rattle.gx_actor.proofs.mailmap.index.places_of.Given as goal

-- a slot of the key stands between the two places
abbrev pub invariant-loop-low : goal.invariant-loop-low
invariant-loop-low l = record {
  within : l.high ≤ length l.slots;
  between : (k : ℕ) (slot : Key × Places) → slice_get l.slots k ≡ Some slot → key_cmp slot.0 (key_of l.email l.name) ≡ Equal → (l.low ≤ k) × (k < l.high);
}

abbrev pub decreases-loop-low : goal.decreases-loop-low
decreases-loop-low l = l.high - l.low
