-- Calls that only change the settings.
use Rattle.std.specs.Prelude.{◌≡◌, Some}
use Rattle.gx_hash.specs.declared.no_memory.NoMemory.{NoMemory}
use Rattle.gx_store.specs.declared.error.StoreError.TheVariants as store_error
use Rattle.gix.specs.declared.settings.Settings.{Settings}
use Rattle.gix.specs.Meaning.{Meaning}

-- A call that changes the settings alone: the answer is told of those from before, and the store stays as it is. It
-- fails for lack of memory only, and is never refused.
abbrev pub sets : {Answer : Type 0} → (Settings → Answer → Type 0) → (Settings → Settings) → Meaning Answer NoMemory
sets is chosen = record {
  fails = λ e. Some store_error.NoMemory;
  settles = λ answer settings. chosen settings;
  makes = λ settings old answer new. (new ≡ old) × is settings answer;
  leaves = λ settings old new e. new ≡ old;
  causes = λ settings old new e. Unit {0};
  accepts = λ settings old answer new. (new ≡ old) × is settings answer;
  refuses = λ settings old e new. ⊥;
}
