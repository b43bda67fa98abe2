-- Calls that only read, and calls that only change the settings.
use Rattle.std.specs.Prelude.{◌≡◌, Option, Some, None, IsTrue}
use Rattle.gx_store.specs.State.{StoreState}
use Rattle.gx_store.specs.declared.error.StoreError.{StoreError}
use Rattle.gx_store.specs.declared.error.StoreError.TheVariants.{Fault, NoMemory}
use Rattle.gx_store.specs.declared.error.What.{What}
use Rattle.gix.specs.declared.settings.Settings.{Settings}
use Rattle.gix.specs.View.{View, view_of, whole}
use Rattle.gix.specs.Meaning.{Meaning}

-- What is asked of a repository, of which nothing is changed.
pub record Query (Answer Error : Type 0) : Type 1 where
  -- the answer, by what is told
  pub is : Settings → View → Answer → Type 0
  -- why it is refused
  pub why : Settings → View → Error → Type 0
  -- the parts of the store that are read
  pub reads : Settings → View → What → Type 0
  -- what of an error is the store's
  pub fails : Error → Option StoreError

-- Why an error came: a refusal for its cause, and a fault at a part that is read and can't be. Lack of memory needs
-- no cause.
abbrev pub CauseBy : {Answer Error : Type 0} → Query Answer Error → Settings → StoreState → Error
    → Option StoreError → Type 0
CauseBy q settings old e None = q.why settings (view_of old) e
CauseBy q settings old e (Some (Fault fault)) = IsTrue (old.unreadable fault) × q.reads settings (view_of old) fault
CauseBy q settings old e (Some NoMemory) = Unit {0}

-- A call that only reads: the answer is the one that is asked for, and nothing is changed.
abbrev pub asks : {Answer Error : Type 0} → Query Answer Error → Meaning Answer Error
asks q = record {
  fails = q.fails;
  settles = λ answer settings. settings;
  makes = λ settings old answer new. (new ≡ old) × q.is settings (view_of old) answer;
  leaves = λ settings old new e. new ≡ old;
  causes = λ settings old new e. CauseBy q settings old e (q.fails e);
  accepts = λ settings old answer new. (new ≡ old) × q.is settings (whole old) answer;
  refuses = λ settings old e new. (new ≡ old) × q.why settings (whole old) e;
}
