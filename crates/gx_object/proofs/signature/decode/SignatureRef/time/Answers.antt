use Rattle.std.proofs.Common.{ℕ, List, Option, Some, None, MatchOption, MatchResult}
use Rattle.std.specs.Option.{ok_or}
use Rattle.gx_object.specs.declared.signature.Time.{Time}
use Rattle.gx_object.specs.declared.signature.decode.BadTime.{BadTime}
use Rattle.gx_object.specs.TimeSpelling.{SpellsTime}
use Rattle.gx_object.proofs.signature.decode.SignatureRef.time.Goals as goal

-- a time that is read, as a result
told : (text : List ℕ) (bad : BadTime) (o : Option Time) → MatchOption o ((time : Time) → ¬ SpellsTime text time) (SpellsTime text) → MatchResult (ok_or o bad) (SpellsTime text) (λ (e : BadTime). (time : Time) → ¬ SpellsTime text time)
told text bad None none = none
told text bad (Some time) some = some

pub returns : goal.returns
returns c =
    let read = rw c.as_bytes.ensures at c.read_time.ensures in
    rw c.ok_or.ensures.value (told _ _ c.read_time.result read)
