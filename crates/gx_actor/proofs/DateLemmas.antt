-- How dates are read.
use Rattle.std.proofs.Common.{◌≡◌, ◌⊎◌, ◌+◌, ◌∙◌, ℕ, ℤ, List, codes, take, drop, Option, Some, None, Result, Ok, Err, MatchOption, IsTrue, sym, ap, subst, inl, inr}
use Rattle.std.specs.Option.{ok_or}
use Rattle.std.specs.Result.{MatchResult, result_ok}
use Rattle.std.specs.Str.{bytes_eq}
use Rattle.gx_object.specs.declared.signature.Time.{Time}
use Rattle.gx_object.specs.declared.signature.decode.BadTime.{BadTime}
use Rattle.gx_object.specs.TimeSpelling.{SpellsOffset, SpellsTime}
use Rattle.gx_actor.specs.declared.date.BadDate.{BadDate}
use Rattle.gx_actor.specs.declared.date.civil.Civil.{Civil}
use Rattle.gx_actor.specs.Civil.{Exists, IsTimeAt, seconds_at}
use Rattle.gx_actor.specs.Names.{is_weekday, month_named}
use Rattle.gx_actor.specs.Date.SpellsDate.{Now, Raw, IsoDay, IsoTime, MailTime}
use Rattle.gx_actor.specs.Date.{SpellsDate, SpellsIsoDay, SpellsIsoTime, SpellsMailTime, IsMailTime, is_iso_time, iso_time, mail_civil}

-- a time that is read, or none
pub raw_read : (text : List ℕ) (r : Result Time BadTime) → MatchResult r (SpellsTime text) (λ _. (time : Time) → ¬ SpellsTime text time) → MatchOption (result_ok r) ((time : Time) → ¬ SpellsTime text time) (SpellsTime text)
raw_read text (Ok time) read = read
raw_read text (Err e) read = read

-- the moment at an offset
pub at_offset : (civil : Civil) (written : List ℕ) (offset stated : ℤ) (r : Option Time) → stated ≡ offset → SpellsOffset written offset → MatchOption r (¬ Exists civil) (λ time. Exists civil × (time.seconds ≡ seconds_at civil stated) × (time.offset ≡ stated)) → MatchOption r ((time : Time) → ¬ IsTimeAt civil written time) (IsTimeAt civil written)
at_offset civil written offset stated None same spelled none = λ time at. none at.exists
at_offset civil written offset stated (Some time) same spelled some = record {
  exists = some.0;
  offset = subst (SpellsOffset written) (sym (some.2 ∙ same)) spelled;
  seconds = some.1 ∙ ap (seconds_at civil) (sym some.2);
}

pub iso_read : (text : List ℕ) (r : Option Time) → IsTrue (is_iso_time text) → MatchOption r ((time : Time) → ¬ IsTimeAt (iso_time text) (drop 20 text) time) (IsTimeAt (iso_time text) (drop 20 text)) → MatchOption r ((time : Time) → ¬ SpellsIsoTime text time) (SpellsIsoTime text)
iso_read text None form none = λ time spelled. none time spelled.moment
iso_read text (Some time) form some = record { form = form; moment = some }

pub mail_read : (text : List ℕ) (day place month : ℕ) (r : Option Time) → IsTrue (is_weekday (take 3 text)) → month_named (take 3 (drop (place + 1) text)) ≡ Some month → MatchOption r ((time : Time) → ¬ IsTimeAt (mail_civil text month day place) (drop (place + 19) text) time) (IsTimeAt (mail_civil text month day place) (drop (place + 19) text)) → MatchOption r ((time : Time) → ¬ IsMailTime text day place time) (IsMailTime text day place)
mail_read text day place month None weekday named none =
    λ time spelled.
    let both : Some spelled.month ≡ Some month = sym spelled.named ∙ named in
    let same : spelled.month ≡ month = cc in
    none time (subst (λ n. IsTimeAt (mail_civil text n day place) (drop (place + 19) text) time) same spelled.moment)
mail_read text day place month (Some time) weekday named some = record { weekday = weekday; month = month; named = named; moment = some }

-- a form and what stands in it
pub formed : (F : Type 0) (P : Time → Type 0) (r : Option Time) → F → MatchOption r ((time : Time) → ¬ P time) P → MatchOption r ((time : Time) → ¬ (F × P time)) (λ time. F × P time)
formed F P None form none = λ time spelled. none time spelled.1
formed F P (Some time) form some = (form, some)

-- one of two forms
pub either : (P Q : Time → Type 0) (r : Option Time) → ((time : Time) → ¬ P time) → MatchOption r ((time : Time) → ¬ Q time) Q → MatchOption r ((time : Time) → ¬ (P time ⊎ Q time)) (λ time. P time ⊎ Q time)
either P Q None first none = λ time spelled. elim spelled [ inl p ↦ first time p | inr q ↦ none time q ]
either P Q (Some time) first some = inr some

-- no form
none_spelled : (now : Time) (text : List ℕ) (time : Time) → ¬ IsTrue (bytes_eq text (codes "now")) → ((t : Time) → ¬ SpellsTime text t) → ((t : Time) → ¬ SpellsIsoDay text t) → ((t : Time) → ¬ SpellsIsoTime text t) → ((t : Time) → ¬ SpellsMailTime text t) → ¬ SpellsDate now text time
none_spelled now text time word raw day iso mail (Now e same) = word e
none_spelled now text time word raw day iso mail (Raw s) = raw time s
none_spelled now text time word raw day iso mail (IsoDay s) = day time s
none_spelled now text time word raw day iso mail (IsoTime s) = iso time s
none_spelled now text time word raw day iso mail (MailTime s) = mail time s

pub last_form : (now : Time) (text : List ℕ) (r : Option Time) (e : BadDate) → ¬ IsTrue (bytes_eq text (codes "now")) → ((t : Time) → ¬ SpellsTime text t) → ((t : Time) → ¬ SpellsIsoDay text t) → ((t : Time) → ¬ SpellsIsoTime text t) → MatchOption r ((t : Time) → ¬ SpellsMailTime text t) (SpellsMailTime text) → MatchResult (ok_or r e) (SpellsDate now text) (λ _. (time : Time) → ¬ SpellsDate now text time)
last_form now text None e word raw day iso none = λ time. none_spelled now text time word raw day iso none
last_form now text (Some time) e word raw day iso some = MailTime some
