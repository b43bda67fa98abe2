-- Taggers that are taken over.
use Rattle.std.proofs.Common.{◌≡◌, sym, refl, subst, Option, Some, Err}
use Rattle.std.specs.Prelude.{◌↔◌, IsErrOf}
use Rattle.std.specs.Option.{option_map}
use Rattle.bstr.specs.BStr.{bstr_bytes}
use Rattle.gx_object.specs.declared.signature.Signature.{Signature}
use Rattle.gx_object.specs.declared.signature.Time.{Time}
use Rattle.gx_object.specs.declared.signature.decode.SignatureRef.{SignatureRef}
use Rattle.gx_object.specs.declared.signature.decode.SignatureError.{SignatureError}
use Rattle.gx_object.specs.declared.signature.decode.SignatureError.TheVariants.{BadTime, NoMemory}
use Rattle.gx_object.specs.IdentitySpelling.{identity_text}
use Rattle.gx_object.specs.OwnedTag.{HasBadTime}
use Rattle.gx_object.specs.TimeSpelling.{SpellsTime}

abbrev IsBadTime : Type 0 → SignatureError → Type 0
IsBadTime T error = IsErrOf {T = T} {E = SignatureError} (Err error) BadTime

passed_on : (T U : Type 0) (error : SignatureError) → IsBadTime T error → IsBadTime U error
passed_on T U BadTime p = refl
passed_on T U NoMemory p = absurd (let is : NoMemory ≡ BadTime = cc in cc)

pub bad_time : (tagger : Option SignatureRef) (who : SignatureRef) (error : SignatureError) → tagger ≡ Some who → IsBadTime Signature error ↔ ((time : Time) → ¬ SpellsTime (bstr_bytes who.time) time)
    → IsBadTime (Option Signature) error ↔ HasBadTime (option_map identity_text tagger)
bad_time tagger who error e p = subst (λ t. IsBadTime (Option Signature) error ↔ HasBadTime (option_map identity_text t)) (sym e)
    ((λ q. p.0 (passed_on (Option Signature) Signature error q)), (λ h. passed_on Signature (Option Signature) error (p.1 h)))
