-- What contracts see of an identity.
use Rattle.bstr.specs.BStr.{bstr_bytes}
use Rattle.gx_object.specs.declared.signature.Signature.{Signature}
use Rattle.gx_actor.specs.declared.identity.IdentityRef.{IdentityRef}

-- the name, the email and the time, wherever the texts are kept (ours)
abbrev pub identity : IdentityRef → Signature
identity who = record { name = bstr_bytes who.name; email = bstr_bytes who.email; time = who.time }
