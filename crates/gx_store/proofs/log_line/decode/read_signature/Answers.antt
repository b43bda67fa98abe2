use Rattle.std.proofs.Common.{refl, ap, Err}
use Rattle.gx_object.specs.IdentitySpelling.{identity_text}
use Rattle.gx_store.proofs.LogLemmas.{no_time, only_time, owned_signature}
use Rattle.gx_store.proofs.log_line.decode.read_signature.Goals as goal

pub returns-in_default-clause-causes : goal.returns-in_default-clause-causes
returns-in_default-clause-causes c = (λ is who spelled. c.in_default.ensures _ spelled.spelled, λ none. refl)

pub returns-in-Ok-clause-causes : goal.returns-in-Ok-clause-causes
returns-in-Ok-clause-causes c =
    let owned = c.in-Ok.ensures in
    (λ is. absurd cc, λ none. absurd (none c.in-Ok.signature (owned_signature c.args.text.now (identity_text c.in-Some.who) c.in-Ok.signature c.in-Some.ensures owned.name owned.email owned.time)))

pub returns-in-Err-BadTime-clause-causes : goal.returns-in-Err-BadTime-clause-causes
returns-in-Err-BadTime-clause-causes c =
    let causes = c.in-Err-BadTime.ensures.causes in
    (λ is. no_time c.identity_is_spelled_once.ensures c.args.text.now (identity_text c.in-Some.who) c.in-Some.ensures (causes.0 (ap Err c.in-Err-BadTime.field-0-is)), λ none. refl)

pub returns-in-Err-NoMemory-clause-causes : goal.returns-in-Err-NoMemory-clause-causes
returns-in-Err-NoMemory-clause-causes c =
    let causes = c.in-Err-NoMemory.ensures.causes in
    (λ is. absurd cc, λ none. absurd (cc (causes.1 (only_time c.args.text.now (identity_text c.in-Some.who) c.in-Some.ensures none))))
