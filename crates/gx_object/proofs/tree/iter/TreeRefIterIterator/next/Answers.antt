use Rattle.std.proofs.Common.{◌≡◌, ◌≤◌, ◌<◌, ◌+◌, ◌∙◌, length, Bool, false, true, Some, None, Ok, Err, ap, sym, subst, arith}
use Rattle.gx_object.specs.declared.decode.DecodeError.TheVariants.{Decode}
use Rattle.gx_object.specs.PartsRead.{ObjectText, PartsRead, object_text}
use Rattle.gx_object.specs.TreeIter.{GivesEntry}
use Rattle.gx_object.specs.TreeReach.{read_at}
use Rattle.gx_object.specs.TreeSpelling.{entry_of}
use Rattle.gx_object.proofs.TreeSteps.{gives_end, gives_error, gives_entry, goes_on}
use Rattle.gx_object.proofs.tree.iter.TreeRefIterIterator.next.Goals as goal

pub returns-then-is_empty-clause-steps : goal.returns-then-is_empty-clause-steps
returns-then-is_empty-clause-steps c =
    let it = c.self.inside in
    let text : ObjectText = object_text it.hash it.bytes.now in
    let none : length c.split_at.result.1.now ≡ 0 = grind (arith, c.if-is_empty.ensures, c.if-is_empty.true) in
    let sum = c.split_at.ensures.back_len in
    let long : length it.bytes.now ≤ it.at = omega arith in
    let old : read_at text it.given false ≡ c.args.self.now = ap (read_at text it.given) (sym c.if-self.false) ∙ c.self.view_is in
    subst (λ (v : PartsRead). GivesEntry v None v) old (gives_end text it.at it.given c.self.invariant long)

pub invariant_of-self : goal.invariant_of-self
invariant_of-self c =
    let it = c.self.inside in
    let begins = rw c.split_at.ensures.back at c.in-Some.ensures in
    goes_on (object_text it.hash it.bytes.now) c.in-Some.behind.now it.at it.given (entry_of c.in-Some.entry) c.self.invariant begins

pub returns-in-Some-clause-steps : goal.returns-in-Some-clause-steps
returns-in-Some-clause-steps c =
    let it = c.self.inside in
    let text : ObjectText = object_text it.hash it.bytes.now in
    let item = c.in-Some.entry in
    let begins = rw c.split_at.ensures.back at c.in-Some.ensures in
    let given = gives_entry text c.in-Some.behind.now it.at it.given item c.self.invariant begins in
    let here = subst (λ (failed : Bool). GivesEntry (read_at text it.given failed) (Some (Ok item)) (read_at text (it.given + 1) failed)) (sym c.if-self.false) given in
    subst (λ (v : PartsRead). GivesEntry v (Some (Ok item)) (read_at text (it.given + 1) it.has_failed)) c.self.view_is here

pub returns-in-None-clause-steps : goal.returns-in-None-clause-steps
returns-in-None-clause-steps c =
    let it = c.self.inside in
    let text : ObjectText = object_text it.hash it.bytes.now in
    let some : 0 < length c.split_at.result.1.now = grind (arith, c.if-is_empty.ensures, c.if-is_empty.false) in
    let sum = c.split_at.ensures.back_len in
    let within : it.at < length it.bytes.now = omega arith in
    let none = rw c.split_at.ensures.back at c.in-None.ensures in
    let old : read_at text it.given false ≡ c.args.self.now = ap (read_at text it.given) (sym c.if-self.false) ∙ c.self.view_is in
    subst (λ (v : PartsRead). GivesEntry v (Some (Err (Decode it.at))) (read_at text it.given true)) old (gives_error text it.at it.given c.self.invariant within none)
