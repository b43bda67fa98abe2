use Rattle.std.proofs.Common.{refl, Err, ap, subst}
use Rattle.gx_tool.specs.Serving.{call_of}
use Rattle.gx_tool.proofs.CourseLemmas.{so_far_first, so_far_more, ends_at_once, ends_malformed, ends_read_fault, ends_too_long, ends_no_memory, ends_store, ends_store_memory, ends_print_memory, ends_write_fault, ends_sink_memory, turn_smaller}
use Rattle.gx_tool.proofs.FaultlessLemmas.{kind_now}
use Rattle.gx_tool.proofs.FormLemmas.{needs_met}
use Rattle.gx_tool.proofs.running.serve.Goals as goal

pub returns-in-Err : goal.returns-in-Err
returns-in-Err g c = ends_at_once _ _

pub requests-init : goal.requests-init
requests-init g c = rw c.in-Ok.ensures (rw c.object_hash.ensures (so_far_first _ _))

pub returns-in-Err-Malformed : goal.returns-in-Err-Malformed
returns-in-Err-Malformed g c =
    let next = rw c.in-Err-Malformed.field-0-is at c.in-Err-Malformed.ensures.next c.requests.invariant.fine in
    ends_malformed _ _ _ _ _ _ _ c.requests.invariant next refl refl

pub returns-in-Err-ReadFault : goal.returns-in-Err-ReadFault
returns-in-Err-ReadFault g c =
    let next = rw c.in-Err-ReadFault.field-0-is at c.in-Err-ReadFault.ensures.next c.requests.invariant.fine in
    ends_read_fault _ _ _ _ _ _ c.requests.invariant next.0 next.1 refl refl

pub returns-in-Err-TooLong : goal.returns-in-Err-TooLong
returns-in-Err-TooLong g c =
    let next = rw c.in-Err-TooLong.field-0-is at c.in-Err-TooLong.ensures.next c.requests.invariant.fine in
    ends_too_long _ _ _ _ _ _ c.requests.invariant next refl refl

pub returns-in-Err-NoMemory : goal.returns-in-Err-NoMemory
returns-in-Err-NoMemory g c =
    let next = rw c.in-Err-NoMemory.field-0-is at c.in-Err-NoMemory.ensures.next c.requests.invariant.fine in
    ends_no_memory _ _ _ _ _ _ c.requests.invariant next refl refl

pub returns-in-Err-Store : goal.returns-in-Err-Store
returns-in-Err-Store g c =
    let next = rw c.in-Ok-Some.field-0-is at c.in-Ok-Some.ensures.next c.requests.invariant.fine in
    let fails = rw c.in-Err-Store.field-0-is at c.in-Err-Store.ensures.stops in
    ends_store _ _ _ _ _ _ _ _ _ c.requests.invariant next.0 next.1 fails refl

pub returns-in-Err-NoMemory-execute : goal.returns-in-Err-NoMemory-execute
returns-in-Err-NoMemory-execute g c =
    let next = rw c.in-Ok-Some.field-0-is at c.in-Ok-Some.ensures.next c.requests.invariant.fine in
    let fails = rw c.in-Err-NoMemory-execute.field-0-is at c.in-Err-NoMemory-execute.ensures.stops in
    ends_store_memory _ _ _ _ _ _ _ _ c.requests.invariant next.0 next.1 fails refl

pub requests-smaller : goal.requests-smaller
requests-smaller g c =
    let next = rw c.in-Ok-Some.field-0-is at c.in-Ok-Some.ensures.next c.requests.invariant.fine in
    turn_smaller _ _ _ _ _ next.1

pub returns-in-Err-print_reply : goal.returns-in-Err-print_reply
returns-in-Err-print_reply g c =
    let next = rw c.in-Ok-Some.field-0-is at c.in-Ok-Some.ensures.next c.requests.invariant.fine in
    ends_print_memory _ _ _ _ _ _ _ _ _ c.requests.invariant next.0 next.1 c.in-Ok-execute.ensures.reply refl

pub returns-in-Err-Failed : goal.returns-in-Err-Failed
returns-in-Err-Failed g c =
    let next = rw c.in-Ok-Some.field-0-is at c.in-Ok-Some.ensures.next c.requests.invariant.fine in
    let front = rw c.in-Ok-print_reply.ensures at (rw c.as_slice.ensures at c.in-Err-Failed.ensures.err) in
    ends_write_fault _ _ _ _ _ _ _ _ _ c.requests.invariant next.0 next.1 c.in-Ok-execute.ensures.reply front (c.in-Err-Failed.ensures.failed (ap (λ e. Err e) c.in-Err-Failed.field-0-is))

pub returns-in-Err-NoMemory-write_all : goal.returns-in-Err-NoMemory-write_all
returns-in-Err-NoMemory-write_all g c =
    let next = rw c.in-Ok-Some.field-0-is at c.in-Ok-Some.ensures.next c.requests.invariant.fine in
    let front = rw c.in-Ok-print_reply.ensures at (rw c.as_slice.ensures at c.in-Err-NoMemory-write_all.ensures.err) in
    ends_sink_memory _ _ _ _ _ _ _ _ _ c.requests.invariant next.0 next.1 c.in-Ok-execute.ensures.reply front

pub requests-preserved : goal.requests-preserved
requests-preserved g c =
    let next = rw c.in-Ok-Some.field-0-is at c.in-Ok-Some.ensures.next c.requests.invariant.fine in
    let wrote = rw c.in-Ok-print_reply.ensures at (rw c.as_slice.ensures at c.in-Ok-write_all.ensures.ok) in
    rw c.is_accepted-accepted.ensures (so_far_more _ _ _ _ _ _ _ _ _ c.requests.invariant next.0 next.1 c.in-Ok-execute.ensures.reply wrote c.next.ensures.later c.write_all.ensures.later)

pub execute-requires : goal.execute-requires
execute-requires g c =
    let next = rw c.in-Ok-Some.field-0-is at c.in-Ok-Some.ensures.next c.requests.invariant.fine in
    let kind = kind_now c.call_laws.ensures _ _ _ _ _ c.requests.invariant in
    subst (call_of c.in-Ok-Some.request).needs kind (needs_met _ c.in-Ok-Some.request next.0)
