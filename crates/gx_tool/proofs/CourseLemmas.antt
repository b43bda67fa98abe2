-- A run goes on by one request, or ends.
use Rattle.std.proofs.Common.{◌≡◌, ◌≢◌, ◌∙◌, sym, ap, refl, subst, ℕ, ◌+◌, ◌≤◌, ◌<◌, List, [], ◌∷◌, ◌++◌, length, Option, Some, None, arith, append_assoc, length-append, Bool, true, false, inl, inr}
use Rattle.std.specs.Prelude.{◌&&◌}
use Rattle.std.specs.List.{flat_map, AllByRecursion}
use Rattle.std.proofs.lemmas.List.{append-nil}
use Rattle.std.proofs.lemmas.List.Folds.{list_all-append}
use Rattle.std.proofs.lemmas.Grind.{flat_map-append}
use Rattle.gx_tool.specs.declared.reply.Reply.{Reply}
use Rattle.gx_tool.specs.declared.reply.Reply.TheVariants.{Accepted, Refused}
use Rattle.gx_tool.specs.declared.answer.Answer.{Answer}
use Rattle.gx_tool.specs.declared.answer.Answer.TheVariants.{Id, Log, Name, References}
use Rattle.gx_tool.specs.declared.status.Status.{Status}
use Rattle.gx_tool.specs.declared.status.Status.TheVariants.{Done, Refusals, Malformed, ReadFault, WriteFault, NoMemory, StoreFault, TooLong}
use Rattle.gx_hash.specs.declared.kind.HashKind.{HashKind}
use Rattle.gx_store.specs.declared.log_line.LogLine.{LogLine}
use Rattle.gx_store.specs.Faults.{Rose}
use Rattle.gx_store.specs.Outside.{Takes, IsEnd, Writes}
use Rattle.gx_script.specs.declared.request.Request.{Request}
use Rattle.gx_script.specs.declared.request.Request.TheVariants as form
use Rattle.gx_script.specs.Items.{Item, Line, Block, items_text}
use Rattle.gx_script.specs.Spelling.{items_of, spelling}
use Rattle.gx_script.specs.Script.{IsRequest, Begins, IsBad}
use Rattle.gx_script.specs.Reading.{Reading, Moves, Stays, Overruns, BadAt, Anything}
use Rattle.gix.specs.Held.{Held, HeldTold}
use Rattle.gx_tool.specs.Machine.{Run, IsReply}
use Rattle.gx_tool.specs.Serving.{Serves, ServesAll, Stops}
use Rattle.gx_tool.specs.Reply.{texts, reply_text, answer_text, log_text, log_line_text, count_text, all_accepted, is_accepted, reference_text}
use Rattle.gx_tool.specs.declared.executing.ExecuteError.{ExecuteError}
use Rattle.gx_tool.specs.declared.executing.ExecuteError.TheVariants as no_reply
use Rattle.gx_store.specs.declared.error.What.{What}
use Rattle.gx_tool.specs.Course.{Moment, Course, Ends, Served, taken_count, GotNoReply, WritesFront}
use Rattle.gx_tool.proofs.MachineLemmas.{runs_none, runs_on}
use Rattle.gx_tool.proofs.OutsideLemmas.{takes_none, takes_then, writes_none, writes_then, rose_before}

-- the run so far, at the start of a turn
pub record SoFar (limit : ℕ) (start now : Moment) (reading : Reading) (accepted : Bool) : Type 0 where
  pub requests : List Request
  pub replies : List Reply
  pub course : Course start now requests replies reading.held (texts replies) now.held
  pub room : taken_count requests reading.held + reading.room ≡ limit
  pub machine : HeldTold (λ o n. Run o requests replies n) start.held now.held
  pub all : all_accepted replies ≡ accepted
  pub fine : reading.failed ≡ None
  pub kind : reading.hash ≡ start.held.store.hash
  pub source_later : start.source_faults ≤ now.source_faults
  pub sink_later : start.sink_faults ≤ now.sink_faults

pub run_more : (old mid new : Held) (requests : List Request) (replies : List Reply) (request : Request) (reply : Reply) → ServesAll old requests replies mid → Serves mid request reply new → ServesAll old (requests ++ request ∷ []) (replies ++ reply ∷ []) new
unfolding ServesAll
run_more old mid new [] [] request reply h s = (new, subst (λ o. Serves o request reply new) h s, refl)
run_more old mid new [] (r ∷ rs) request reply h s = absurd h
run_more old mid new (q ∷ qs) [] request reply h s = absurd h
run_more old mid new (q ∷ qs) (r ∷ rs) request reply h s = (h.0, h.1, run_more h.0 mid new qs rs request reply h.2 s)

pub run_none : (held : Held) → ServesAll held [] [] held
unfolding ServesAll
run_none held = refl

each_more : (hash : HashKind) (requests : List Request) (request : Request) → AllByRecursion (IsRequest hash) requests → IsRequest hash request → AllByRecursion (IsRequest hash) (requests ++ request ∷ [])
each_more hash [] request h r = (r, tt)
each_more hash (q ∷ qs) request h r = (h.0, each_more hash qs request h.1 r)

-- the reader gives requests of the store's kind
fits_store : (limit : ℕ) (start now : Moment) (reading : Reading) (accepted : Bool) (request : Request) → SoFar limit start now reading accepted → IsRequest reading.hash request → IsRequest start.held.store.hash request
fits_store limit start now reading accepted request s fits = subst (λ (h : HashKind). IsRequest h request) s.kind fits

pub spellings_more : (requests : List Request) (request : Request) → flat_map spelling (requests ++ request ∷ []) ≡ flat_map spelling requests ++ spelling request
spellings_more requests request = flat_map-append spelling requests (request ∷ []) ∙ ap (λ l. flat_map spelling requests ++ l) (append-nil (spelling request))

texts_more : (replies : List Reply) (reply : Reply) → texts (replies ++ reply ∷ []) ≡ texts replies ++ reply_text reply
texts_more replies reply = flat_map-append reply_text replies (reply ∷ []) ∙ ap (λ l. texts replies ++ l) (append-nil (reply_text reply))

and_true : (b : Bool) → (b && true) ≡ b
and_true true = refl
and_true false = refl

accepted_more : (replies : List Reply) (reply : Reply) → all_accepted (replies ++ reply ∷ []) ≡ (all_accepted replies && is_accepted reply)
accepted_more replies reply = list_all-append is_accepted replies (reply ∷ []) ∙ ap (λ b. all_accepted replies && b) (and_true (is_accepted reply))

-- the bytes of a request move from what is held to what was run
split_more : (done held taken text held' : List ℕ) → held ++ taken ≡ text ++ held' → (done ++ held) ++ taken ≡ (done ++ text) ++ held'
split_more done held taken text held' e = append_assoc done held taken ∙ ap (λ l. done ++ l) e ∙ sym (append_assoc done text held')

pub so_far_more : (limit : ℕ) (start now next : Moment) (old new : Reading) (accepted : Bool) (block : Request) (reply : Reply)
    → SoFar limit start now old accepted → IsRequest old.hash block → Moves old new now.left next.left (spelling block)
    → IsReply now.held block reply next.held → Writes now.written next.written (reply_text reply)
    → now.source_faults ≤ next.source_faults → now.sink_faults ≤ next.sink_faults
    → SoFar limit start next new (accepted && is_accepted reply)
so_far_more limit start now next old new accepted block reply s fits m step w source sink =
    let whole : flat_map spelling (s.requests ++ block ∷ []) ++ new.held ≡ (flat_map spelling s.requests ++ old.held) ++ m.taken =
    ap (λ l. l ++ new.held) (spellings_more s.requests block) ∙ sym (split_more (flat_map spelling s.requests) old.held m.taken (spelling block) new.held m.split) in
    record {
      requests = s.requests ++ block ∷ [];
      replies = s.replies ++ reply ∷ [];
      course = record {
        takes = subst (Takes start.left next.left) (sym whole) (takes_then start.left now.left next.left (flat_map spelling s.requests ++ old.held) m.taken s.course.takes m.takes);
        each = each_more start.held.store.hash s.requests block s.course.each (fits_store limit start now old accepted block s fits);
        run = run_more start.held now.held next.held s.requests s.replies block reply s.course.run step.served;
        writes = subst (Writes start.written next.written) (sym (texts_more s.replies reply)) (writes_then start.written now.written next.written (texts s.replies) (reply_text reply) s.course.writes w);
      };
      room = omega (arith, ap length whole ∙ length-append (flat_map spelling s.requests ++ old.held) m.taken, m.room, s.room);
      machine = runs_on s.requests s.replies block reply start.held now.held next.held s.machine step.step;
      all = accepted_more s.replies reply ∙ ap (λ b. b && is_accepted reply) s.all;
      fine = m.failed ∙ s.fine;
      kind = m.hash ∙ s.kind;
      source_later = omega (arith, s.source_later);
      sink_later = omega (arith, s.sink_later);
    }

pub so_far_first : (limit : ℕ) (m : Moment) → SoFar limit m m (record { hash = m.held.store.hash; held = []; room = limit; newlines = 0; failed = None }) true
so_far_first limit m = record {
  requests = [];
  replies = [];
  course = record { takes = takes_none m.left; each = tt; run = run_none m.held; writes = writes_none m.written };
  room = omega arith;
  machine = runs_none m.held;
  all = refl;
  fine = refl;
  kind = refl;
  source_later = omega arith;
  sink_later = omega arith;
}

-- more bytes were taken, and nothing was written
course_taken : (start now next : Moment) (requests : List Request) (replies : List Reply) (held taken out : List ℕ) (after : Held) → Course start now requests replies held out after → Takes now.left next.left taken → next.written ≡ now.written → Course start next requests replies (held ++ taken) out after
course_taken start now next requests replies held taken out after c t same = record {
  takes = subst (Takes start.left next.left) (append_assoc (flat_map spelling requests) held taken) (takes_then start.left now.left next.left (flat_map spelling requests ++ held) taken c.takes t);
  each = c.each;
  run = c.run;
  writes = subst (λ w. Writes start.written w out) (sym same) c.writes;
}

count_taken : (requests : List Request) (held taken : List ℕ) → taken_count requests (held ++ taken) ≡ taken_count requests held + length taken
count_taken requests held taken = ap length (sym (append_assoc (flat_map spelling requests) held taken)) ∙ length-append (flat_map spelling requests ++ held) taken

-- the reader's end: the script was read to its end
at_end : (limit : ℕ) (start now next : Moment) (old new : Reading) (accepted : Bool) (status : Status)
    → SoFar limit start now old accepted → Moves old new now.left next.left [] → new.held ≡ [] → IsEnd next.left
    → next.written ≡ now.written → next.held ≡ now.held
    → ((replies : List Reply) (rest out : List ℕ) (requests : List Request) → taken_count requests rest ≤ limit → rest ≡ [] → out ≡ texts replies → all_accepted replies ≡ accepted → Ends limit start next requests replies rest out now.held status)
    → Served limit start next status
at_end limit start now next old new accepted status s m none end written store ends =
    let rest : List ℕ = old.held ++ m.taken in
    record {
      requests = s.requests;
      replies = s.replies;
      rest = rest;
      out = texts s.replies;
      held = now.held;
      machine = s.machine;
      course = course_taken start now next s.requests s.replies old.held m.taken (texts s.replies) now.held s.course m.takes written;
      ends = ends s.replies rest (texts s.replies) s.requests (omega (arith, count_taken s.requests old.held m.taken, s.room, m.room)) (m.split ∙ none) refl s.all;
    }

pub ends_done : (limit : ℕ) (start now next : Moment) (old new : Reading)
    → SoFar limit start now old true → Moves old new now.left next.left [] → new.held ≡ [] → IsEnd next.left
    → next.written ≡ now.written → next.held ≡ now.held → Served limit start next Done
ends_done limit start now next old new s m none end written store =
    at_end limit start now next old new true Done s m none end written store (λ replies rest out requests few empty all accepted. (few, empty, end, all, store, accepted))

pub ends_refusals : (limit : ℕ) (start now next : Moment) (old new : Reading)
    → SoFar limit start now old false → Moves old new now.left next.left [] → new.held ≡ [] → IsEnd next.left
    → next.written ≡ now.written → next.held ≡ now.held → Served limit start next Refusals
ends_refusals limit start now next old new s m none end written store =
    at_end limit start now next old new false Refusals s m none end written store (λ replies rest out requests few empty all accepted. (few, empty, end, all, store, accepted))

-- the reader's ends within the limit
stays_within : (limit : ℕ) (start now next : Moment) (old : Reading) (accepted : Bool) (status : Status) (P : List ℕ → Type 0)
    → SoFar limit start now old accepted → Stays P old now.left next.left
    → next.written ≡ now.written
    → ((replies : List Reply) (rest out : List ℕ) (requests : List Request) → taken_count requests rest ≤ limit → P rest → out ≡ texts replies → Ends limit start next requests replies rest out now.held status)
    → Served limit start next status
stays_within limit start now next old accepted status P s m written ends =
    record {
      requests = s.requests;
      replies = s.replies;
      rest = old.held ++ m.taken;
      out = texts s.replies;
      held = now.held;
      machine = s.machine;
      course = course_taken start now next s.requests s.replies old.held m.taken (texts s.replies) now.held s.course m.takes written;
      ends = ends s.replies (old.held ++ m.taken) (texts s.replies) s.requests (omega (arith, count_taken s.requests old.held m.taken, s.room, m.room)) m.part refl;
    }

pub ends_malformed : (limit line : ℕ) (start now next : Moment) (old : Reading) (accepted : Bool)
    → SoFar limit start now old accepted → Stays (BadAt old next.left line) old now.left next.left
    → next.written ≡ now.written → next.held ≡ now.held → Served limit start next Malformed
ends_malformed limit line start now next old accepted s m written store =
    stays_within limit start now next old accepted Malformed (BadAt old next.left line) s m written (λ replies rest out requests few bad all. (few, (bad.0, subst (λ (h : HashKind). IsBad h rest (IsEnd next.left) bad.0) s.kind bad.1), all, store))

pub ends_read_fault : (limit : ℕ) (start now next : Moment) (old : Reading) (accepted : Bool)
    → SoFar limit start now old accepted → Stays (Begins old.hash) old now.left next.left → Rose now.source_faults next.source_faults
    → next.written ≡ now.written → next.held ≡ now.held → Served limit start next ReadFault
ends_read_fault limit start now next old accepted s m rose written store =
    stays_within limit start now next old accepted ReadFault (Begins old.hash) s m written (λ replies rest out requests few begins all. (few, subst (λ (h : HashKind). Begins h rest) s.kind begins, rose_before start.source_faults now.source_faults next.source_faults s.source_later rose, all, store))

pub ends_no_memory : (limit : ℕ) (start now next : Moment) (old : Reading) (accepted : Bool)
    → SoFar limit start now old accepted → Stays Anything old now.left next.left
    → next.written ≡ now.written → next.held ≡ now.held → Served limit start next NoMemory
ends_no_memory limit start now next old accepted s m written store =
    stays_within limit start now next old accepted NoMemory Anything s m written (λ replies rest out requests few any all. (few, inl (all, inl store)))

pub ends_too_long : (limit : ℕ) (start now next : Moment) (old : Reading) (accepted : Bool)
    → SoFar limit start now old accepted → Overruns (Begins old.hash) old now.left next.left
    → next.written ≡ now.written → next.held ≡ now.held → Served limit start next TooLong
ends_too_long limit start now next old accepted s m written store =
    record {
      requests = s.requests;
      replies = s.replies;
      rest = old.held ++ (m.taken ++ m.last ∷ []);
      out = texts s.replies;
      held = now.held;
      machine = s.machine;
      course = course_taken start now next s.requests s.replies old.held (m.taken ++ m.last ∷ []) (texts s.replies) now.held s.course m.takes written;
      ends = (omega (arith, count_taken s.requests old.held (m.taken ++ m.last ∷ []), length-append m.taken (m.last ∷ []), s.room, m.room), record { within = old.held ++ m.taken; last = m.last; is = sym (append_assoc old.held m.taken (m.last ∷ [])); begins = subst (λ (h : HashKind). Begins h (old.held ++ m.taken)) s.kind m.part }, refl, store);
    }

-- a whole request was read, and got no reply
read_one : (limit : ℕ) (start now next : Moment) (old new : Reading) (accepted : Bool) (block : Request) (error : ExecuteError) (status : Status)
    → SoFar limit start now old accepted → IsRequest old.hash block → Moves old new now.left next.left (spelling block) → Stops now.held block next.held error
    → next.written ≡ now.written
    → ((replies : List Reply) (rest out : List ℕ) (requests : List Request) → taken_count requests rest ≤ limit → GotNoReply start.held.store.hash now.held rest error next.held → out ≡ texts replies → Ends limit start next requests replies rest out now.held status)
    → Served limit start next status
read_one limit start now next old new accepted block error status s fits m fails written ends =
    record {
      requests = s.requests;
      replies = s.replies;
      rest = old.held ++ m.taken;
      out = texts s.replies;
      held = now.held;
      machine = s.machine;
      course = course_taken start now next s.requests s.replies old.held m.taken (texts s.replies) now.held s.course m.takes written;
      ends = ends s.replies (old.held ++ m.taken) (texts s.replies) s.requests (omega (arith, count_taken s.requests old.held m.taken, s.room, m.room)) (record { request = block; more = new.held; fits = fits_store limit start now old accepted block s fits; is = m.split; fails = fails }) refl;
    }

pub ends_store : (limit : ℕ) (start now next : Moment) (old new : Reading) (accepted : Bool) (block : Request) (fault : What)
    → SoFar limit start now old accepted → IsRequest old.hash block → Moves old new now.left next.left (spelling block)
    → Stops now.held block next.held (no_reply.Store fault)
    → next.written ≡ now.written → Served limit start next StoreFault
ends_store limit start now next old new accepted block fault s fits m fails written =
    read_one limit start now next old new accepted block (no_reply.Store fault) StoreFault s fits m fails written (λ replies rest out requests few none all. (few, all, (fault, none)))

pub ends_store_memory : (limit : ℕ) (start now next : Moment) (old new : Reading) (accepted : Bool) (block : Request)
    → SoFar limit start now old accepted → IsRequest old.hash block → Moves old new now.left next.left (spelling block)
    → Stops now.held block next.held no_reply.NoMemory
    → next.written ≡ now.written → Served limit start next NoMemory
ends_store_memory limit start now next old new accepted block s fits m fails written =
    read_one limit start now next old new accepted block no_reply.NoMemory NoMemory s fits m fails written (λ replies rest out requests few none all. (few, inl (all, inr none)))

-- the request was run, and a front of its reply was written
wrote_front : (limit : ℕ) (start now next : Moment) (old new : Reading) (accepted : Bool) (block : Request) (reply : Reply) (status : Status)
    → SoFar limit start now old accepted → IsRequest old.hash block → Moves old new now.left next.left (spelling block)
    → IsReply now.held block reply next.held → (w : WritesFront now.written next.written (reply_text reply))
    → ((requests : List Request) (before : List Reply) → taken_count requests new.held ≤ limit → Ends limit start next requests (before ++ reply ∷ []) new.held (texts before ++ w.part) next.held status)
    → Served limit start next status
wrote_front limit start now next old new accepted block reply status s fits m step w ends =
    let whole : flat_map spelling (s.requests ++ block ∷ []) ++ new.held ≡ (flat_map spelling s.requests ++ old.held) ++ m.taken =
    ap (λ l. l ++ new.held) (spellings_more s.requests block) ∙ sym (split_more (flat_map spelling s.requests) old.held m.taken (spelling block) new.held m.split) in
    record {
      requests = s.requests ++ block ∷ [];
      replies = s.replies ++ reply ∷ [];
      rest = new.held;
      out = texts s.replies ++ w.part;
      held = next.held;
      machine = runs_on s.requests s.replies block reply start.held now.held next.held s.machine step.step;
      course = record {
        takes = subst (Takes start.left next.left) (sym whole) (takes_then start.left now.left next.left (flat_map spelling s.requests ++ old.held) m.taken s.course.takes m.takes);
        each = each_more start.held.store.hash s.requests block s.course.each (fits_store limit start now old accepted block s fits);
        run = run_more start.held now.held next.held s.requests s.replies block reply s.course.run step.served;
        writes = writes_then start.written now.written next.written (texts s.replies) w.part s.course.writes w.writes;
      };
      ends = ends (s.requests ++ block ∷ []) s.replies (omega (arith, ap length whole ∙ length-append (flat_map spelling s.requests ++ old.held) m.taken, m.room, s.room));
    }

pub ends_write_fault : (limit : ℕ) (start now next : Moment) (old new : Reading) (accepted : Bool) (block : Request) (reply : Reply)
    → SoFar limit start now old accepted → IsRequest old.hash block → Moves old new now.left next.left (spelling block)
    → IsReply now.held block reply next.held → WritesFront now.written next.written (reply_text reply)
    → Rose now.sink_faults next.sink_faults → Served limit start next WriteFault
ends_write_fault limit start now next old new accepted block reply s fits m step w rose =
    wrote_front limit start now next old new accepted block reply WriteFault s fits m step w (λ requests before few. (few, rose_before start.sink_faults now.sink_faults next.sink_faults s.sink_later rose, record { before = before; last = reply; part = w.part; more = w.more; all = refl; written = refl; text = w.is; short = w.short }, refl))

pub ends_sink_memory : (limit : ℕ) (start now next : Moment) (old new : Reading) (accepted : Bool) (block : Request) (reply : Reply)
    → SoFar limit start now old accepted → IsRequest old.hash block → Moves old new now.left next.left (spelling block)
    → IsReply now.held block reply next.held → WritesFront now.written next.written (reply_text reply)
    → Served limit start next NoMemory
ends_sink_memory limit start now next old new accepted block reply s fits m step w =
    wrote_front limit start now next old new accepted block reply NoMemory s fits m step w (λ requests before few. (few, inr (record { before = before; last = reply; part = w.part; more = w.more; all = refl; written = refl; text = w.is; short = w.short }, refl)))

-- no memory for a reader
pub ends_at_once : (limit : ℕ) (m : Moment) → Served limit m m NoMemory
ends_at_once limit m = record {
  requests = [];
  replies = [];
  rest = [];
  out = [];
  held = m.held;
  machine = runs_none m.held;
  course = record { takes = takes_none m.left; each = tt; run = run_none m.held; writes = writes_none m.written };
  ends = (omega arith, inl (refl, inl refl));
}

after_some : (xs ys : List ℕ) → ys ≢ [] → xs ++ ys ≢ []
after_some [] ys some none = some none
after_some (x ∷ xs) ys some none = cc

log_some : (lines : Option (List LogLine)) → log_text lines ≢ []
log_some None none = cc
log_some (Some lines) none = after_some (flat_map log_line_text lines) (count_text (length lines)) (λ empty. cc) none

answer_some : (answer : Answer) → answer_text answer ≢ []
answer_some (Id id) none = cc
answer_some (Log lines) none = log_some lines none
answer_some (References list) none = after_some (flat_map reference_text list) (count_text (length list)) (λ empty. cc) none
answer_some (Name name) none = cc

reply_some : (reply : Reply) → reply_text reply ≢ []
unfolding reply_text
reply_some (Accepted answer) none = answer_some answer none
reply_some (Refused refusal) none = cc

-- the request was run, and no memory was left for its reply
pub ends_print_memory : (limit : ℕ) (start now next : Moment) (old new : Reading) (accepted : Bool) (block : Request) (reply : Reply)
    → SoFar limit start now old accepted → IsRequest old.hash block → Moves old new now.left next.left (spelling block)
    → IsReply now.held block reply next.held → next.written ≡ now.written → Served limit start next NoMemory
ends_print_memory limit start now next old new accepted block reply s fits m step written =
    ends_sink_memory limit start now next old new accepted block reply s fits m step (record { part = []; more = reply_text reply; is = refl; short = reply_some reply; writes = subst (λ w. Writes now.written w []) (sym written) (writes_none now.written) })

abbrev BeginsWithLine : List Item → Type 0
BeginsWithLine [] = ⊥
BeginsWithLine ((Line line) ∷ items) = Unit {0}
BeginsWithLine ((Block bytes) ∷ items) = ⊥

some_items : (items : List Item) → BeginsWithLine items → 0 < length (items_text items)
some_items [] h = absurd h
some_items ((Line line) ∷ items) h = omega (arith, length-append (line ++ 10 ∷ []) (items_text items), length-append line (10 ∷ []))
some_items ((Block bytes) ∷ items) h = absurd h

begins_with_line : (request : Request) → BeginsWithLine (items_of request)
begins_with_line (form.Commit asked) = tt
begins_with_line (form.Identity who) = tt
begins_with_line (form.Tag asked) = tt
begins_with_line (form.Ref asked) = tt
begins_with_line (form.Delete name expect) = tt
begins_with_line (form.Refs prefix) = tt
begins_with_line (form.Log name) = tt
begins_with_line (form.Paths id) = tt
begins_with_line (form.Walk order ids) = tt
begins_with_line (form.Bases first others) = tt
begins_with_line (form.Octopus ids) = tt
begins_with_line (form.Describe names max id) = tt
begins_with_line (form.NoteSet asked) = tt
begins_with_line (form.NoteDrop reference object) = tt
begins_with_line (form.NoteGet object patterns) = tt
begins_with_line form.Head = tt
begins_with_line (form.Namespace name) = tt

spelling_some : (request : Request) → 0 < length (spelling request)
unfolding spelling
spelling_some request = some_items (items_of request) (begins_with_line request)

pub turn_smaller : (old new : Reading) (left left' : Option (List ℕ)) (block : Request) → Moves old new left left' (spelling block) → length new.held + new.room < length old.held + old.room
turn_smaller old new left left' block m = omega (arith, ap length m.split, length-append old.held m.taken, length-append (spelling block) new.held, m.room, spelling_some block)
