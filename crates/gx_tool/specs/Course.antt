-- What a run did with its script, its store and its output, up to its end.
use Rattle.std.specs.declared.alloc.Global.{Global}
use Rattle.std.specs.Prelude.{String, string_bytes, codes, ◌≡◌, ◌≢◌, ℕ, ◌+◌, ◌≤◌, List, [], ◌∷◌, ◌++◌, length, Option, ◌⊎◌, true, false}
use Rattle.std.specs.List.{flat_map, AllByRecursion}
use Rattle.gx_hash.specs.declared.kind.HashKind.{HashKind}
use Rattle.gx_store.specs.State.{StoreState}
use Rattle.gx_store.specs.Faults.{Rose}
use Rattle.gx_store.specs.Outside.{Takes, IsEnd, Writes}
use Rattle.gx_store.specs.declared.error.What.{What}
use Rattle.gx_script.specs.declared.request.Request.{Request}
use Rattle.gx_script.specs.Spelling.{spelling}
use Rattle.gx_script.specs.Script.{IsRequest, Begins, IsBad}
use Rattle.gx_tool.specs.declared.reply.Reply.{Reply}
use Rattle.gx_tool.specs.declared.executing.ExecuteError.{ExecuteError}
use Rattle.gx_tool.specs.declared.executing.ExecuteError.TheVariants as no_reply
use Rattle.gx_tool.specs.declared.status.Status.{Status}
use Rattle.gx_tool.specs.declared.status.Status.TheVariants.{Done, Refusals, Malformed, ReadFault, WriteFault, NoMemory, BadWords, StoreFault, TooLong}
use Rattle.gix.specs.Held.{Held, HeldTold}
use Rattle.gix.specs.Repository.{held_by}
use Rattle.gix.specs.declared.repository.Repository.{Repository}
use Rattle.gx_tool.specs.Serving.{ServesAll, Stops}
use Rattle.gx_tool.specs.Machine.{Run}
use Rattle.gx_tool.specs.Reply.{reply_text, texts, all_accepted}

-- the number of a status
abbrev pub code : Status → ℕ
code Done = 0
code Refusals = 1
code Malformed = 2
code ReadFault = 3
code WriteFault = 4
code NoMemory = 5
code BadWords = 6
code StoreFault = 7
code TooLong = 8

-- What is there at a moment: the repository's settings and its store, what is left of the script and what was written,
-- where told, and the counts of faults of source and sink.
pub record Moment : Type 0 where
  pub held : Held
  pub left : Option (List ℕ)
  pub written : Option (List ℕ)
  pub source_faults : ℕ
  pub sink_faults : ℕ

-- the moment of a repository, a source and a sink, by what their store, source and sink tell and count
abbrev pub moment_of : {S I O : Type 0} → (S → StoreState) → (I → Option (List ℕ)) → (I → ℕ) → (O → Option (List ℕ))
    → (O → ℕ) → Repository S → I → O → Moment
moment_of state left source_faults written sink_faults repository source sink = record {
  held = held_by state repository;
  left = left source;
  written = written sink;
  source_faults = source_faults source;
  sink_faults = sink_faults sink;
}

-- These requests were read whole and run, with these replies; after them these bytes were taken; these bytes were
-- written; and this is what the repository held after the last reply.
pub record Course (start now : Moment) (requests : List Request) (replies : List Reply) (rest : List ℕ)
    (out : List ℕ) (held : Held) : Type 0 where
  pub takes : Takes start.left now.left (flat_map spelling requests ++ rest)
  pub each : AllByRecursion (IsRequest start.held.store.hash) requests
  pub run : ServesAll start.held requests replies held
  pub writes : Writes start.written now.written out

-- all replies but the last were written, and of that a front, but not all
pub record IsCut (replies : List Reply) (out : List ℕ) : Type 0 where
  pub before : List Reply
  pub last : Reply
  pub part : List ℕ
  pub more : List ℕ
  pub all : replies ≡ before ++ last ∷ []
  pub written : out ≡ texts before ++ part
  pub text : part ++ more ≡ reply_text last
  pub short : more ≢ []

-- a whole request of the store's kind stands at the front of the rest, and got no reply
pub record GotNoReply (hash : HashKind) (old : Held) (rest : List ℕ) (error : ExecuteError)
    (new : Held) : Type 0 where
  pub request : Request
  pub more : List ℕ
  pub fits : IsRequest hash request
  pub is : rest ≡ spelling request ++ more
  pub fails : Stops old request new error

-- all but the last byte begin a request, or are none
pub record IsOneTooMany (hash : HashKind) (rest : List ℕ) : Type 0 where
  pub within : List ℕ
  pub last : ℕ
  pub is : rest ≡ within ++ last ∷ []
  pub begins : Begins hash within

-- how many bytes were taken
abbrev pub taken_count : List Request → List ℕ → ℕ
taken_count requests rest = length (flat_map spelling requests ++ rest)

-- How a run ends, by its status: after these requests and replies, with this rest of the bytes taken, these bytes
-- written, and what the repository held after the last reply. 0 and 1: the script was read to its end, and all of its
-- replies were written. 2: the bytes after the requests are malformed. 3: a read failed; the bytes after the requests
-- begin one, or are none. 4: a write failed within a reply. 5: memory ran out. 6: never, since nothing is run. 7: the
-- store failed at a request. 8: a byte past the limit was taken; those before it, after the requests, begin one, or are
-- none. (Ours; docs/SCRIPT.md.)
abbrev pub Ends : ℕ → Moment → Moment → List Request → List Reply → List ℕ → List ℕ → Held → Status → Type 0
Ends limit start now requests replies rest out held Done = (taken_count requests rest ≤ limit) × (rest ≡ [])
    × IsEnd now.left × (out ≡ texts replies) × (now.held ≡ held) × (all_accepted replies ≡ true)
Ends limit start now requests replies rest out held Refusals = (taken_count requests rest ≤ limit) × (rest ≡ [])
    × IsEnd now.left × (out ≡ texts replies) × (now.held ≡ held) × (all_accepted replies ≡ false)
Ends limit start now requests replies rest out held Malformed = (taken_count requests rest ≤ limit)
    × ((newlines : ℕ) × IsBad start.held.store.hash rest (IsEnd now.left) newlines) × (out ≡ texts replies)
    × (now.held ≡ held)
Ends limit start now requests replies rest out held ReadFault = (taken_count requests rest ≤ limit)
    × Begins start.held.store.hash rest × Rose start.source_faults now.source_faults × (out ≡ texts replies)
    × (now.held ≡ held)
Ends limit start now requests replies rest out held WriteFault = (taken_count requests rest ≤ limit)
    × Rose start.sink_faults now.sink_faults × IsCut replies out × (now.held ≡ held)
Ends limit start now requests replies rest out held NoMemory = (taken_count requests rest ≤ limit)
    × (((out ≡ texts replies) × ((now.held ≡ held)
    ⊎ GotNoReply start.held.store.hash held rest no_reply.NoMemory now.held))
    ⊎ (IsCut replies out × (now.held ≡ held)))
Ends limit start now requests replies rest out held BadWords = ⊥
Ends limit start now requests replies rest out held StoreFault = (taken_count requests rest ≤ limit)
    × (out ≡ texts replies) × ((fault : What)
    × GotNoReply start.held.store.hash held rest (no_reply.Store fault) now.held)
Ends limit start now requests replies rest out held TooLong = (taken_count requests rest ≡ limit + 1)
    × IsOneTooMany start.held.store.hash rest × (out ≡ texts replies) × (now.held ≡ held)

-- A whole run: these requests were read whole and got these replies, and it ended so. Where the store tells its state,
-- the replies are those of a run of the repository machine, from the state before to the one after the last reply.
pub record Served (limit : ℕ) (start now : Moment) (status : Status) : Type 0 where
  pub requests : List Request
  pub replies : List Reply
  pub rest : List ℕ
  pub out : List ℕ
  pub held : Held
  pub course : Course start now requests replies rest out held
  pub machine : HeldTold (λ old new. Run old requests replies new) start.held held
  pub ends : Ends limit start now requests replies rest out held status

-- the bytes before the rest were written
pub record WritesUpTo (written written' : Option (List ℕ)) (bytes rest : List ℕ) : Type 0 where
  pub part : List ℕ
  pub is : part ++ rest ≡ bytes
  pub writes : Writes written written' part

-- a front of the bytes was written, but not all
pub record WritesFront (written written' : Option (List ℕ)) (bytes : List ℕ) : Type 0 where
  pub part : List ℕ
  pub more : List ℕ
  pub is : part ++ more ≡ bytes
  pub short : more ≢ []
  pub writes : Writes written written' part

-- the words after the program's name that ask for a run: a store, and `apply` (ours; docs/SCRIPT.md)
abbrev pub IsApply : List (String Global) → Type 0
IsApply [] = ⊥
IsApply (store ∷ []) = ⊥
IsApply (store ∷ word ∷ []) = string_bytes word ≡ codes "apply"
IsApply (store ∷ word ∷ more ∷ words) = ⊥

-- A run of a script up to the limit, which answers the number of its status.
pub record Answers (limit : ℕ) (start now : Moment) (number : ℕ) : Type 0 where
  pub status : Status
  pub is : number ≡ code status
  pub served : Served limit start now status
