-- The generator: requests for commits of small files, which are the same at every run. (Ours; docs/SCRIPT.md.)
use Rattle.std.specs.Prelude.{ℕ, zero, suc, ◌+◌, ◌*◌, ◌/◌, ◌%◌, pos, Bool, true, false, nat_eq, List, [], ◌∷◌, ◌++◌, length, map, Option, Some, None, codes, decimal}
use Rattle.gx_edit.specs.declared.path_edit.PathEdit.{PathEdit}
use Rattle.gx_edit.specs.declared.path_edit.PathEdit.TheVariants.{File, Remove}
use Rattle.gx_hash.specs.declared.oid.ObjectId.{ObjectId}
use Rattle.gx_object.specs.declared.signature.Signature.{Signature}
use Rattle.gx_script.specs.declared.request.CommitRequest.{CommitRequest}
use Rattle.gx_script.specs.declared.request.Request.{Request}
use Rattle.gx_script.specs.declared.request.Request.TheVariants.{Commit}
use Rattle.gx_tool.specs.declared.answer.Answer.TheVariants.{Id}
use Rattle.gx_tool.specs.declared.reply.Reply.{Reply}
use Rattle.gx_tool.specs.declared.reply.Reply.TheVariants.{Accepted}

-- The numbers are those of a linear congruential generator of 31 bits. (C11 7.22.2.2, the multiplier and the increment
-- of its example)
abbrev pub number_after : ℕ → ℕ
number_after number = (number * 1103515245 + 12345) % 2147483648

-- the number of the commit at a place, from 1 on
unfoldable pub number_at : ℕ → ℕ
number_at zero = 1
number_at (suc place) = number_after (number_at place)

-- the path of a directory in one of the topmost
abbrev pub directory_text : ℕ → ℕ → List ℕ
directory_text first second = codes "d" ++ (decimal first ++ (codes "/e" ++ decimal second))

-- The last digits of a number, from the right, choose the topmost directory, the one in it, and, two at once, the file.
abbrev pub file_path : ℕ → List ℕ
file_path number = directory_text (number % 10) (number / 10 % 10) ++ (codes "/f" ++ decimal (number / 100 % 100))

-- the directory beside the file's
abbrev pub dropped_path : ℕ → List ℕ
dropped_path number = directory_text (number % 10) ((number / 10 % 10 + 1) % 10)

-- a place as a line
abbrev pub place_line : ℕ → List ℕ
place_line place = decimal place ++ 10 ∷ []

-- the drop, where there is one
abbrev pub drop_at : Bool → ℕ → List PathEdit
drop_at true number = Remove (dropped_path number) ∷ []
drop_at false number = []

-- The file is put with the place for its bytes, and at each seventh place the directory beside the file's is dropped.
abbrev pub edits_at : ℕ → ℕ → List PathEdit
edits_at place number =
    File (file_path number) (place_line place) false ∷ drop_at (nat_eq (place % 7) 0) number

-- the author and committer, a second later at each place
abbrev pub who_at : ℕ → Signature
who_at place = record {
  name = codes "Gen";
  email = codes "gen@example.com";
  time = record { seconds = pos (1000 + place); offset = pos 0 };
}

-- the last commit, if there is one
abbrev pub parents_of : Option ObjectId → List ObjectId
parents_of None = []
parents_of (Some id) = id ∷ []

-- the reference of every commit
abbrev pub head_name : List ℕ
head_name = codes "HEAD"

-- the message tells the place
abbrev pub message_at : ℕ → List ℕ
message_at place = 103 ∷ place_line place

-- the request for the commit at a place, with its number, over the last commit
abbrev pub commit_of : ℕ → ℕ → Option ObjectId → CommitRequest
commit_of place number last = record {
  name = head_name;
  author = who_at place;
  committer = who_at place;
  parents = parents_of last;
  message = message_at place;
  edits = edits_at place number;
}

-- the same with the number of the place
abbrev pub commit_at : ℕ → Option ObjectId → CommitRequest
commit_at place last = commit_of place (number_at place) last

-- the last of the ids, or the one before them all
abbrev pub last_of : Option ObjectId → List ObjectId → Option ObjectId
last_of before [] = before
last_of before (id ∷ ids) = last_of (Some id) ids

-- The requests from a place on, each over the commit before, where these are the ids of the commits.
unfoldable pub requests_from : ℕ → Option ObjectId → List ObjectId → List Request
requests_from place last [] = []
requests_from place last (id ∷ ids) = Commit (commit_at place last) ∷ requests_from (suc place) (Some id) ids

-- the requests of the generator for the commits with these ids
abbrev pub requests_of : List ObjectId → List Request
requests_of ids = requests_from 1 None ids

-- their replies
unfoldable pub replies_of : List ObjectId → List Reply
replies_of ids = map (λ id. Accepted (Id id)) ids

-- the request after these commits
abbrev pub commit_after : List ObjectId → CommitRequest
commit_after ids = commit_at (suc (length ids)) (last_of None ids)
