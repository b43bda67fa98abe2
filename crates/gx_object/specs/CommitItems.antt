-- The parts of a commit, one after another.
use Rattle.std.specs.Prelude.{◌≡◌, ◌≢◌, ℕ, ◌⊎◌, ◌+◌, ◌-◌, ◌≤◌, drop, List, [], ◌∷◌, ◌++◌, length, map, codes, Option, Some, None, Result, Ok, Err}
use Rattle.std.specs.List.{flat_map, AllByRecursion}
use Rattle.std.specs.Option.{option_map_or}
use Rattle.gx_hash.specs.declared.kind.HashKind.{HashKind}
use Rattle.gx_hash.specs.HashKind.{IsOfKind}
use Rattle.gx_hash.specs.ObjectId.{hex_of}
use Rattle.bstr.specs.BStr.{bstr_bytes}
use Rattle.gx_object.specs.declared.commit.iter.CommitToken.{CommitToken}
use Rattle.gx_object.specs.declared.commit.iter.CommitToken.TheVariants as token
use Rattle.gx_object.specs.declared.decode.DecodeError.{DecodeError}
use Rattle.gx_object.specs.declared.decode.DecodeError.TheVariants.{Decode, NoMemory}
use Rattle.gx_object.specs.PartsRead.{ObjectText, PartsRead, left_of}
use Rattle.gx_object.specs.CommitNext.{Next, Tree, Parents, Committer, Encoding, Headers, End, CommitPlace}
use Rattle.gx_object.specs.IdentitySpelling.{IdentityText, identity_text, SpellsIdentity}
use Rattle.gx_hash.specs.IdDigits.{IsHexId}
use Rattle.gx_object.specs.CommitSpelling.{HeaderText, CommitText, IsHeader, IsEncodingHeader, HasEncoding, IsOneLine, IsNoCommit, SpellsCommit, header_text, raw_line, text_line}
use Rattle.gx_object.specs.Commit.{encoding_line}
use Rattle.gx_object.specs.CommitLines.{HasLine, IsHeaderLine, HasIdentityLine, HasHeader, HasHeaders, AddsHeaders, HasParents, IsNoFold}

-- a part of a commit, as an object contains it
pub data Item : Type 0 where
  TreeId : (id : List ℕ) → Item
  ParentId : (id : List ℕ) → Item
  AuthorIs : (who : IdentityText) → Item
  CommitterIs : (who : IdentityText) → Item
  EncodingIs : (text : List ℕ) → Item
  HeaderIs : (header : HeaderText) → Item
  MessageIs : (text : List ℕ) → Item

-- the encoding as a part, where there is one
abbrev pub encoding_items : Option (List ℕ) → List Item
encoding_items None = []
encoding_items (Some text) = EncodingIs text ∷ []

-- the parts after the committer
abbrev pub late_items : Option (List ℕ) → List HeaderText → List ℕ → List Item
late_items encoding headers message = encoding_items encoding ++ (map HeaderIs headers ++ MessageIs message ∷ [])

-- the parts of a commit, in their order
abbrev pub items_of : CommitText → List Item
items_of c =
    TreeId c.tree ∷ (map ParentId c.parents
    ++ AuthorIs c.author ∷ CommitterIs c.committer ∷ late_items c.encoding c.extra_headers c.message)

-- a line with a word and an id in front
abbrev pub HasIdLine : HashKind → List ℕ → List ℕ → List ℕ → List ℕ → Type 0
HasIdLine hash word bytes id more = IsHexId hash id × (bytes ≡ text_line word id ++ more)

-- what the first header after the committer is
abbrev pub IsFirstItem : HeaderText → Item → Type 0
IsFirstItem h i = (IsEncodingHeader h × (i ≡ EncodingIs h.raw)) ⊎ ((IsEncodingHeader h → ⊥) × (i ≡ HeaderIs h))

-- the message after an empty line, which ends the commit
abbrev pub IsMessage : List ℕ → Item → List ℕ → Next → Type 0
IsMessage bytes i more t = (t ≡ End) × (more ≡ []) × ((text : List ℕ) × (i ≡ MessageIs text) × (bytes ≡ 10 ∷ text))

-- the item that comes next in the bytes, what follows it, and what comes next there
abbrev pub ItemAt : HashKind → Next → List ℕ → Item → List ℕ → Next → Type 0
ItemAt hash Tree bytes i more t =
    (t ≡ Parents) × ((id : List ℕ) × (i ≡ TreeId id) × HasIdLine hash (codes "tree ") bytes id more)
ItemAt hash Parents bytes i more t =
    ((t ≡ Parents) × ((id : List ℕ) × (i ≡ ParentId id) × HasIdLine hash (codes "parent ") bytes id more))
    ⊎ ((t ≡ Committer) × ((who : IdentityText) × (i ≡ AuthorIs who) × HasIdentityLine (codes "author ") bytes who more))
ItemAt hash Committer bytes i more t =
    (t ≡ Encoding) × ((who : IdentityText) × (i ≡ CommitterIs who)
    × HasIdentityLine (codes "committer ") bytes who more)
ItemAt hash Encoding bytes i more t =
    ((t ≡ Headers) × ((h : HeaderText) × HasHeader bytes h more × IsFirstItem h i)) ⊎ IsMessage bytes i more t
ItemAt hash Headers bytes i more t =
    ((t ≡ Headers) × ((h : HeaderText) × HasHeader bytes h more × (i ≡ HeaderIs h))) ⊎ IsMessage bytes i more t
ItemAt hash End bytes i more t = ⊥

-- the bytes are these items and nothing else
abbrev pub ReadsAll : HashKind → Next → List ℕ → List Item → Type 0
ReadsAll hash s bytes [] = s ≡ End
ReadsAll hash s bytes (i ∷ is) = (more : List ℕ) × (t : Next) × ItemAt hash s bytes i more t × ReadsAll hash t more is

-- the line is a word and an id
abbrev pub HasId : HashKind → List ℕ → List ℕ → Type 0
HasId hash word line = (text : List ℕ) × IsHexId hash text × (line ≡ word ++ text)

-- the line is a word and an identity
abbrev pub HasWho : List ℕ → List ℕ → Type 0
HasWho word line = (text : List ℕ) × (who : IdentityText) × SpellsIdentity text who × (line ≡ word ++ text)

-- the line may come next
abbrev pub Allows : HashKind → Next → List ℕ → Type 0
Allows hash Tree line = HasId hash (codes "tree ") line
Allows hash Parents line = HasId hash (codes "parent ") line ⊎ HasWho (codes "author ") line
Allows hash Committer line = HasWho (codes "committer ") line
Allows hash Encoding line = (line ≡ []) ⊎ IsHeaderLine line
Allows hash Headers line = (line ≡ []) ⊎ (IsHeaderLine line ⊎ ((text : List ℕ) × (line ≡ 32 ∷ text)))
Allows hash End line = ⊥

-- no whole line in front may come next
abbrev pub Stuck : HashKind → Next → List ℕ → Type 0
Stuck hash s rest = (line more : List ℕ) → HasLine rest line more → Allows hash s line → ⊥

-- the part that a token is
abbrev pub item_of : CommitToken → Item
item_of (token.Tree id) = TreeId (hex_of id)
item_of (token.Parent id) = ParentId (hex_of id)
item_of (token.Author who) = AuthorIs (identity_text who)
item_of (token.Committer who) = CommitterIs (identity_text who)
item_of (token.Encoding text) = EncodingIs (bstr_bytes text)
item_of (token.ExtraHeader header) = HeaderIs (header_text header)
item_of (token.Message text) = MessageIs (bstr_bytes text)

-- The lines in front of what is left: a tree and parents, with an author, with a committer, with an
-- encoding and headers.
pub record TreeFront (hash : HashKind) : Type 0 where
  pub tree : List ℕ
  pub parents : List (List ℕ)
  pub tree_id : IsHexId hash tree
  pub parent_ids : AllByRecursion (IsHexId hash) parents

-- the lines up to the author
pub record AuthorFront (hash : HashKind) : Type 0 where
  pub before : TreeFront hash
  pub line : List ℕ
  pub who : IdentityText
  pub one : IsOneLine line
  pub spells : SpellsIdentity line who

-- the lines up to the committer
pub record CommitterFront (hash : HashKind) : Type 0 where
  pub before : AuthorFront hash
  pub line : List ℕ
  pub who : IdentityText
  pub one : IsOneLine line
  pub spells : SpellsIdentity line who

-- the lines up to some of the headers
pub record HeadersFront (hash : HashKind) : Type 0 where
  pub before : CommitterFront hash
  pub encoding : Option (List ℕ)
  pub headers : List HeaderText
  pub encoding_is : HasEncoding encoding headers
  pub each : AllByRecursion IsHeader headers
  pub some : (encoding ≢ None) ⊎ (headers ≢ [])

-- the bytes of the lines with the tree and parents
abbrev pub tree_front : {hash : HashKind} → TreeFront hash → List ℕ
tree_front f = text_line (codes "tree ") f.tree ++ flat_map (text_line (codes "parent ")) f.parents

-- the bytes of the lines up to the author
abbrev pub author_front : {hash : HashKind} → AuthorFront hash → List ℕ
author_front f = tree_front f.before ++ text_line (codes "author ") f.line

-- the bytes of the lines up to the committer
abbrev pub committer_front : {hash : HashKind} → CommitterFront hash → List ℕ
committer_front f = author_front f.before ++ text_line (codes "committer ") f.line

-- the bytes of the lines up to the headers
abbrev pub headers_front : {hash : HashKind} → HeadersFront hash → List ℕ
headers_front f = committer_front f.before ++ (encoding_line f.encoding ++ flat_map raw_line f.headers)

-- the parts in the lines with the tree and parents
abbrev pub tree_items : {hash : HashKind} → TreeFront hash → List Item
tree_items f = TreeId f.tree ∷ map ParentId f.parents

-- the parts in the lines up to the author
abbrev pub author_items : {hash : HashKind} → AuthorFront hash → List Item
author_items f = tree_items f.before ++ AuthorIs f.who ∷ []

-- the parts in the lines up to the committer
abbrev pub committer_items : {hash : HashKind} → CommitterFront hash → List Item
committer_items f = author_items f.before ++ CommitterIs f.who ∷ []

-- the parts in the lines up to the headers
abbrev pub headers_items : {hash : HashKind} → HeadersFront hash → List Item
headers_items f = committer_items f.before ++ (encoding_items f.encoding ++ map HeaderIs f.headers)

-- the front is the lines of these items, and the stage comes next
abbrev pub FrontIs : HashKind → Next → List ℕ → List Item → Type 0
FrontIs hash Tree front items = (front ≡ []) × (items ≡ [])
FrontIs hash Parents front items = (f : TreeFront hash) × (front ≡ tree_front f) × (items ≡ tree_items f)
FrontIs hash Committer front items = (f : AuthorFront hash) × (front ≡ author_front f) × (items ≡ author_items f)
FrontIs hash Encoding front items =
    (f : CommitterFront hash) × (front ≡ committer_front f) × (items ≡ committer_items f)
FrontIs hash Headers front items = (f : HeadersFront hash) × (front ≡ headers_front f) × (items ≡ headers_items f)
FrontIs hash End front items = (c : CommitText) × SpellsCommit hash front c × (items ≡ items_of c)

-- after a header no further line of it is left
abbrev pub EndsHeader : Next → List ℕ → Type 0
EndsHeader s rest = s ≡ Headers → IsNoFold rest

-- The iterator has given these items: they are the lines in front of what is left.
pub record Given (place : CommitPlace) (items : List Item) : Type 0 where
  pub front : List ℕ
  pub whole : place.bytes ≡ front ++ place.rest
  pub front_is : FrontIs place.hash place.next front items
  pub ends : EndsHeader place.next place.rest

-- The iterator has these items left, which end a commit.
abbrev pub Left : CommitPlace → List Item → Type 0
Left place items = ReadsAll place.hash place.next place.rest items

-- of the parts that were left, the first is given and the others are left
abbrev pub LeftBehind : List Item → Option (Result CommitToken DecodeError) → CommitPlace → Type 0
LeftBehind [] result new = (result ≡ None) × Left new []
LeftBehind (i ∷ is) result new = (token : CommitToken) × (result ≡ Some (Ok token)) × (item_of token ≡ i) × Left new is

-- the bytes spell no commit, and go wrong where the iterator is
abbrev pub IsRefusal : CommitPlace → DecodeError → Type 0
IsRefusal place (Decode at) = IsNoCommit place.hash place.bytes at × (at + length place.rest ≡ length place.bytes)
IsRefusal place NoMemory = ⊥

-- the parts given so far and the next are the lines in front; or the bytes go wrong here
abbrev pub GivenBehind : CommitPlace → List Item → Option (Result CommitToken DecodeError) → CommitPlace → Type 0
GivenBehind old items None new = (old.next ≡ End) × (new ≡ old)
GivenBehind old items (Some (Ok token)) new = Given new (items ++ item_of token ∷ [])
GivenBehind old items (Some (Err e)) new = (new.next ≡ End) × IsRefusal old e

-- an id is of the kind that was asked for
abbrev pub HasKind : HashKind → Option (Result CommitToken DecodeError) → Type 0
HasKind hash (Some (Ok (token.Tree id))) = IsOfKind hash id
HasKind hash (Some (Ok (token.Parent id))) = IsOfKind hash id
HasKind hash result = Unit {0}

-- what a call of the iterator gives
pub record NextItem (old : CommitPlace) (result : Option (Result CommitToken DecodeError))
    (new : CommitPlace) : Type 0 where
  pub bytes : new.bytes ≡ old.bytes
  pub hash : new.hash ≡ old.hash
  pub kind : HasKind old.hash result
  -- of a commit, each item in turn
  pub left : (items : List Item) → Left old items → LeftBehind items result new
  -- of other bytes, the items in front of their place, and then the refusal
  pub given : (items : List Item) → Given old items → GivenBehind old items result new

-- ---- what a call of the iterator gives

-- the next of these items, and then the end
abbrev pub IsNext : List Item → Option (Result CommitToken DecodeError) → List Item → Type 0
IsNext [] None after = after ≡ []
IsNext (i ∷ is) (Some (Ok token)) after = (item_of token ≡ i) × (after ≡ is)
IsNext items result after = ⊥

-- The bytes begin with lines of items, the last of which is this one, and n are before it.
pub record StandsAt (text : ObjectText) (n : ℕ) (i : Item) : Type 0 where
  pub stage : Next
  pub front : List ℕ
  pub rest : List ℕ
  pub before : List Item
  pub whole : text.bytes ≡ front ++ rest
  pub front_is : FrontIs text.hash stage front (before ++ i ∷ [])
  pub count : length before ≡ n

-- The bytes spell a commit whose items end with this one, and n are before it.
pub record EndsCommit (text : ObjectText) (n : ℕ) (i : Item) : Type 0 where
  pub commit : CommitText
  pub spells : SpellsCommit text.hash text.bytes commit
  pub last : drop n (items_of commit) ≡ i ∷ []

-- The bytes spell no commit, and go wrong after the lines of n items.
pub record GoesWrongAfter (text : ObjectText) (n : ℕ) (e : DecodeError) : Type 0 where
  pub at : ℕ
  pub error : e ≡ Decode at
  pub none : IsNoCommit text.hash text.bytes at
  pub stage : Next
  pub front : List ℕ
  pub before : List Item
  pub at_is : at ≡ length front
  pub front_is : FrontIs text.hash stage front before
  pub count : length before ≡ n

-- the item has a line and more may come, or it is the last of a commit
abbrev pub Tells : ObjectText → ℕ → Item → Option ℕ → Type 0
Tells text n i (Some given) = (given ≡ n + 1) × StandsAt text n i
Tells text n i None = EndsCommit text n i

-- Of all bytes, the items that lines in front have, and the message where a commit is spelled; else the refusal; and
-- then the end.
abbrev pub IsTold : PartsRead → Option (Result CommitToken DecodeError) → Option ℕ → Type 0
IsTold old (Some (Ok token)) given = (n : ℕ) × (old.given ≡ Some n) × Tells old.text n (item_of token) given
IsTold old (Some (Err error)) given = (n : ℕ) × (old.given ≡ Some n) × GoesWrongAfter old.text n error × (given ≡ None)
IsTold old None given = (old.given ≡ None) × (given ≡ None)

-- What a call of the iterator gives: of a commit, the next of its items, and of all bytes what their lines have.
pub record GivesPart (old : PartsRead) (result : Option (Result CommitToken DecodeError))
    (new : PartsRead) : Type 0 where
  pub same : new.text ≡ old.text
  pub kind : HasKind old.text.hash result
  pub commit : (c : CommitText) → SpellsCommit old.text.hash old.text.bytes c
      → IsNext (left_of old.given (items_of c)) result (left_of new.given (items_of c))
  pub told : IsTold old result new.given

-- No more items come than bytes are left, and an error or the end.
abbrev pub parts_left : PartsRead → ℕ
parts_left read = option_map_or (λ n. length read.text.bytes - n + 1) read.given 0

-- ---- how an iterator came to where it is

-- it has given n items, and has these left of a commit
pub record IsAt (place : CommitPlace) (n : ℕ) : Type 0 where
  pub items : List Item
  pub given : Given place items
  pub count : length items ≡ n
  pub left : (c : CommitText) → SpellsCommit place.hash place.bytes c → Left place (drop n (items_of c))
  pub short : n + length place.rest ≤ length place.bytes

-- until it has ended
abbrev pub IsReached : CommitPlace → ℕ → Type 0
IsReached place n = place.next ≢ End → IsAt place n

-- the number of items that were given, until it has ended
abbrev pub given_at : Next → ℕ → Option ℕ
given_at End n = None
given_at s n = Some n

-- how many items are left at most
abbrev pub items_left_at : Next → ℕ → ℕ
items_left_at End bytes = 0
items_left_at s bytes = bytes + 1

-- A front of the bytes is the lines of items that end with this one.
pub record StandsInFront (text : ObjectText) (i : Item) : Type 0 where
  pub stage : Next
  pub front : List ℕ
  pub rest : List ℕ
  pub items : List Item
  pub whole : text.bytes ≡ front ++ rest
  pub front_is : FrontIs text.hash stage front (items ++ i ∷ [])

-- The bytes spell no commit, and go wrong after the lines before this stage.
pub record GoesWrong (text : ObjectText) (stage : Next) (e : DecodeError) : Type 0 where
  pub at : ℕ
  pub error : e ≡ Decode at
  pub none : IsNoCommit text.hash text.bytes at
  pub front : List ℕ
  pub items : List Item
  pub at_is : at ≡ length front
  pub front_is : FrontIs text.hash stage front items

-- the bytes go wrong in or before the line of the author
abbrev pub GoesWrongByAuthor : ObjectText → DecodeError → Type 0
GoesWrongByAuthor text e = GoesWrong text Tree e ⊎ GoesWrong text Parents e

-- the bytes go wrong in or before the line of the committer
abbrev pub GoesWrongByCommitter : ObjectText → DecodeError → Type 0
GoesWrongByCommitter text e = GoesWrongByAuthor text e ⊎ GoesWrong text Committer e

-- the lines up to an author are before the rest
pub record HasAuthor (text : ObjectText) (who : IdentityText) (rest : List ℕ) : Type 0 where
  pub lines : AuthorFront text.hash
  pub whole : text.bytes ≡ author_front lines ++ rest
  pub who_is : lines.who ≡ who

-- the lines up to the committer are before the rest
pub record HasCommitter (text : ObjectText) (who : IdentityText) (rest : List ℕ) : Type 0 where
  pub lines : CommitterFront text.hash
  pub whole : text.bytes ≡ committer_front lines ++ rest
  pub who_is : lines.who ≡ who

-- some parents come first, and no further one after them
abbrev pub SkipsParents : HashKind → List ℕ → List ℕ → Type 0
SkipsParents hash bytes rest = (parents : List (List ℕ)) × HasParents hash bytes parents rest

-- an encoding and headers come first, and no further one after them
abbrev pub SkipsHeaders : List ℕ → List ℕ → Type 0
SkipsHeaders bytes rest =
    (encoding : Option (List ℕ)) × (headers : List HeaderText) × HasHeaders bytes encoding headers rest

-- further headers come first
abbrev pub SkipsFurther : List ℕ → List ℕ → Type 0
SkipsFurther bytes rest = (headers : List HeaderText) × AddsHeaders bytes [] headers rest

-- the bytes spell a commit with this message
pub record SpellsMessage (text : ObjectText) (said : List ℕ) : Type 0 where
  pub commit : CommitText
  pub spells : SpellsCommit text.hash text.bytes commit
  pub message : commit.message ≡ said

-- the bytes spell no commit, and go wrong at the place
pub record SpellsNone (text : ObjectText) (e : DecodeError) : Type 0 where
  pub at : ℕ
  pub error : e ≡ Decode at
  pub none : IsNoCommit text.hash text.bytes at
