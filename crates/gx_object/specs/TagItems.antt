-- The parts of a tag, one after another.
use Rattle.std.specs.Prelude.{◌≡◌, ℕ, ◌+◌, ◌-◌, ◌≤◌, List, [], ◌∷◌, ◌++◌, length, drop, codes, Option, Some, None, Result, Ok, Err}
use Rattle.std.specs.Option.{option_map, option_map_or}
use Rattle.bstr.specs.BStr.{bstr_bytes}
use Rattle.gx_hash.specs.declared.kind.HashKind.{HashKind}
use Rattle.gx_hash.specs.HashKind.{IsOfKind}
use Rattle.gx_hash.specs.ObjectId.{hex_of}
use Rattle.gx_object.specs.declared.decode.DecodeError.{DecodeError}
use Rattle.gx_object.specs.declared.decode.DecodeError.TheVariants.{Decode}
use Rattle.gx_object.specs.declared.kind.Kind.{Kind}
use Rattle.gx_object.specs.declared.tag.items.TagToken.{TagToken}
use Rattle.gx_object.specs.declared.tag.items.TagToken.TheVariants as token
use Rattle.gx_object.specs.Kind.{kind_name}
use Rattle.gx_object.specs.IdentitySpelling.{IdentityText, identity_text}
use Rattle.gx_hash.specs.IdDigits.{IsHexId}
use Rattle.gx_object.specs.CommitSpelling.{text_line}
use Rattle.gx_object.specs.PartsRead.{PartsRead, left_of}
use Rattle.gx_object.specs.TagFronts.{Next, Target, TargetKind, Name, Tagger, Body, End}
use Rattle.gx_object.specs.TagSpelling.{TagText, IsTagName, SpellsTagger, SpellsTag, IsNoTag}

-- a part of a tag, as an object contains it
pub data Item : Type 0 where
  TargetIs : (id : List ℕ) → Item
  TargetKindIs : (kind : Kind) → Item
  NameIs : (name : List ℕ) → Item
  TaggerIs : (who : IdentityText) → Item
  BodyIs : (message : List ℕ) → (signature : Option (List ℕ)) → Item

-- the tagger as a part, where there is one
abbrev pub tagger_items : Option IdentityText → List Item
tagger_items None = []
tagger_items (Some who) = TaggerIs who ∷ []

-- the parts of a tag, in their order
abbrev pub items_of : TagText → List Item
items_of t =
    TargetIs t.target ∷ TargetKindIs t.target_kind ∷ NameIs t.name ∷ (tagger_items t.tagger
    ++ BodyIs t.message t.signature ∷ [])

-- the part that a token is
abbrev pub item_of : TagToken → Item
item_of (token.Target id) = TargetIs (hex_of id)
item_of (token.TargetKind kind) = TargetKindIs kind
item_of (token.Name name) = NameIs (bstr_bytes name)
item_of (token.Tagger who) = TaggerIs (identity_text who)
item_of (token.Body message signature) = BodyIs (bstr_bytes message) (option_map bstr_bytes signature)

-- what a line of a tag says that follows n others
abbrev pub IsLine : HashKind → ℕ → List ℕ → Item → Type 0
IsLine hash n line (TargetIs id) = (n ≡ 0) × IsHexId hash id × (line ≡ text_line (codes "object ") id)
IsLine hash n line (TargetKindIs kind) = (n ≡ 1) × (line ≡ text_line (codes "type ") (kind_name kind))
IsLine hash n line (NameIs name) = (n ≡ 2) × IsTagName name × (line ≡ text_line (codes "tag ") name)
IsLine hash n line (TaggerIs who) = (n ≡ 3) × SpellsTagger line (Some who)
IsLine hash n line (BodyIs message signature) = ⊥

-- lines with these items, after n others
abbrev pub AreLines : HashKind → ℕ → List ℕ → List Item → Type 0
AreLines hash n text [] = text ≡ []
AreLines hash n text (i ∷ is) =
    (line rest : List ℕ) × (text ≡ line ++ rest) × IsLine hash n line i × AreLines hash (n + 1) rest is

-- The bytes begin with lines, the last of which has this item, and n are before it.
pub record StandsInFront (hash : HashKind) (bytes : List ℕ) (n : ℕ) (i : Item) : Type 0 where
  pub front : List ℕ
  pub rest : List ℕ
  pub before : List Item
  pub whole : bytes ≡ front ++ rest
  pub lines : AreLines hash 0 front (before ++ i ∷ [])
  pub count : length before ≡ n

-- The bytes spell a tag whose items end with this one, and n are before it.
pub record EndsTag (hash : HashKind) (bytes : List ℕ) (n : ℕ) (i : Item) : Type 0 where
  pub tag : TagText
  pub spells : SpellsTag hash bytes tag
  pub last : drop n (items_of tag) ≡ i ∷ []

-- how many items it has given, until it has ended
abbrev pub given_at : Next → Option ℕ
given_at Target = Some 0
given_at TargetKind = Some 1
given_at Name = Some 2
given_at Tagger = Some 3
given_at Body = Some 4
given_at End = None

-- the item has a line, or it is the body, after which nothing comes
abbrev pub Tells : HashKind → List ℕ → ℕ → Item → Option ℕ → Type 0
Tells hash bytes n (BodyIs message signature) given = EndsTag hash bytes n (BodyIs message signature) × (given ≡ None)
Tells hash bytes n i given = StandsInFront hash bytes n i × (given ≡ Some (n + 1))

-- The bytes spell no tag, and go wrong after n lines of a tag.
pub record GoesWrong (hash : HashKind) (bytes : List ℕ) (n : ℕ) (error : DecodeError) : Type 0 where
  pub at : ℕ
  pub error_is : error ≡ Decode at
  pub none : IsNoTag hash bytes at
  pub front : List ℕ
  pub rest : List ℕ
  pub before : List Item
  pub whole : bytes ≡ front ++ rest
  pub lines : AreLines hash 0 front before
  pub count : length before ≡ n
  pub place : at ≡ length front

-- who made the tag is in its line, or the bytes spell a tag that doesn't tell it
abbrev pub TellsTagger : HashKind → List ℕ → Option IdentityText → Type 0
TellsTagger hash bytes (Some who) = StandsInFront hash bytes 3 (TaggerIs who)
TellsTagger hash bytes None = (t : TagText) × SpellsTag hash bytes t × (t.tagger ≡ None)

-- The bytes go wrong after no more lines than are before a tagger.
abbrev pub GoesWrongByTagger : HashKind → List ℕ → DecodeError → Type 0
GoesWrongByTagger hash bytes error = (n : ℕ) × (n ≤ 3) × GoesWrong hash bytes n error

-- of a tag, the next of its items, and then the end
abbrev pub IsNext : List Item → Option (Result TagToken DecodeError) → List Item → Type 0
IsNext [] None after = after ≡ []
IsNext (i ∷ is) (Some (Ok token)) after = (item_of token ≡ i) × (after ≡ is)
IsNext items result after = ⊥

-- Of all bytes, the items that lines in front have, and the body where a tag is spelled; else the refusal; and then
-- the end is given
abbrev pub IsTold : PartsRead → Option (Result TagToken DecodeError) → Option ℕ → Type 0
IsTold old (Some (Ok token)) given =
    (n : ℕ) × (old.given ≡ Some n) × Tells old.text.hash old.text.bytes n (item_of token) given
IsTold old (Some (Err error)) given =
    (n : ℕ) × (old.given ≡ Some n) × GoesWrong old.text.hash old.text.bytes n error × (given ≡ None)
IsTold old None given = (old.given ≡ None) × (given ≡ None)

-- an id is of the kind that was asked for
abbrev pub HasKind : HashKind → Option (Result TagToken DecodeError) → Type 0
HasKind hash (Some (Ok (token.Target id))) = IsOfKind hash id
HasKind hash result = Unit {0}

-- What a call of the iterator gives: of a tag, the next of its items, and of all bytes what their lines have.
pub record GivesPart (old : PartsRead) (result : Option (Result TagToken DecodeError)) (new : PartsRead) : Type 0 where
  pub same : new.text ≡ old.text
  pub kind : HasKind old.text.hash result
  pub tag : (t : TagText) → SpellsTag old.text.hash old.text.bytes t
      → IsNext (left_of old.given (items_of t)) result (left_of new.given (items_of t))
  pub told : IsTold old result new.given

-- No more than five items, or an error, come.
abbrev pub parts_left : PartsRead → ℕ
parts_left read = option_map_or (λ n. 5 - n) read.given 0

-- what an iterator has given before it comes to this, of these bytes
abbrev pub read_before : HashKind → List ℕ → Next → PartsRead
read_before hash bytes next = record { text = record { hash = hash; bytes = bytes }; given = given_at next }
