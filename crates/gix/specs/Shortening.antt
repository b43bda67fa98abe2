-- Ids that are abbreviated to as few digits as tell them apart.
use Rattle.std.specs.Prelude.{◌≡◌, ◌≢◌, ◌⊎◌, ℕ, ◌≤◌, ◌<◌, max, min, List, length, take, Option, Some, None, IfSome, IsTrue}
use Rattle.std.specs.FinMap as finite
use Rattle.gx_hash.specs.HashKind.{kind_of}
use Rattle.gx_hash.specs.ObjectId.{hex_of}
use Rattle.gx_hash.specs.Prefix.{IsPrefixOf, prefix_digits}
use Rattle.gx_hash.specs.PrefixDigits.{len_in_hex}
use Rattle.gx_hash.specs.declared.oid.ObjectId.{ObjectId}
use Rattle.gx_hash.specs.declared.prefix.Prefix.{Prefix}
use Rattle.gx_store.specs.Content.{Content, IsStored, lookup}
use Rattle.gx_store.specs.Sharing.{IsAnother}
use Rattle.gx_store.specs.State.{StoreState}
use Rattle.gx_store.specs.declared.error.StoreError.{StoreError}
use Rattle.gx_store.specs.declared.error.StoreError.TheVariants as failure
use Rattle.gx_store.specs.declared.error.What.{What}
use Rattle.gx_store.specs.declared.error.What.TheVariants as what
use Rattle.gix.specs.declared.id.shorten.ShortenError.{ShortenError}
use Rattle.gix.specs.declared.id.shorten.ShortenError.TheVariants.{NotFound, Store, NoMemory}
use Rattle.gix.specs.Asking.{Query}
use Rattle.gix.specs.HexLen.{IsAutoHexLen}

-- The least number of digits is the one that was chosen, but 4 at least and all at most, or else the one that suits the
-- number of objects. (git-config(1), "core.abbrev")
abbrev pub IsChosenLen : Option ℕ → ℕ → Content → ℕ → Type 0
IsChosenLen (Some chosen) digits content len = len ≡ max 4 (min chosen digits)
IsChosenLen None digits content len = IsAutoHexLen (finite.len content) len

-- The digits are the first of the id, at least so many, and as few as no other id of the content begins with.
-- (git-rev-parse(1), "--short")
pub record IsUnique (content : Content) (id : ObjectId) (least : ℕ) (digits : List ℕ) : Type 0 where
  pub enough : least ≤ length digits
  pub alone : (other : ObjectId) → IsAnother content id other → take (length digits) (hex_of other) ≢ digits
  pub shortest : (shorter : ℕ) → least ≤ shorter → shorter < length digits
      → (other : ObjectId) × IsAnother content id other × (take shorter (hex_of other) ≡ take shorter (hex_of id))

-- the prefix has as many of the id's digits as are needed
abbrev pub IsShortest : Option ℕ → ObjectId → Content → Prefix → Type 0
IsShortest hex_len id content prefix =
    (least : ℕ) × IsChosenLen hex_len (len_in_hex (kind_of id)) content least
    × IsUnique content id least (prefix_digits prefix)

-- the prefix is one of the id
abbrev pub IsOwnPrefix : ObjectId → Prefix → Type 0
IsOwnPrefix id prefix = IsPrefixOf id (length (prefix_digits prefix)) prefix

-- An id that is stored is abbreviated.
abbrev pub IsShortened : Option ℕ → ObjectId → Option Content → Prefix → Type 0
IsShortened hex_len id told prefix =
    IsOwnPrefix id prefix × IfSome told (λ content. IsStored content id × IsShortest hex_len id content prefix)

-- an error of the store
abbrev pub of_store : StoreError → ShortenError
of_store failure.NoMemory = NoMemory
of_store (failure.Fault fault) = Store fault

-- what of an error is the store's
abbrev pub shorten_part : ShortenError → Option StoreError
shorten_part (NotFound id) = None
shorten_part (Store fault) = Some (failure.Fault fault)
shorten_part NoMemory = Some failure.NoMemory

-- the parts of the store that are read: the id, and all objects together
abbrev pub ReadsId : ObjectId → What → Type 0
ReadsId id part = (part ≡ what.Object id) ⊎ (part ≡ what.Index)

-- An id that is stored is abbreviated, and any other is refused.
abbrev pub shorten_query : ObjectId → Query Prefix ShortenError
shorten_query id = record {
  is = λ settings view prefix. IsShortened settings.hex_len id view.content prefix;
  why = λ settings view e. (e ≡ NotFound id) × IfSome view.content (λ content. lookup content id ≡ None);
  reads = λ settings view part. ReadsId id part;
  fails = shorten_part;
}

-- why an id is not abbreviated
abbrev pub ShortenCauses : ObjectId → StoreState → ShortenError → Type 0
ShortenCauses id state (NotFound other) =
    (other ≡ id) × IfSome state.content (λ content. lookup content id ≡ None)
ShortenCauses id state (Store fault) = IsTrue (state.unreadable fault) × ReadsId id fault
ShortenCauses id state NoMemory = Unit {0}

-- an id is shown whole where it is not stored or can't be read
abbrev pub IsWhole : ObjectId → StoreState → Content → Prefix → Type 0
IsWhole id state content prefix =
    (prefix_digits prefix ≡ hex_of id)
    × ((lookup content id ≡ None) ⊎ ((fault : What) × ShortenCauses id state (Store fault)))

-- An id is abbreviated, or shown whole.
abbrev pub IsShortenedOrWhole : Option ℕ → ObjectId → StoreState → Prefix → Type 0
IsShortenedOrWhole hex_len id state prefix =
    IsOwnPrefix id prefix
    × IfSome state.content (λ content. (IsStored content id × IsShortest hex_len id content prefix)
    ⊎ IsWhole id state content prefix)
