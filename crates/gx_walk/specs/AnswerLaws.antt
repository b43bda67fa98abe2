-- What holds of all merge bases and descriptions.
use Rattle.std.specs.Prelude.{◌≡◌, Bool, List, [], ◌∷◌, Option}
use Rattle.gx_hash.specs.declared.oid.ObjectId.{ObjectId}
use Rattle.gx_walk.specs.Describe.{IsDescription}
use Rattle.gx_walk.specs.History.{History}
use Rattle.gx_walk.specs.MergeBase.{AreBases, IsOctopus}
use Rattle.gx_walk.specs.declared.describe.Options.{Options}
use Rattle.gx_walk.specs.declared.describe.Outcome.{Outcome}

-- The merge bases of two commits are those of the two in the other order.
abbrev pub BasesGoBothWays : Type 0
BasesGoBothWays = (history : History) (shallow : List ObjectId) (one two : ObjectId) (bases : List ObjectId)
    → AreBases history shallow one (two ∷ []) bases → AreBases history shallow two (one ∷ []) bases

-- The merge bases of a commit and some others are one list.
abbrev pub BasesAreOneList : Type 0
BasesAreOneList = (history : History) (shallow : List ObjectId) (one : ObjectId) (others a b : List ObjectId)
    → AreBases history shallow one others a → AreBases history shallow one others b → a ≡ b

-- The base of a commit and all others is one.
abbrev pub OctopusIsOne : Type 0
OctopusIsOne = (history : History) (shallow : List ObjectId) (one : ObjectId) (others : List ObjectId)
    (a b : Option ObjectId) → IsOctopus history shallow one others a → IsOctopus history shallow one others b → a ≡ b

-- The description of a commit is one.
abbrev pub DescriptionIsOne : Type 0
DescriptionIsOne = (history : History) (is_shallow : ObjectId → Bool) (options : Options) (id : ObjectId)
    (a b : Option Outcome) → IsDescription history is_shallow options id a
    → IsDescription history is_shallow options id b → a ≡ b
