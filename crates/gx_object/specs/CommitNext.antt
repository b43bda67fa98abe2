-- Where an iterator over a commit is.
use Rattle.std.specs.Prelude.{ℕ, List}
use Rattle.gx_hash.specs.declared.kind.HashKind.{HashKind}
use Rattle.gx_object.specs.declared.commit.iter.Stage.{Stage}
use Rattle.gx_object.specs.declared.commit.iter.Stage.TheVariants as stage

-- what comes next in a commit, where `Parents` is a parent or the author, `Encoding` the encoding or what follows it,
-- and `Headers` a further header or the message
pub data Next : Type 0 where
  Tree : Next
  Parents : Next
  Committer : Next
  Encoding : Next
  Headers : Next
  End : Next

-- what the code calls it
abbrev pub next_of : Stage → Next
next_of stage.Tree = Tree
next_of stage.Parents = Parents
next_of stage.Committer = Committer
next_of stage.Encoding = Encoding
next_of stage.Headers = Headers
next_of stage.End = End

-- where an iterator is: the bytes, what is left of them, and what comes next there
pub record CommitPlace : Type 0 where
  pub hash : HashKind
  pub bytes : List ℕ
  pub rest : List ℕ
  pub next : Next
