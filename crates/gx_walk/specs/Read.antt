-- What a walk reads of a commit.
use Rattle.gx_walk.specs.History.{Node}
use Rattle.gx_walk.specs.declared.commit.read.ReadCommit.{ReadCommit}

-- the commit of a history that was read
abbrev pub node_of : ReadCommit → Node
node_of commit = record { parents = commit.parents; time = commit.time }
