use Rattle.std.proofs.Common.{◌≡◌, map, take}
use Rattle.gx_object.specs.CommitSpelling.{header_text}
use Rattle.gx_object.specs.OwnedCommit.{owned_header}
use Rattle.gx_object.proofs.commit.owned.own_headers.Given as goal

-- the headers so far are copied
abbrev pub invariant-loop-header : goal.invariant-loop-header
invariant-loop-header l = l.owned.items ≡ map owned_header (map header_text (take l.header-index l.headers))
