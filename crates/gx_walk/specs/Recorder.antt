-- Records of visits.
use Rattle.std.specs.Prelude.{ℕ, List}
use Rattle.gx_object.specs.declared.tree.Entry.{Entry}
use Rattle.gx_walk.specs.declared.tree.visit.Action.TheVariants.{Continue}
use Rattle.gx_walk.specs.declared.tree.recorder.Record.{Record}
use Rattle.gx_walk.specs.Visits.{TreeVisit}

-- the record of an entry at a path
abbrev pub record_of : List ℕ → Entry → Record
record_of path entry = record { mode = entry.mode; filepath = path; oid = entry.oid }

-- the visit that a record is of: a recorder always goes on
abbrev pub visit_in : Record → TreeVisit
visit_in r = record { path = r.filepath; mode = r.mode; id = r.oid; answer = Continue }
