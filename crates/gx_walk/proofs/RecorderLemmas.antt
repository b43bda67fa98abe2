-- What a recorder keeps.
use Rattle.std.proofs.Common.{◌≡◌, List, [], ◌∷◌, ◌++◌, map, ap, ◌∙◌}
use Rattle.std.proofs.lemmas.List.{map-append}
use Rattle.gx_walk.specs.declared.tree.recorder.Record.{Record}
use Rattle.gx_walk.specs.Recorder.{visit_in}

pub kept : (xs ys : List Record) (x : Record) → ys ≡ xs ++ x ∷ [] → map visit_in ys ≡ map visit_in xs ++ visit_in x ∷ []
kept xs ys x h = ap (map visit_in) h ∙ map-append visit_in xs (x ∷ [])
