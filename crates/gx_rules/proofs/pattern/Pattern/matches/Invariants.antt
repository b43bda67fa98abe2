use Rattle.gx_rules.proofs.pattern.Pattern.matches.Given as goal

abbrev pub ghosts-matches_uncounted : goal.ghosts-matches_uncounted
ghosts-matches_uncounted a = record { name = a.blank.name; parts = a.blank.parts }
