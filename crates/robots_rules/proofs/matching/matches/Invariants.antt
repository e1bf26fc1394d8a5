use Rattle.robots_rules.proofs.matching.matches.Given as goal

abbrev pub ghosts-lies_on_counted : goal.ghosts-lies_on_counted
ghosts-lies_on_counted a = record { name = a.blank.name; parts = a.blank.parts }
