use Rattle.capture_tests.proofs.deadlines.calm_ticks_at_once_and_one_by_one.Given as goal

abbrev pub ghosts-both_ways : goal.ghosts-both_ways
ghosts-both_ways g a = record { name = a.blank.name; parts = a.blank.parts }
