use Rattle.capture_tests.proofs.deadlines.a_capture_over_2_to_the_61_ticks.Given as goal

abbrev pub ghosts-long_capture : goal.ghosts-long_capture
ghosts-long_capture g a = record { name = a.blank.name; parts = a.blank.parts }
