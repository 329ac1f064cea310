use Rattle.capture_tests.proofs.machine.a_record_over_both_ends_of_the_range.Given as goal

abbrev pub ghosts-both_ends : goal.ghosts-both_ends
ghosts-both_ends g a = record { name = a.blank.name; parts = a.blank.parts }
