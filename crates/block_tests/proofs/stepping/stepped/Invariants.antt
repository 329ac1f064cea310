use Rattle.block_tests.proofs.stepping.stepped.Given as goal

abbrev pub ghosts-stepped_by : goal.ghosts-stepped_by
ghosts-stepped_by g a = record { name = a.blank.name; parts = a.blank.parts }
