use Rattle.block_tests.proofs.coasting.blocks_coast_as_they_step.Given as goal

abbrev pub ghosts-calm_by : goal.ghosts-calm_by
ghosts-calm_by g a = record { name = a.blank.name; parts = a.blank.parts }
