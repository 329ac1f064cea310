use Rattle.block_tests.proofs.pulses.a_train_that_ends_behind_2_to_the_64.Given as goal

abbrev pub ghosts-long_train : goal.ghosts-long_train
ghosts-long_train g a = record { name = a.blank.name; parts = a.blank.parts }
