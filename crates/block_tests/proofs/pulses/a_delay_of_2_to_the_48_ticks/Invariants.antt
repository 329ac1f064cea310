use Rattle.block_tests.proofs.pulses.a_delay_of_2_to_the_48_ticks.Given as goal

abbrev pub ghosts-long_delay : goal.ghosts-long_delay
ghosts-long_delay g a = record { name = a.blank.name; parts = a.blank.parts }
