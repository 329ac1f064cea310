use Rattle.block_tests.proofs.sequencers.a_phase_of_2_to_the_60_ticks_is_coasted_over.Given as goal

abbrev pub ghosts-long_phases : goal.ghosts-long_phases
ghosts-long_phases g a = record { name = a.blank.name; parts = a.blank.parts }
