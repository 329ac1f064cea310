use Rattle.block_tests.proofs.clocks.a_pulse_of_six_days_takes_no_time.Given as goal

abbrev pub ghosts-first_pulse : goal.ghosts-first_pulse
ghosts-first_pulse g a = record { name = a.blank.name; parts = a.blank.parts }
