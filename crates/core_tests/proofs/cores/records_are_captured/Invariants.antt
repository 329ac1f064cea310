use Rattle.core_tests.proofs.cores.records_are_captured.Given as goal

abbrev pub ghosts-play_from_the_start : goal.ghosts-play_from_the_start
ghosts-play_from_the_start g a = record { name = a.blank.name; parts = a.blank.parts }
