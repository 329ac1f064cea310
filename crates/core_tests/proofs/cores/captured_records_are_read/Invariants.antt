use Rattle.core_tests.proofs.cores.captured_records_are_read.Given as goal

abbrev pub ghosts-read_from_the_start : goal.ghosts-read_from_the_start
ghosts-read_from_the_start g a = record { name = a.blank.name; parts = a.blank.parts }
