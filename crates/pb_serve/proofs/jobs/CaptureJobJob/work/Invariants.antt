use Rattle.pb_serve.proofs.jobs.CaptureJobJob.work.Given as goal

abbrev pub ghosts-capture : goal.ghosts-capture
ghosts-capture g a = record { name = a.blank.name; parts = a.blank.parts }
