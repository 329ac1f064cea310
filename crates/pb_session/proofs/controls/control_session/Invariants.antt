use Rattle.pb_session.proofs.controls.control_session.Given as goal

-- the ledger that the blank opens
abbrev pub ghosts-counted : goal.ghosts-counted
ghosts-counted g a = record { name = a.blank.name; parts = a.blank.parts }
