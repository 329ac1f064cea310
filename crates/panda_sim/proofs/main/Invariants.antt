use Rattle.panda_sim.proofs.main.Given as goal

-- the ledger that the blank opens
abbrev pub ghosts-replay : goal.ghosts-replay
ghosts-replay g a = record { name = a.blank.name; parts = a.blank.parts }
