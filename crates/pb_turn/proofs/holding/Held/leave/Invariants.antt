use Rattle.std.specs.Prelude.{Some}
use Rattle.pb_turn.proofs.holding.Held.leave.Given as goal

abbrev pub ghosts-note : goal.ghosts-note
ghosts-note g a = record { said = Some a.entry.now }
