use Rattle.pb_turn.proofs.Positions.{entries_stay}
use Rattle.pb_turn.proofs.laws.calls_stay.Goals as goal

pub returns : goal.returns
returns g c seen more made below = entries_stay seen more made below
