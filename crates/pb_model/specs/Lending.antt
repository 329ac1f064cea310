-- The box lends its buses.
use Rattle.std.specs.Borrow.{Lends, MutBor, Fml}
use Rattle.pb_buses.specs.declared.Buses.{Buses}
use Rattle.pb_buses.specs.contracts.Buses as buses
use Rattle.pb_model.specs.contracts.boxes.BoxState as boxes
use Rattle.pb_model.specs.Kept.{Kept, with_buses}

-- the box ends with the buses that are left behind the reference
abbrev pub LendsBuses : MutBor Kept → MutBor Buses → Fml
LendsBuses state lent = Lends boxes.the_row buses.the_row state lent (with_buses state.now)
