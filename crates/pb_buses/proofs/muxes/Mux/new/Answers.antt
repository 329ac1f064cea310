use Rattle.std.proofs.Common.{refl}
use Rattle.pb_buses.specs.Delay.{line_after, digits}
use Rattle.pb_buses.proofs.muxes.Mux.new.Goals as goal

pub returns : goal.returns
unfolding line_after digits
returns c = refl
