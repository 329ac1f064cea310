use Rattle.std.proofs.lemmas.List.{take_rest}
use Rattle.pb_ports.proofs.WrittenFronts.{IsWritten-more}
use Rattle.pb_ports.proofs.writer_sinks.write_out.Goals as goal

pub loop-rest-preserved-in-Ok : goal.loop-rest-preserved-in-Ok
loop-rest-preserved-in-Ok g c =
    simp take_rest (IsWritten-more _ _ _ _ _ _ c.loop-rest.invariant c.in-Ok.ensures.bytes)
