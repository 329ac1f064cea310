use Rattle.std.proofs.Common.{◌+◌, length}
use Rattle.pb_ports.proofs.WrittenFronts.{IsWritten}
use Rattle.pb_ports.proofs.writer_sinks.write_out.Given as goal

abbrev pub invariant-loop-rest : goal.invariant-loop-rest
invariant-loop-rest g l = IsWritten (g.W.Write.contents l.fn.writer) l.bytes l.rest (g.W.Write.contents l.writer)

abbrev pub decreases-loop-rest : goal.decreases-loop-rest
decreases-loop-rest g l = length l.rest + l.retries
