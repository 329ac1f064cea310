use Rattle.std.proofs.Common.{take, drop, arith, sym}
use Rattle.std.proofs.lemmas.List.{take-append-drop}
use Rattle.std.proofs.lemmas.Grind.{common_steps}
use Rattle.pb_ports.proofs.mem_sinks.MemSinkSink.write_all.Goals as goal

pub returns-then-fitting-bytes-clause-writes : goal.returns-then-fitting-bytes-clause-writes
returns-then-fitting-bytes-clause-writes c =
    let n = c.min-fitting.result in
    let bytes = c.args.bytes.now in
    (take n bytes, drop n bytes, sym (take-append-drop n bytes), grind (arith, common_steps))
