use Rattle.std.proofs.Common.{drop, arith, ap, sym, Some}
use Rattle.std.proofs.lemmas.Grind.{common_steps}
use Rattle.std.proofs.lemmas.List.{drop-drop}
use Rattle.pb_ports.proofs.mem_sources.MemSourceSource.read.Goals as goal

pub returns-clause-reads : goal.returns-clause-reads
returns-clause-reads c =
    let left = drop c.self.inside.at c.self.inside.bytes in
    (grind (arith, common_steps), (drop c.min-n.result left, grind (arith, common_steps), ap Some (sym (drop-drop c.min-n.result c.self.inside.at c.self.inside.bytes))))
