use Rattle.std.proofs.Common.{sym, ◌∙◌}
use Rattle.pb_core.proofs.CoreLemmas.{wrote}
use Rattle.pb_core.proofs.writes.write_slot.Goals as goal

pub returns-then-is_table-clause-core : goal.returns-then-is_table-clause-core
returns-then-is_table-clause-core g c = λ state h.
    wrote c.write_table.new.self state c.args.slot c.args.append c.args.base64 c.args.body.now
    (sym c.is_table.ensures ∙ c.if-is_table.true) (c.write_table.ensures.core state h)
