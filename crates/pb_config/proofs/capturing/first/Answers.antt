use Rattle.std.proofs.Common.{sym, arith}
use Rattle.std.proofs.lemmas.List.{take_all, length-take, length-take-le}
use Rattle.pb_config.proofs.capturing.first.Goals as goal

pub returns-then-text-le32-clause-first : goal.returns-then-text-le32-clause-first
returns-then-text-le32-clause-first c = sym (take_all 32 c.args.text.now c.if-text-le32.true)

pub slice_bounds-result-end : goal.slice_bounds-result-end
slice_bounds-result-end c = sym (length-take-le 32 c.args.text.now (omega (arith, c.if-text-le32.false)))

pub returns-clause-short : goal.returns-clause-short
returns-clause-short c = omega (arith, length-take 32 c.args.text.now)
