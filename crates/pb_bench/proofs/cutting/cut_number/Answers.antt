use Rattle.std.proofs.Common.{sym}
use Rattle.pb_bench.proofs.CuttingLemmas.{digits_of, behind_of}
use Rattle.pb_bench.proofs.cutting.cut_number.Goals as goal

pub returns-clause-digits : goal.returns-clause-digits
returns-clause-digits c =
    let cut = c.cut_digits.ensures in
    sym (digits_of c.args.text.now c.cut_digits.result.0.now c.cut_digits.result.1.now cut.cut cut.digits cut.end)

pub returns-clause-rest : goal.returns-clause-rest
returns-clause-rest c =
    let cut = c.cut_digits.ensures in
    sym (behind_of c.args.text.now c.cut_digits.result.0.now c.cut_digits.result.1.now cut.cut cut.digits cut.end)
