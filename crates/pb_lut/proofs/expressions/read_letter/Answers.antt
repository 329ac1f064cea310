use Rattle.std.proofs.Common.{sym, arith}
use Rattle.pb_lut.proofs.ReadingLemmas.{IfNone-from, front, Reads-letter, ReadsNothing-letter, ReadsNothing-empty}
use Rattle.pb_lut.proofs.expressions.read_letter.Goals as goal

pub returns-in_err-number_of-in-len1-up-clause-none : goal.returns-in_err-number_of-in-len1-up-clause-none
returns-in_err-number_of-in-len1-up-clause-none c =
    IfNone-from _ (ReadsNothing-letter (front c.args.text.now (omega arith)) c.requires (sym c.in_err-number_of-in-len1-up.ensures))

pub returns-in-empty-clause-none : goal.returns-in-empty-clause-none
returns-in-empty-clause-none c = ReadsNothing-empty _ (omega arith)

pub returns-in_ok-number_of-in-len1-up-clause-found : goal.returns-in_ok-number_of-in-len1-up-clause-found
returns-in_ok-number_of-in-len1-up-clause-found c =
    Reads-letter (front c.args.text.now (omega arith)) (sym c.in_ok-number_of-in-len1-up.ensures)
