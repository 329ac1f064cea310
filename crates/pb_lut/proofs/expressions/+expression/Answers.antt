use Rattle.std.proofs.lemmas.Option.{IfSome_then}
use Rattle.pb_lut.specs.Expressions.{nots, atoms}
use Rattle.pb_lut.specs.Readings.{Reads}
use Rattle.pb_lut.proofs.ReadingLemmas.{IfNone-from, IfNone-by, Reads-only_xor, Reads-or_of, ReadsNothing-ors, ReadsNothing-ors_after, Reads-only_and, Reads-xor_of, ReadsNothing-xors, ReadsNothing-xors_after, Reads-only_not, Reads-and_of, ReadsNothing-ands, ReadsNothing-ands_after, Reads-only_atom, Reads-not_of, ReadsNothing-nots, ReadsNothing-nots_after, Reads-parens, ReadsNothing-parens, ReadsNothing-unclosed}
use Rattle.pb_lut.proofs.expressions.+expression.Goals as goal

pub read_ors-returns-in_err-left-clause-none : goal.read_ors-returns-in_err-left-clause-none
read_ors-returns-in_err-left-clause-none t c = IfNone-from _ (ReadsNothing-ors c.in_err-left.ensures.none)

pub read_ors-returns-in_default-clause-found : goal.read_ors-returns-in_default-clause-found
read_ors-returns-in_default-clause-found t c = Reads-only_xor c.in_ok-left.ensures.found c.in_default.ensures.none

pub read_ors-returns-in_err-right-clause-none : goal.read_ors-returns-in_err-right-clause-none
read_ors-returns-in_err-right-clause-none t c = IfNone-from _ (ReadsNothing-ors_after c.in_ok-left.ensures.found c.in-Some.ensures.found c.in_err-right.ensures.none)

pub read_ors-returns-clause-found : goal.read_ors-returns-clause-found
read_ors-returns-clause-found t c = Reads-or_of c.in_ok-left.ensures.found c.in-Some.ensures.found c.in_ok-right.ensures.found

pub read_xors-returns-in_err-left-clause-none : goal.read_xors-returns-in_err-left-clause-none
read_xors-returns-in_err-left-clause-none t c = IfNone-from _ (ReadsNothing-xors c.in_err-left.ensures.none)

pub read_xors-returns-in_default-clause-found : goal.read_xors-returns-in_default-clause-found
read_xors-returns-in_default-clause-found t c = Reads-only_and c.in_ok-left.ensures.found c.in_default.ensures.none

pub read_xors-returns-in_err-right-clause-none : goal.read_xors-returns-in_err-right-clause-none
read_xors-returns-in_err-right-clause-none t c = IfNone-from _ (ReadsNothing-xors_after c.in_ok-left.ensures.found c.in-Some.ensures.found c.in_err-right.ensures.none)

pub read_xors-returns-clause-found : goal.read_xors-returns-clause-found
read_xors-returns-clause-found t c = Reads-xor_of c.in_ok-left.ensures.found c.in-Some.ensures.found c.in_ok-right.ensures.found

pub read_ands-returns-in_err-left-clause-none : goal.read_ands-returns-in_err-left-clause-none
read_ands-returns-in_err-left-clause-none t c = IfNone-from _ (ReadsNothing-ands c.in_err-left.ensures.none)

pub read_ands-returns-in_default-clause-found : goal.read_ands-returns-in_default-clause-found
read_ands-returns-in_default-clause-found t c = Reads-only_not c.in_ok-left.ensures.found c.in_default.ensures.none

pub read_ands-returns-in_err-right-clause-none : goal.read_ands-returns-in_err-right-clause-none
read_ands-returns-in_err-right-clause-none t c = IfNone-from _ (ReadsNothing-ands_after c.in_ok-left.ensures.found c.in-Some.ensures.found c.in_err-right.ensures.none)

pub read_ands-returns-clause-found : goal.read_ands-returns-clause-found
read_ands-returns-clause-found t c = Reads-and_of c.in_ok-left.ensures.found c.in-Some.ensures.found c.in_ok-right.ensures.found

pub read_nots-returns-in_default-clause-found : goal.read_nots-returns-in_default-clause-found
read_nots-returns-in_default-clause-found t c =
    let text = c.args.text.now in
    IfSome_then c.read_atoms.result {P = λ x. Reads atoms text x.0 x.1.now} {Q = λ x. Reads nots text x.0 x.1.now} c.read_atoms.ensures.found (λ x r. Reads-only_atom r)

pub read_nots-returns-in_default-clause-none : goal.read_nots-returns-in_default-clause-none
read_nots-returns-in_default-clause-none t c =
    IfNone-by c.read_atoms.result (ReadsNothing-nots c.in_default.ensures.none) c.read_atoms.ensures.none

pub read_nots-returns-in_err-n-clause-none : goal.read_nots-returns-in_err-n-clause-none
read_nots-returns-in_err-n-clause-none t c = IfNone-from _ (ReadsNothing-nots_after c.in-Some.ensures.found c.in_err-n.ensures.none)

pub read_nots-returns-clause-found : goal.read_nots-returns-clause-found
read_nots-returns-clause-found t c = Reads-not_of c.in-Some.ensures.found c.in_ok-n.ensures.found

pub read_atoms-returns-in_err-n-clause-none : goal.read_atoms-returns-in_err-n-clause-none
read_atoms-returns-in_err-n-clause-none t c = IfNone-from _ (ReadsNothing-parens c.in-Some.ensures.found c.in_err-n.ensures.none)

pub read_atoms-returns-in_err-rest-clause-none : goal.read_atoms-returns-in_err-rest-clause-none
read_atoms-returns-in_err-rest-clause-none t c = IfNone-from _ (ReadsNothing-unclosed c.in-Some.ensures.found c.in_ok-n.ensures.found c.in_err-rest.ensures.none)

pub read_atoms-returns-clause-found : goal.read_atoms-returns-clause-found
read_atoms-returns-clause-found t c = Reads-parens c.in-Some.ensures.found c.in_ok-n.ensures.found c.in_ok-rest.ensures.found
