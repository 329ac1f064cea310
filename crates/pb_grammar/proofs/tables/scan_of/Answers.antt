use Rattle.std.proofs.Common.{◌+◌, ◌∷◌, [], ◌++◌, take, drop, arith, ap, subst, ◌∙◌}
use Rattle.std.proofs.lemmas.List.{take_all}
use Rattle.pb_grammar.specs.Feeding.{Scans}
use Rattle.pb_grammar.proofs.ScanLemmas.{early_end, late_end}
use Rattle.pb_grammar.proofs.TableLemmas.{cut_at_place}
use Rattle.pb_grammar.proofs.tables.scan_of.Goals as goal

pub returns-then-scan-eq0-clause-none : goal.returns-then-scan-eq0-clause-none
returns-then-scan-eq0-clause-none c lines are e =
    let body = c.in-Some.body.now in
    early_end c.loop-b.scan (take c.loop-b.b-index body) (drop (c.loop-b.b-index + 1) body) c.args.behind.now c.loop-b.invariant c.if-scan-eq0.true
    (c.in-Some.ensures ∙ ap (λ t. t ++ 10 ∷ []) (cut_at_place body c.loop-b.b-index (omega arith) c.if-b-eq10.true))
    lines are e

pub returns-else-scan-eq0-2-clause-none : goal.returns-else-scan-eq0-2-clause-none
returns-else-scan-eq0-2-clause-none c lines are e =
    let body = c.in-Some.body.now in
    late_end c.loop-b.scan body c.args.behind.now
    (subst (λ t. Scans c.loop-b.scan t) (take_all c.loop-b.b-index body (omega arith)) c.loop-b.invariant)
    (omega (arith, c.if-scan-eq0-2.false)) c.in-Some.ensures
    lines are e
