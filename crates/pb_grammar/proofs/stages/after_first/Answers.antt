use Rattle.std.proofs.Common.{sym, ap, ◌∙◌}
use Rattle.pb_grammar.specs.Feeding.{fault_of}
use Rattle.pb_grammar.proofs.StageLemmas.{line_ended}
use Rattle.pb_grammar.proofs.stages.after_first.Goals as goal

pub returns-in-Some : goal.returns-in-Some
returns-in-Some c seen text kept =
    let e = line_ended c.args.kept.now seen text kept c.in-Some.ensures.closed in
    (e.whole, sym (ap fault_of c.in-Some.ensures.said) ∙ e.reason)
