use Rattle.std.proofs.Common.{not, sym, ap, ◌∙◌}
use Rattle.pb_grammar.specs.Grammar.{opening_of}
use Rattle.pb_grammar.specs.Feeding.{fault_of}
use Rattle.pb_grammar.proofs.StageLemmas.{found_opens, line_ended, line_opened}
use Rattle.pb_grammar.proofs.stages.after_any.Goals as goal

pub returns-in-Some : goal.returns-in-Some
returns-in-Some c seen text kept =
    line_opened c.args.kept.now seen (opening_of c.in-Some.opening) (not c.is_target.result) c.new.result kept
    (found_opens c.args.kept.now (opening_of c.in-Some.opening) c.in-Some.ensures) (ap not c.is_target.ensures) c.new.ensures

pub returns-in-None : goal.returns-in-None
returns-in-None c seen text kept =
    let e = line_ended c.args.kept.now seen text kept (sym c.in-None.ensures) in
    (e.whole, c.fault_of.ensures ∙ ap fault_of c.command_in.ensures ∙ e.reason)
