use Rattle.std.proofs.Common.{Some, arith, sym}
use Rattle.std.proofs.lemmas.Bool.{cond-false, cond-true}
use Rattle.pb_words.specs.declared.refusals.Refusal.TheVariants as refusals
use Rattle.pb_grammar.proofs.StageLemmas.{body_ended, body_more_fed, ended_here}
use Rattle.pb_grammar.proofs.stages.in_body.Goals as goal

pub returns-then-scan-gt0 : goal.returns-then-scan-gt0
returns-then-scan-gt0 c seen h = body_more_fed c.args.malformed c.args.scan _ seen c.args.byte h c.after.ensures

pub returns-then-malformed : goal.returns-then-malformed
returns-then-malformed c seen h =
    ended_here seen c.args.byte _ _ c.if-scan-gt0.false.0
    (sym (cond-true c.args.malformed (Some refusals.MalformedCommand) c.args.scan.fault c.if-malformed.true))
    (body_ended c.args.malformed c.args.scan seen h (omega (arith, c.if-scan-gt0.false.1)))

pub returns-else-malformed : goal.returns-else-malformed
returns-else-malformed c seen h =
    ended_here seen c.args.byte _ _ c.if-scan-gt0.false.0
    (sym (cond-false c.args.malformed (Some refusals.MalformedCommand) c.args.scan.fault c.if-malformed.false))
    (body_ended c.args.malformed c.args.scan seen h (omega (arith, c.if-scan-gt0.false.1)))
