use Rattle.std.proofs.Common.{ap}
use Rattle.pb_grammar.specs.Feeding.{Kept}
use Rattle.pb_grammar.proofs.LineLemmas.{kept_query}
use Rattle.pb_grammar.proofs.assembling.Assembler.keep_query.Goals as goal

pub returns-in-Some-clause-whole : goal.returns-in-Some-clause-whole
returns-in-Some-clause-whole c = λ is.
    kept_query c.keep_whole.new.self c.args.line.now c.in-Some.field-0.now c.in-Some.ensures.said c.in-Some.ensures.closed c.in-Some.ensures.text c.in-Some.ensures.short
    (ap (λ (k : Kept). k.stage) c.keep_whole.ensures) (ap (λ (k : Kept). k.bytes) c.keep_whole.ensures)
