use Rattle.pb_grammar.proofs.QueryLemmas.{line_queried}
use Rattle.pb_grammar.proofs.queries.queried_line.Goals as goal

pub returns-in-Some : goal.returns-in-Some
returns-in-Some c =
    line_queried c.args.bytes.now c.in-Some.text.now c.queried.result c.in-Some.ensures c.queried.ensures.said c.queried.ensures.text
