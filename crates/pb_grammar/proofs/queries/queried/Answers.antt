use Rattle.std.proofs.Common.{ap, sym, ◌∙◌}
use Rattle.pb_grammar.specs.Grammar.{is_within}
use Rattle.pb_grammar.proofs.QueryLemmas.{IsQueried, is_queried}
use Rattle.pb_grammar.proofs.queries.queried.Goals as goal

found : (c : goal.Then-within) → IsQueried c.args.text.now c.in-Some.target.now
found c =
    is_queried c.args.text.now c.in-Some.target.now c.in-Some.ensures c.if-target-lt-LONGEST.true
    (ap (is_within 2 3) (sym c.names_in.ensures) ∙ sym c.within.ensures ∙ c.if-within.true)

pub returns-then-within-clause-said : goal.returns-then-within-clause-said
returns-then-within-clause-said c = (found c).said

pub returns-then-within-clause-closed : goal.returns-then-within-clause-closed
returns-then-within-clause-closed c = (found c).closed

pub returns-then-within-clause-text : goal.returns-then-within-clause-text
returns-then-within-clause-text c = (found c).text

pub returns-then-within-clause-short : goal.returns-then-within-clause-short
returns-then-within-clause-short c = (found c).short
