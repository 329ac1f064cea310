use Rattle.pb_core.proofs.FittingLemmas.{opens_with_nothing, closes_with_nothing, leaves_with_nothing, is_opening, is_taking}
use Rattle.pb_core.proofs.histories.results_fit_their_events.Goals as goal

pub returns-clause-opening : goal.returns-clause-opening
returns-clause-opening c core id result h = opens_with_nothing core id result h

pub returns-clause-closing : goal.returns-clause-closing
returns-clause-closing c core id result h = closes_with_nothing core id result h

pub returns-clause-leaving : goal.returns-clause-leaving
returns-clause-leaving c core id result h = leaves_with_nothing core id result h

pub returns-clause-options : goal.returns-clause-options
returns-clause-options c core id line result h = is_opening core id line result h

pub returns-clause-taking : goal.returns-clause-taking
returns-clause-taking c core id result h = is_taking core id result h
