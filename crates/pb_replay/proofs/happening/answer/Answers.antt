use Rattle.pb_replay.proofs.ToldLemmas.{told_ok, left_ok}
use Rattle.pb_replay.proofs.TallyLemmas.{answered_costs}
use Rattle.pb_replay.proofs.happening.answer.Goals as goal

pub returns-clause-ok : goal.returns-clause-ok
returns-clause-ok g c = λ state h. told_ok state c.args.event.now c.apply.result c.requires.told (c.apply.ensures.ok state h)

pub returns-clause-core : goal.returns-clause-core
returns-clause-core g c = λ state h. left_ok state c.apply.new.self c.args.event.now c.apply.result c.requires.told (c.apply.ensures.core state h)

pub returns-clause-costs : goal.returns-clause-costs
returns-clause-costs g c = λ state h.
    answered_costs state c.args.event.now c.args.core.now c.apply.new.self c.args.steps.now c.apply.new.steps c.requires.told (c.apply.ensures.counts state h)
