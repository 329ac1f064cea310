use Rattle.pb_still.proofs.CountLemmas.{one_count, one_run, counted_eventful}
use Rattle.pb_still.proofs.laws.busy_blocks_are_counted_once.Goals as goal

pub returns-clause-busy : goal.returns-clause-busy
returns-clause-busy c moment m n h g =
    one_count moment.box.stands.bus moment.box.stands.tick moment.before moment.box.stands.blocks m n h g

pub returns-clause-runs : goal.returns-clause-runs
returns-clause-runs c n moment a b x d h g = one_run n moment a b x d h g

pub returns-clause-eventful : goal.returns-clause-eventful
returns-clause-eventful c moment busy h = counted_eventful moment busy h
