use Rattle.pb_core.proofs.HistoryLemmas.{serves_rows, serves_more}
use Rattle.pb_core.proofs.servers.CoreServer.serve.Goals as goal

pub returns-clause-origin : goal.returns-clause-origin
returns-clause-origin g c history h =
    let e = c.apply.ensures in
    serves_rows c.args.self.now c.apply.new.self c.args.event.now c.apply.result c.args.steps.now c.apply.new.steps history
    (record { ok = e.ok; core = e.core; err = e.err; memory = e.memory; counts = e.counts }) h

pub returns-clause-stands : goal.returns-clause-stands
returns-clause-stands g c history h =
    let e = c.apply.ensures in
    serves_more c.args.self.now c.apply.new.self c.args.event.now c.apply.result c.args.steps.now c.apply.new.steps history c.requires.can
    (record { ok = e.ok; core = e.core; err = e.err; memory = e.memory; counts = e.counts }) h
