use Rattle.pb_core.proofs.AdvanceLemmas.{pushed_taken, none_taken}
use Rattle.pb_core.proofs.cores.advancing.run.Goals as goal

pub returns-in-Some-clause-taken : goal.returns-in-Some-clause-taken
returns-in-Some-clause-taken g c = λ moment all h a.
    pushed_taken c.args.acquisitions.now c.in-Some.records.now c.capture.new.records all moment _ c.capture.result.completed a c.in-Some.ensures.value
    (c.capture.ensures.pushed moment h)

pub returns-in-None-clause-taken : goal.returns-in-None-clause-taken
returns-in-None-clause-taken g c = λ moment all h a.
    none_taken c.args.acquisitions.now all moment _ c.advance.result.completed a (c.advance.ensures.records moment h)
