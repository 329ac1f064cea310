use Rattle.pb_acquire.proofs.KeptLemmas.{ended_agrees}
use Rattle.std.proofs.Common.{rules}
use Rattle.pb_acquire.proofs.acquiring.Acquisitions.complete.Goals as goal

pub returns-clause-ended : goal.returns-clause-ended
returns-clause-ended c = λ all agrees.
    let records = c.in-Some.records in
    ended_agrees c.args.self.now _ all c.args.condition records agrees (search rules) (search rules) (search rules) (search rules) (search rules) (search rules) (search rules)
