use Rattle.std.proofs.Common.{arith}
use Rattle.pb_replay.proofs.WaitingLemmas.{none_fed_of}
use Rattle.pb_replay.proofs.assemblers.Assemblers.new.Goals as goal

pub returns : goal.returns
returns c = none_fed_of c.loop-session.each.items (λ i h. c.loop-session.invariant.fed i (omega (arith, h, c.loop-session-test.false)))
