use Rattle.std.proofs.Common.{ℕ, ◌-◌, subst}
use Rattle.pb_going.specs.Advanced.{ArePushed}
use Rattle.pb_jump.proofs.SteppingLemmas.{none_outdated}
use Rattle.pb_jump.proofs.sims.Sim.advance.Goals as goal

pub returns-in-Some-clause-records : goal.returns-in-Some-clause-records
returns-in-Some-clause-records g c =
    rw c.in-Some.is (λ moment h.
    subst (λ (t : ℕ). ArePushed moment (c.capture.new.self.tick - t) c.capture.result.completed c.in-Some.records.now c.capture.new.records) c.refresh.ensures.tick
    (c.capture.ensures.pushed moment (c.refresh.ensures.same moment h)))

pub returns-in-Some-clause-known : goal.returns-in-Some-clause-known
returns-in-Some-clause-known g c = none_outdated c.capture.new.self.lazies c.capture.ensures.known

pub returns-in-None-clause-known : goal.returns-in-None-clause-known
returns-in-None-clause-known g c = none_outdated c.go.new.self.lazies c.go.ensures.known
