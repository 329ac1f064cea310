use Rattle.std.proofs.Common.{arith, rules}
use Rattle.panda_sim.proofs.DoorLemmas.{rose_after}
use Rattle.panda_sim.proofs.serving.open_doors.Goals as goal

pub returns-in-Err-clause-cause : goal.returns-in-Err-clause-cause
returns-in-Err-clause-cause g c = λ is. rose_after _ _ _ c.loop.invariant.count (c.add_door.ensures.cause (search rules))

pub returns-in-Err-clause-count : goal.returns-in-Err-clause-count
returns-in-Err-clause-count g c = omega (arith, c.loop.invariant.count, c.add_door.ensures.count)
