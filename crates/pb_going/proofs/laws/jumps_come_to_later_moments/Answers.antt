use Rattle.pb_going.proofs.JumpLemmas.{moved}
use Rattle.pb_going.proofs.laws.jumps_come_to_later_moments.Goals as goal

pub returns : goal.returns
returns c =
    record { jumps = λ g later place old values buses is plain was ahead due coming levels drives. moved g later place old values buses is plain was ahead due coming levels drives }
