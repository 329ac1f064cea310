use Rattle.pb_going.proofs.StepLemmas.{stepped}
use Rattle.pb_going.proofs.laws.ticks_come_to_the_next_moment.Goals as goal

pub returns : goal.returns
returns c =
    record { steps = λ g moment h is news emit was spent met shown driven values a b d. stepped g moment h is news emit was spent met shown driven values a b d }
