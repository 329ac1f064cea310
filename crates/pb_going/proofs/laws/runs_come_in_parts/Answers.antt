use Rattle.pb_going.proofs.RunLemmas.{after_parts, run_parts, handed_parts, one_eventful, one_still}
use Rattle.pb_going.proofs.laws.runs_come_in_parts.Goals as goal

pub returns : goal.returns
returns c =
    record {
      moments = after_parts;
      runs = run_parts;
      handed = handed_parts;
      eventful = one_eventful;
      still = one_still;
    }
