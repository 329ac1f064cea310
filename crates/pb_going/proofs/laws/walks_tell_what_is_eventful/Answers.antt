use Rattle.pb_going.proofs.EventLemmas.{eventful_first, eventful_stood, eventful_busy, still_idle}
use Rattle.pb_going.proofs.laws.walks_tell_what_is_eventful.Goals as goal

pub returns : goal.returns
returns c =
    record {
      first = λ g moment h is e. eventful_first g moment h is e;
      stood = λ g moment h e. eventful_stood g moment h e;
      busy = λ g moment h e b. eventful_busy g moment h e b;
      still = λ g moment h a b all. still_idle g moment h a b all;
    }
