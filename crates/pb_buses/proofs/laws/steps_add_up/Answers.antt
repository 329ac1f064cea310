use Rattle.pb_buses.proofs.RuleLemmas.{after-two}
use Rattle.pb_buses.proofs.CoastLemmas.{within, shows_the_same}
use Rattle.pb_buses.proofs.laws.steps_add_up.Goals as goal

pub returns : goal.returns
returns g c =
    let rules = g.M.Machine.rules in
    record {
      parts = λ inputs tick m n block. after-two rules inputs m n tick block;
      within = λ inputs tick n h block. within rules inputs tick n h block;
      shown = λ inputs tick n block. shows_the_same rules inputs g.M.Machine.shown g.met.M.Machine.counts_unseen tick n block;
    }
