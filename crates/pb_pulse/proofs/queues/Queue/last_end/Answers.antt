use Rattle.std.proofs.Common.{ap, sym, ◌∙◌}
use Rattle.std.specs.Option.{option_copied}
use Rattle.pb_pulse.specs.Queue.{last_end}
use Rattle.pb_pulse.proofs.QueueLemmas.{last_end-some, last_end-none, has_pulses}
use Rattle.pb_pulse.proofs.queues.Queue.last_end.Goals as goal

pub end-requires : goal.end-requires
end-requires c =
    let found = sym c.back.ensures ∙ ap option_copied c.in-Some.is in
    (has_pulses 0 c.self.inside.trains.items _ c.in-Some.train.now c.self.invariant.1 found).one

pub returns-in-Some : goal.returns-in-Some
returns-in-Some c =
    let found = sym c.back.ensures ∙ ap option_copied c.in-Some.is in
    c.end.ensures.value
    ∙ sym (last_end-some c.self.inside.trains.items c.in-Some.train.now found)
    ∙ ap last_end c.self.view_is

pub returns-in-None : goal.returns-in-None
returns-in-None c =
    let found = sym c.back.ensures ∙ ap option_copied c.in-None.is in
    sym (last_end-none c.self.inside.trains.items found) ∙ ap last_end c.self.view_is
