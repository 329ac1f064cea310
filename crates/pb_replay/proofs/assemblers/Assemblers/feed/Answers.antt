use Rattle.std.proofs.Common.{◌-◌, ◌<◌, length, rules, sym, subst, ◌∙◌, arith}
use Rattle.std.proofs.lemmas.List.{get_or_default}
use Rattle.pb_grammar.specs.Feeding.{Fed, nothing}
use Rattle.pb_replay.specs.Events.{waits_of, left_waiting}
use Rattle.pb_replay.specs.Waiting.{AreFed}
use Rattle.pb_replay.proofs.WaitingLemmas.{fed_set}
use Rattle.pb_replay.proofs.assemblers.Assemblers.feed.Goals as goal

pub returns-clause-fed : goal.returns-clause-fed
returns-clause-fed c waiting h =
    let inside : AreFed c.self.inside.each.items waiting = search rules in
    let room : c.args.session - 1 < length c.self.inside.each.items = omega (arith, c.self.invariant, c.requires.session.from_one, c.requires.session.in_count) in
    let own : Fed c.index_mut.result.now (waits_of waiting c.args.session) =
    subst (λ k. Fed k (waits_of waiting c.args.session))
    (get_or_default c.self.inside.each.items (c.args.session - 1) nothing c.index_mut.result.now room ∙ sym c.index_mut.ensures.value)
    (inside.each c.args.session c.requires.session) in
    fed_set c.self.inside.each.items waiting c.args.session c.feed_line.new.self (left_waiting (waits_of waiting c.args.session) c.args.text.now) c.self.invariant c.requires.session inside
    (c.feed_line.ensures.fed (waits_of waiting c.args.session) own)
