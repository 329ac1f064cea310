use Rattle.std.proofs.Common.{[], map, ap, ◌∙◌, arith}
use Rattle.std.specs.List.{range_with_len}
use Rattle.pb_fields.specs.declared.Slot.{Slot}
use Rattle.pb_config.specs.KeptConfig.{KeptConfig, with_clearing}
use Rattle.pb_config.specs.KeptParts.{with_raw}
use Rattle.pb_config.proofs.CapturingLemmas.{positions, own, all_slots, one_cleared, all_cleared}
use Rattle.pb_config.proofs.configs.Config.clear_captures.Goals as goal

pub loop-entry-init : goal.loop-entry-init
loop-entry-init c = all_slots c.args.self.now

pub loop-entry-preserved : goal.loop-entry-preserved
loop-entry-preserved c =
    let kept : KeptConfig = c.loop-entry.self in
    one_cleared positions (map own (range_with_len 32 8)) kept c.set.new.self (with_clearing c.args.self.now)
    c.loop-entry.entry 12 c.loop-entry-test.true
    (c.set.ensures ∙ ap (λ n. with_raw kept c.position_slot.result n) c.from.ensures
    ∙ ap (λ (s : Slot). with_raw kept s 0) c.position_slot.ensures.output)
    c.loop-entry.invariant

pub loop-entry-2-init : goal.loop-entry-2-init
loop-entry-2-init c =
    all_cleared positions (map own (range_with_len 32 8)) c.loop-entry.self (with_clearing c.args.self.now)
    c.loop-entry.entry 12 (omega (arith, c.loop-entry-test.false)) c.loop-entry.invariant

pub loop-entry-2-preserved : goal.loop-entry-2-preserved
loop-entry-2-preserved c =
    let kept : KeptConfig = c.loop-entry-2.self in
    one_cleared own [] kept c.set-in-loop-entry-2.new.self (with_clearing c.args.self.now)
    c.loop-entry-2.entry 40 c.loop-entry-2-test.true
    (c.set-in-loop-entry-2.ensures ∙ ap (λ n. with_raw kept c.own_slot.result n) c.from-in-loop-entry-2.ensures
    ∙ ap (λ (s : Slot). with_raw kept s 0) c.own_slot.ensures.output)
    c.loop-entry-2.invariant
