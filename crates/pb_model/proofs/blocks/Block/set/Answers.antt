use Rattle.std.proofs.Common.{◌∙◌, sym, arith}
use Rattle.pb_model.proofs.SettingLemmas.{delay_is, bit_mux_few, is_bit_mux_at, selection_small, position_small}
use Rattle.pb_model.proofs.SettableLemmas.{settable}
use Rattle.pb_model.proofs.UnitLemmas.{value_of_delay, value_of_wire}
use Rattle.pb_model.proofs.blocks.Block.set.Goals as goal

pub delay-requires-clause-place : goal.delay-requires-clause-place
delay-requires-clause-place c =
    bit_mux_few c.args.slot c.requires.set.in_catalogue
    (is_bit_mux_at _ (delay_is c.args.slot c.args.raw c.requires.set c.if-slot-ne-ITSELF.true).0)

pub returns-then-slot-ne-ITSELF : goal.returns-then-slot-ne-ITSELF
returns-then-slot-ne-ITSELF c =
    value_of_delay c.args.slot c.args.raw c.args.self.now c.delay.new.inputs c.requires.set.in_catalogue
    c.if-slot-ne-ITSELF.true (delay_is c.args.slot c.args.raw c.requires.set c.if-slot-ne-ITSELF.true).0 c.delay.ensures

pub overflow_cast-raw-in-BitMux : goal.overflow_cast-raw-in-BitMux
overflow_cast-raw-in-BitMux c =
    omega (arith, selection_small c.args.slot c.args.raw c.requires.set c.if-slot-ne-ITSELF.false (sym c.in-BitMux.ensures))

pub wire-requires : goal.wire-requires
wire-requires c =
    bit_mux_few c.args.slot c.requires.set.in_catalogue (is_bit_mux_at _ (sym c.in-BitMux.ensures))

pub overflow_cast-self : goal.overflow_cast-self
overflow_cast-self c =
    omega (arith, position_small c.args.slot c.args.raw c.requires.set c.if-slot-ne-ITSELF.false (sym c.in-PosMux.ensures))

pub set-requires : goal.set-requires
set-requires c =
    settable c.args.self.now.unit c.args.slot c.args.raw c.requires.set c.if-slot-ne-ITSELF.false c.requires.kind
    (λ e. c.in_default.not-BitMux (c.field_type.ensures ∙ e)) (λ e. c.in_default.not-PosMux (c.field_type.ensures ∙ e))

pub returns-in-BitMux : goal.returns-in-BitMux
returns-in-BitMux c =
    value_of_wire c.args.slot c.args.raw c.args.self.now c.wire.new.inputs c.requires.set.in_catalogue
    c.if-slot-ne-ITSELF.false (sym c.in-BitMux.ensures) c.wire.ensures
