use Rattle.std.proofs.Common.{◌-◌, sym, ap, ◌∙◌, arith}
use Rattle.pb_model.proofs.SettingLemmas.{first_of_seq, first_of_other, position_mux_place, position_mux_few}
use Rattle.pb_model.proofs.settings.position_input.Goals as goal

pub overflow_sub-result : goal.overflow_sub-result
overflow_sub-result c =
    omega (
      arith,
      (position_mux_few c.args.slot c.requires.slot c.requires.mux).0,
      first_of_seq c.args.slot.block c.if-slot-eq-BLOCK.true,
    )

pub overflow_sub-result-else-slot-eq-BLOCK : goal.overflow_sub-result-else-slot-eq-BLOCK
overflow_sub-result-else-slot-eq-BLOCK c =
    omega (
      arith,
      (position_mux_few c.args.slot c.requires.slot c.requires.mux).0,
      first_of_other c.args.slot.block c.if-slot-eq-BLOCK.false,
    )

pub returns-then-slot-eq-BLOCK-clause-place : goal.returns-then-slot-eq-BLOCK-clause-place
returns-then-slot-eq-BLOCK-clause-place c =
    sym (position_mux_place c.args.slot c.requires.slot c.requires.mux
    ∙ ap (λ n. c.args.slot.field - n) (first_of_seq c.args.slot.block c.if-slot-eq-BLOCK.true))

pub returns-then-slot-eq-BLOCK-clause-few : goal.returns-then-slot-eq-BLOCK-clause-few
returns-then-slot-eq-BLOCK-clause-few c =
    omega (
      arith,
      (position_mux_few c.args.slot c.requires.slot c.requires.mux).1,
      first_of_seq c.args.slot.block c.if-slot-eq-BLOCK.true,
    )

pub returns-else-slot-eq-BLOCK-clause-place : goal.returns-else-slot-eq-BLOCK-clause-place
returns-else-slot-eq-BLOCK-clause-place c =
    sym (position_mux_place c.args.slot c.requires.slot c.requires.mux
    ∙ ap (λ n. c.args.slot.field - n) (first_of_other c.args.slot.block c.if-slot-eq-BLOCK.false))

pub returns-else-slot-eq-BLOCK-clause-few : goal.returns-else-slot-eq-BLOCK-clause-few
returns-else-slot-eq-BLOCK-clause-few c =
    omega (
      arith,
      (position_mux_few c.args.slot c.requires.slot c.requires.mux).1,
      first_of_other c.args.slot.block c.if-slot-eq-BLOCK.false,
    )
