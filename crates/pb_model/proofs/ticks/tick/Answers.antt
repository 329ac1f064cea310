use Rattle.std.proofs.Common.{◌+◌, length, map, sym, ap, ◌∙◌, arith}
use Rattle.std.specs.List.{flat_map}
use Rattle.pb_model.specs.Tick.{kind_of, bits_of, positions_of}
use Rattle.pb_model.specs.Kept.{Kept, kept_after, with_bits, with_positions}
use Rattle.pb_model.proofs.TickLemmas.{kinds_after, many_bits, many_positions, are_35, pieces, agrees_along}
use Rattle.pb_model.specs.Arming.{is_capture_idle, idle_after}
use Rattle.pb_model.proofs.ArmLemmas.{ticked_idle, ticked_quiet}
use Rattle.pb_model.proofs.InputLemmas.{inputs_along}
use Rattle.pb_model.proofs.ticks.tick.Goals as goal

pub show_bits-entry-requires : goal.show_bits-entry-requires
show_bits-entry-requires g c =
    omega (
      arith,
      many_bits c.deref.result.now
          (ap (map kind_of) c.deref.ensures.value
          ∙ kinds_after _ _ _ _ c.state.invariant.kinds c.step_blocks-emit.ensures.blocks),
    )

pub show_values-requires : goal.show_values-requires
show_values-requires g c =
    omega (
      arith,
      c.state.invariant.four,
      c.show_bits-entry.ensures.next,
      many_bits c.deref.result.now
          (ap (map kind_of) c.deref.ensures.value
          ∙ kinds_after _ _ _ _ c.state.invariant.kinds c.step_blocks-emit.ensures.blocks),
    )

pub show_positions-requires : goal.show_positions-requires
show_positions-requires g c =
    omega (
      arith,
      many_positions c.deref-2.result.now
          (ap (map kind_of) c.deref-2.ensures.value
          ∙ kinds_after _ _ _ _ c.state.invariant.kinds c.step_blocks-emit.ensures.blocks),
    )

pub invariant_of-state : goal.invariant_of-state
invariant_of-state g c =
    record {
      kinds = kinds_after _ _ _ _ c.state.invariant.kinds c.step_blocks-emit.ensures.blocks;
      four = c.state.invariant.four;
    }

pub returns-clause-kept : goal.returns-clause-kept
returns-clause-kept g c =
    let kept : Kept = record {
      tick = c.state.inside.tick;
      buses = c.state.inside.buses;
      settings = c.state.inside.settings;
      blocks = c.state.inside.blocks.items;
    } in
    pieces kept c.step_blocks-emit.new.blocks.items c.show_bits-entry.new.buses c.show_values.new.buses
    c.show_positions.new.buses c.show_bits-entry.result c.step_blocks-emit.ensures.blocks
    (c.show_bits-entry.ensures.shown
    ∙ ap (λ l. with_bits 6 (flat_map bits_of l) (c.state.inside.tick + 1) c.state.inside.buses) c.deref.ensures.value)
    (c.show_bits-entry.ensures.next ∙ ap (λ l. 6 + length (flat_map bits_of l)) c.deref.ensures.value)
    c.show_values.ensures
    (c.show_positions.ensures
    ∙ ap (λ l. with_positions 4 (flat_map positions_of l) (c.state.inside.tick + 1) c.show_values.new.buses) c.deref-2.ensures.value)
    ∙ ap kept_after c.state.view_is

pub returns-clause-agrees : goal.returns-clause-agrees
returns-clause-agrees g c =
    let kept : Kept = record {
      tick = c.state.inside.tick;
      buses = c.state.inside.buses;
      settings = c.state.inside.settings;
      blocks = c.state.inside.blocks.items;
    } in
    agrees_along kept c.args.state.now _ c.state.view_is c.state.invariant
    (pieces kept c.step_blocks-emit.new.blocks.items c.show_bits-entry.new.buses c.show_values.new.buses
    c.show_positions.new.buses c.show_bits-entry.result c.step_blocks-emit.ensures.blocks
    (c.show_bits-entry.ensures.shown
    ∙ ap (λ l. with_bits 6 (flat_map bits_of l) (c.state.inside.tick + 1) c.state.inside.buses) c.deref.ensures.value)
    (c.show_bits-entry.ensures.next ∙ ap (λ l. 6 + length (flat_map bits_of l)) c.deref.ensures.value)
    c.show_values.ensures
    (c.show_positions.ensures
    ∙ ap (λ l. with_positions 4 (flat_map positions_of l) (c.state.inside.tick + 1) c.show_values.new.buses) c.deref-2.ensures.value))

pub returns-clause-inputs : goal.returns-clause-inputs
returns-clause-inputs g c =
    let kept : Kept = record {
      tick = c.state.inside.tick;
      buses = c.state.inside.buses;
      settings = c.state.inside.settings;
      blocks = c.state.inside.blocks.items;
    } in
    inputs_along kept c.args.state.now _ c.state.view_is c.state.invariant
    (pieces kept c.step_blocks-emit.new.blocks.items c.show_bits-entry.new.buses c.show_values.new.buses
    c.show_positions.new.buses c.show_bits-entry.result c.step_blocks-emit.ensures.blocks
    (c.show_bits-entry.ensures.shown
    ∙ ap (λ l. with_bits 6 (flat_map bits_of l) (c.state.inside.tick + 1) c.state.inside.buses) c.deref.ensures.value)
    (c.show_bits-entry.ensures.next ∙ ap (λ l. 6 + length (flat_map bits_of l)) c.deref.ensures.value)
    c.show_values.ensures
    (c.show_positions.ensures
    ∙ ap (λ l. with_positions 4 (flat_map positions_of l) (c.state.inside.tick + 1) c.show_values.new.buses) c.deref-2.ensures.value))

pub returns-clause-counts : goal.returns-clause-counts
returns-clause-counts g c =
    omega (arith, c.step_blocks-emit.ensures.counts, are_35 c.state.inside.blocks.items c.state.invariant.kinds)

pub returns-clause-idle : goal.returns-clause-idle
returns-clause-idle g c =
    let blocks = c.state.inside.blocks.items in
    let bus = c.state.inside.buses.bus in
    let tick = c.state.inside.tick in
    let kinds = kinds_after _ _ _ _ c.state.invariant.kinds c.step_blocks-emit.ensures.blocks in
    ap is_capture_idle c.step_blocks-emit.ensures.blocks
    ∙ (ticked_idle bus tick blocks c.state.invariant.kinds (sym (ap (map kind_of) c.step_blocks-emit.ensures.blocks) ∙ kinds)
    ∙ (ap (λ e. idle_after e (is_capture_idle blocks)) (sym c.step_blocks-emit.ensures.emits)
    ∙ ap (λ (k : Kept). idle_after c.step_blocks-emit.result (is_capture_idle k.blocks)) c.state.view_is))

pub returns-clause-quiet : goal.returns-clause-quiet
returns-clause-quiet g c idle =
    let blocks = c.state.inside.blocks.items in
    let bus = c.state.inside.buses.bus in
    let tick = c.state.inside.tick in
    c.step_blocks-emit.ensures.emits
    ∙ ticked_quiet bus tick blocks c.state.invariant.kinds
    (sym (ap (map kind_of) c.step_blocks-emit.ensures.blocks) ∙ kinds_after _ _ _ _ c.state.invariant.kinds c.step_blocks-emit.ensures.blocks)
    (ap (λ (k : Kept). is_capture_idle k.blocks) c.state.view_is ∙ idle)
