use Rattle.std.proofs.Common.{drop, ap, ◌∙◌}
use Rattle.pb_model.specs.Kept.{with_bits, with_positions}
use Rattle.pb_still.proofs.placing.put_values.Goals as goal

pub returns : goal.returns
returns c =
    let values = c.args.values.now in
    c.put_positions.ensures
    ∙ (ap (λ all. with_positions 0 all c.args.tick c.put_levels.new.buses) c.positions.ensures
    ∙ ap (with_positions 0 (drop 6 values) c.args.tick)
    (c.put_levels.ensures
    ∙ ap (λ levels. with_bits 0 levels c.args.tick c.args.buses.now) c.levels.ensures))
