use Rattle.std.proofs.Common.{map, arith}
use Rattle.pb_model.proofs.TickLemmas.{many_bits, many_positions}
use Rattle.pb_going.specs.Sims.{block_in}
use Rattle.pb_jump.proofs.ShowLemmas.{all_shown}
use Rattle.pb_jump.proofs.showing.show.Goals as goal

pub show_bits-entry-requires : goal.show_bits-entry-requires
show_bits-entry-requires c = omega (arith, many_bits (map block_in c.args.lazies.now) c.requires.kinds)

pub show_values-requires : goal.show_values-requires
show_values-requires c =
    omega (arith, c.requires.four, c.show_bits-entry.ensures.next, many_bits (map block_in c.args.lazies.now) c.requires.kinds)

pub show_positions-requires : goal.show_positions-requires
show_positions-requires c = omega (arith, many_positions (map block_in c.args.lazies.now) c.requires.kinds)

pub returns : goal.returns
returns c =
    all_shown (map block_in c.args.lazies.now) c.args.settings.now c.args.tick c.show_bits-entry.result c.args.buses.now c.show_bits-entry.new.buses
    c.show_values.new.buses c.show_positions.new.buses c.show_bits-entry.ensures.shown c.show_bits-entry.ensures.next c.show_values.ensures
    c.show_positions.ensures
