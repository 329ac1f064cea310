use Rattle.std.proofs.Common.{ap, arith}
use Rattle.pb_model.specs.Units.{bit_outputs, position_outputs}
use Rattle.pb_model.proofs.EntryLemmas.{bits_within, positions_within}
use Rattle.pb_model.proofs.blocks.Block.show.Goals as goal

pub show_bits-requires : goal.show_bits-requires
show_bits-requires c =
    omega (arith, c.bit_entry.ensures, ap bit_outputs c.requires.kind, bits_within c.args.place c.requires.place)

pub show_positions-requires : goal.show_positions-requires
show_positions-requires c =
    omega (arith, c.position_entry.ensures, ap position_outputs c.requires.kind, positions_within c.args.place c.requires.place)
