use Rattle.std.proofs.Common.{refl}
use Rattle.pb_fields.specs.Catalogue.{catalogue}
use Rattle.pb_fields.specs.Labels.{bit_names, position_names}
use Rattle.pb_fields.specs.Entries.{bit_entries, pos_entries}
use Rattle.pb_fields.proofs.places.buses_have_their_entries.Goals as goal

pub returns : goal.returns
unfolding catalogue bit_names position_names bit_entries pos_entries
returns c =
    record {
      used_bits = refl;
      used_positions = refl;
      bits = refl;
      positions = refl;
      bit_zero = refl;
      bit_one = refl;
      position_zero = refl;
      words = refl;
      word = refl;
      width = refl;
      behind_bits = refl;
      behind_zero = refl;
      behind_positions = refl;
      counted_as_one = refl;
      first_position = refl;
      delay = refl;
      max_delay = refl;
    }
