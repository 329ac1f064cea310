use Rattle.std.proofs.Common.{refl}
use Rattle.pb_fields.specs.Labels.{label_list}
use Rattle.pb_fields.proofs.places.labels_have_their_numbers.Goals as goal

pub returns : goal.returns
unfolding label_list
returns c =
    record {
      when_disabled = refl;
      edge = refl;
      first_pulse = refl;
      seq_state = refl;
      relative = refl;
      direction = refl;
      pcomp_state = refl;
      position_capture = refl;
      field_capture = refl;
      time_units = refl;
    }
