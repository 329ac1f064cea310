use Rattle.std.proofs.Common.{refl}
use Rattle.pb_words.specs.Signed.{int_of}
use Rattle.pb_words.specs.Decimals.{decimal_of}
use Rattle.pb_lut.specs.Computed.{tree_at, expression_of, function_of}
use Rattle.pb_fields.specs.Labels.{label_list, bit_names}
use Rattle.pb_fields.specs.Spelled.{spelled}
use Rattle.pb_fields.proofs.values.values_by_example.Goals as goal

pub returns : goal.returns
unfolding spelled int_of decimal_of tree_at expression_of function_of label_list bit_names
returns c =
    record {
      half_up = refl;
      under_half = refl;
      ten_places = refl;
      below_zero = refl;
      minus_zero = refl;
      minus_one = refl;
      function = refl;
      first_entry = refl;
      zero_label = refl;
      no_entry = refl;
      unit = refl;
    }
