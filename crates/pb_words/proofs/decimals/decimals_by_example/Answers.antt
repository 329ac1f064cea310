use Rattle.std.proofs.Common.{refl}
use Rattle.pb_words.specs.Decimals.{decimal_of}
use Rattle.pb_words.proofs.decimals.decimals_by_example.Goals as goal

pub returns : goal.returns
unfolding decimal_of
returns c =
    record {
      places = refl;
      last_place = refl;
      point_first = refl;
      point_last = refl;
      ten_places = refl;
      two_points = refl;
      no_digits = refl;
    }
