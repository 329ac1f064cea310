use Rattle.std.proofs.Common.{refl}
use Rattle.pb_encode.specs.Choosing.{options_of}
use Rattle.pb_encode.proofs.laws.options_by_example.Goals as goal

pub returns : goal.returns
unfolding options_of
returns c =
    record {
      nothing = refl;
      unscaled = refl;
      other_form = refl;
      undone = refl;
      ascii_last = refl;
      scaled_frames = refl;
      unknown = refl;
      lower_case = refl;
      tab = refl;
    }
