use Rattle.std.proofs.Common.{refl}
use Rattle.pb_lut.specs.Computed.{tree_at, expression_of, function_of}
use Rattle.pb_lut.proofs.laws.computed_numbers.Goals as goal

pub returns : goal.returns
unfolding tree_at expression_of function_of
returns c =
    record {
      tilde_first = refl;
      tighter_first = refl;
      brackets_first = refl;
      digits = refl;
      unclosed = refl;
      two_letters = refl;
      nine_digits = refl;
    }
