use Rattle.std.proofs.Common.{refl}
use Rattle.base64.proofs.OnLiterals.{base64_on_literals}
use Rattle.pb_tables.specs.Computed.{numbers_in, said, written}
use Rattle.pb_tables.proofs.laws.writes_by_example.Goals as goal

pub returns : goal.returns
unfolding base64_on_literals numbers_in said written
returns c =
    record {
      numbers = refl;
      base64 = refl;
      appended = refl;
      emptied = refl;
      no_number = refl;
      no_word = refl;
      no_row = refl;
      no_trigger = refl;
      no_letters = refl;
      half_a_word = refl;
    }
