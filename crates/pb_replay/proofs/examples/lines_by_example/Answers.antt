use Rattle.std.proofs.Common.{refl}
use Rattle.pb_replay.specs.Reading.{line_in}
use Rattle.pb_replay.proofs.examples.lines_by_example.Goals as goal

pub returns : goal.returns
unfolding line_in
returns c =
    record {
      skipped = refl;
      level = refl;
      command = refl;
      no_text = refl;
      empty_text = refl;
      close_control = refl;
      open_data = refl;
      take = refl;
      close_data = refl;
      end = refl;
      two_spaces = refl;
      third_part = refl;
      no_session = refl;
      plus = refl;
      lower_case = refl;
    }
