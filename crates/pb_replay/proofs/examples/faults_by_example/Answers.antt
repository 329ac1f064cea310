use Rattle.std.proofs.Common.{refl}
use Rattle.pb_replay.specs.Inputs.{inputs}
use Rattle.pb_replay.specs.Reading.{line_in}
use Rattle.pb_replay.specs.Faults.{first_fault}
use Rattle.pb_replay.proofs.examples.faults_by_example.Goals as goal

pub returns : goal.returns
unfolding inputs line_in first_fault
returns c =
    record {
      script = refl;
      no_newline = refl;
      after_the_end = refl;
      malformed = refl;
      tick_out_of_range = refl;
      tick_falls = refl;
      unknown_target = refl;
      session_out_of_range = refl;
      value_out_of_range = refl;
      no_end_line = refl;
    }
