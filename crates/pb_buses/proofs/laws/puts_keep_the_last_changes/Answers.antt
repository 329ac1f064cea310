use Rattle.std.proofs.Common.{add-one, length}
use Rattle.pb_buses.proofs.ChangeLemmas.{opening_agrees, tick_agrees, ticks_agree, same_bit, same_position, bit_agrees, position_agrees, unchanged_at}
use Rattle.pb_buses.proofs.laws.puts_keep_the_last_changes.Goals as goal

pub returns : goal.returns
returns c =
    record {
      opening = opening_agrees;
      tick = tick_agrees;
      ticks = ticks_agree;
      same_bit = same_bit;
      same_position = same_position;
      bit = bit_agrees;
      position = position_agrees;
      unchanged =
          λ buses before past entry h small e. rw (add-one (length past)) (unchanged_at buses before past entry h small e);
    }
