use Rattle.pb_model.proofs.StandLemmas.{has_it, still_has, has_after, has_put, has_written, has_armed, has_disarmed, has_first}
use Rattle.pb_model.proofs.laws.what_is_set_stays.Goals as goal

pub returns : goal.returns
returns c =
    record {
      set = has_it;
      others = λ box t u x y w s taken k ne h. still_has box t u x y w s taken k ne h;
      tables = λ box u y number words w k h. has_written box u y h w number words;
      arming = λ box u y room w k h. has_armed box u y h w room;
      disarming = λ box u y w k h. has_disarmed box u y h w;
      ticks = λ box u y w k h. has_after box u y h k w;
      puts = λ box u y bus h. has_put box u y h bus;
      opening = has_first;
    }
