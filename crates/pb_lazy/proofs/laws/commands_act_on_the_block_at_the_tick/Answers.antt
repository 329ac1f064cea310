use Rattle.pb_model.specs.Units.{armed, disarmed, with_words}
use Rattle.pb_lazy.proofs.CommandLemmas.{awake_stands, awake_sound, set_stands, set_sound, unit_stands, unit_sound, armed_kind, disarmed_kind, words_kind}
use Rattle.pb_lazy.proofs.laws.commands_act_on_the_block_at_the_tick.Goals as goal

pub returns : goal.returns
returns c =
    record {
      awake = awake_stands;
      awake_sound = awake_sound;
      set = set_stands;
      set_sound = set_sound;
      arm = λ room tick lazy. unit_stands (armed room) tick lazy;
      arm_sound = λ room tick first lazy sound. unit_sound (armed room) tick first lazy (armed_kind room) sound;
      disarm = λ tick lazy. unit_stands disarmed tick lazy;
      disarm_sound = λ tick first lazy sound. unit_sound disarmed tick first lazy disarmed_kind sound;
      write = λ words tick lazy. unit_stands (with_words words) tick lazy;
      write_sound = λ words tick first lazy sound. unit_sound (with_words words) tick first lazy (words_kind words) sound;
    }
