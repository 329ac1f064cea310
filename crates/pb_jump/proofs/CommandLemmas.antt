-- What commands leave of one lazy block.
use Rattle.std.proofs.Common.{◌≡◌, ℕ, Bool, List, refl, Result, Ok, Err}
use Rattle.pb_words.specs.declared.Refusal.{Refusal}
use Rattle.pb_fields.specs.declared.Slot.{Slot}
use Rattle.pb_model.specs.declared.Block.{Block}
use Rattle.pb_model.specs.Units.{armed, disarmed, with_words}
use Rattle.pb_model.specs.Arming.{with_unit}
use Rattle.pb_model.specs.Settings.{with_value}
use Rattle.pb_model.specs.Tables.{block_left}
use Rattle.pb_lazy.specs.declared.Lazy.{Lazy}
use Rattle.pb_lazy.specs.Lazy.{caught_up, awake, IsSound}
use Rattle.pb_lazy.specs.Commands.{set_lazy, armed_lazy, disarmed_lazy, written_lazy}
use Rattle.pb_lazy.proofs.CommandLemmas.{awake_stands, awake_sound, unit_stands, unit_sound, set_stands, set_sound, armed_kind, disarmed_kind, words_kind}

-- A lazy block after a command: it stands at the tick, for the block that the command leaves, saw the same, and is sound.
pub record IsLeftBy (f : Block → Block) (tick : ℕ) (first : Bool) (old new : Lazy) : Type 0 where
  pub now : caught_up tick new ≡ f (caught_up tick old)
  pub kept : new.kept ≡ old.kept
  pub own : new.own ≡ tick
  pub sound : IsSound tick first new

pub awake_left : (tick : ℕ) (first : Bool) (lazy : Lazy) → IsSound tick first lazy → IsLeftBy (λ block. block) tick first lazy (awake tick lazy)
awake_left tick first lazy sound =
    record { now = awake_stands tick lazy; kept = refl; own = refl; sound = awake_sound tick first lazy sound }

pub set_left : (slot : Slot) (raw tick : ℕ) (first : Bool) (lazy : Lazy) → IsSound tick first lazy →
    IsLeftBy (with_value slot raw) tick first lazy (set_lazy slot raw tick lazy)
set_left slot raw tick first lazy sound =
    record { now = set_stands slot raw tick lazy; kept = refl; own = refl; sound = set_sound slot raw tick first lazy sound }

pub armed_left : (room tick : ℕ) (first : Bool) (lazy : Lazy) → IsSound tick first lazy →
    IsLeftBy (with_unit (armed room)) tick first lazy (armed_lazy room tick lazy)
armed_left room tick first lazy sound =
    record {
      now = unit_stands (armed room) tick lazy;
      kept = refl;
      own = refl;
      sound = unit_sound (armed room) tick first lazy (armed_kind room) sound;
    }

pub disarmed_left : (tick : ℕ) (first : Bool) (lazy : Lazy) → IsSound tick first lazy →
    IsLeftBy (with_unit disarmed) tick first lazy (disarmed_lazy tick lazy)
disarmed_left tick first lazy sound =
    record {
      now = unit_stands disarmed tick lazy;
      kept = refl;
      own = refl;
      sound = unit_sound disarmed tick first lazy disarmed_kind sound;
    }

pub written_left : (tick : ℕ) (first : Bool) (lazy : Lazy) (left : Result (List ℕ) Refusal) → IsSound tick first lazy →
    IsLeftBy (λ block. block_left block left) tick first lazy (written_lazy tick left lazy)
written_left tick first lazy (Ok words) sound =
    record {
      now = unit_stands (with_words words) tick lazy;
      kept = refl;
      own = refl;
      sound = unit_sound (with_words words) tick first lazy (words_kind words) sound;
    }
written_left tick first lazy (Err refusal) sound =
    record { now = awake_stands tick lazy; kept = refl; own = refl; sound = awake_sound tick first lazy sound }
