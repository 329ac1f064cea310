-- What a read, a change and a table write leave, and what they cost.
use Rattle.std.specs.Prelude.{◌≡◌, ℕ, ◌+◌, ◌≤◌, ◌==◌, Bool, true, List, map, Option, Some, None, Result, Ok, Err, if◌then◌else◌}
use Rattle.pb_names.specs.declared.bits.TheConstants as bits
use Rattle.pb_words.specs.declared.Refusal.{Refusal}
use Rattle.pb_fields.specs.declared.Slot.{Slot}
use Rattle.pb_fields.specs.declared.Role.TheVariants as roles
use Rattle.pb_fields.specs.Slots.{IsSlot, role_at}
use Rattle.pb_model.specs.declared.Change.{Change}
use Rattle.pb_model.specs.declared.Change.TheVariants as changes
use Rattle.pb_model.specs.Machines.{Name, machines, of_name}
use Rattle.pb_model.specs.Settings.{block_of_slot, changed, changed_box}
use Rattle.pb_model.specs.Arming.{capture, is_capture_idle, idle_by}
use Rattle.pb_model.specs.Tables.{box_with_table, table_left, sequencer}
use Rattle.pb_still.specs.Eventful.{Moment}
use Rattle.pb_lazy.specs.Lazy.{opening_lazy, saw}
use Rattle.pb_going.specs.Sims.{Going, now_of, outdated}

-- the moment after a change, which is an event that stands at it
abbrev pub changed_moment : Moment → Change → Moment
changed_moment moment change = record moment { box = changed_box moment.box change; stood = true }

-- the moment after a table write that leaves these words, or is refused and changes nothing
abbrev pub written_moment : Moment → ℕ → Result (List ℕ) Refusal → Moment
written_moment moment number (Ok words) = record moment { box = box_with_table moment.box number words; stood = true }
written_moment moment number (Err refusal) = moment

-- the tick at which the block of this name stands
abbrev pub own_of : Going → Name → ℕ
own_of g name = (of_name machines name g.lazies (opening_lazy name.kind)).own

-- the block that a change concerns: BITS is none of them
abbrev pub concerned : Change → Option Name
concerned (changes.Set slot raw) = if slot.block == bits.BLOCK then None else Some (block_of_slot slot)
concerned (changes.Arm room) = Some capture
concerned changes.Disarm = Some capture

-- What it costs: at most one call, of the block that is concerned, and none where that block stands at now already, as it does
-- afterwards; at most one deadline more is outdated.
abbrev pub Costs : Option Name → Going → Going → ℕ → ℕ → Type 0
Costs None old new was spent = (spent ≡ was) × (outdated new ≡ outdated old)
Costs (Some name) old new was spent =
    (spent ≤ was + 1) × (own_of old name ≡ old.tick → spent ≡ was) × (own_of new name ≡ new.tick) × (outdated new ≤ outdated old + 1)

-- What a change leaves: what stands is as the change makes it, an event stands at the tick, and the blocks saw what they saw.
pub record IsLeft (change : Change) (old new : Going) (was spent : ℕ) : Type 0 where
  pub now : now_of new ≡ changed (now_of old) change
  pub rows : new.rows ≡ old.rows
  pub tick : new.tick ≡ old.tick
  pub first : new.first ≡ old.first
  pub stood : new.stood ≡ true
  pub before : map (saw old.first) new.lazies ≡ map (saw old.first) old.lazies
  pub idle : is_capture_idle (now_of new).blocks ≡ idle_by change (is_capture_idle (now_of old).blocks)
  pub costs : Costs (concerned change) old new was spent

-- And what a table write leaves, which leaves these words or is refused: only an accepted one is an event.
abbrev pub stood_after : Result (List ℕ) Refusal → Bool → Bool
stood_after (Ok words) stood = true
stood_after (Err refusal) stood = stood

pub record IsWritten (number : ℕ) (left : Result (List ℕ) Refusal) (old new : Going) (was spent : ℕ) : Type 0 where
  pub now : now_of new ≡ table_left (now_of old) number left
  pub rows : new.rows ≡ old.rows
  pub tick : new.tick ≡ old.tick
  pub first : new.first ≡ old.first
  pub stood : new.stood ≡ stood_after left old.stood
  pub before : map (saw old.first) new.lazies ≡ map (saw old.first) old.lazies
  pub idle : is_capture_idle (now_of new).blocks ≡ is_capture_idle (now_of old).blocks
  pub costs : Costs (Some (sequencer number)) old new was spent

-- Blocks were brought to the tick: what stands is as it was, the blocks saw what they saw, and none leaves the tick.
pub record IsBrought (old new : Going) : Type 0 where
  pub now : now_of new ≡ now_of old
  pub rows : new.rows ≡ old.rows
  pub first : new.first ≡ old.first
  pub stood : new.stood ≡ old.stood
  pub before : map (saw old.first) new.lazies ≡ map (saw old.first) old.lazies
  pub known : outdated new ≡ outdated old
  pub stays : (name : Name) → own_of old name ≡ old.tick → own_of new name ≡ new.tick

-- and this block among them
pub record IsPeeked (name : Name) (old new : Going) (was spent : ℕ) : Type 0 where
  pub brought : IsBrought old new
  pub costs : Costs (Some name) old new was spent

-- each block with read fields stands at the tick
pub record AreAwake (g : Going) : Type 0 where
  pub own : (slot : Slot) → IsSlot slot → role_at slot ≡ roles.Read → own_of g (block_of_slot slot) ≡ g.tick
