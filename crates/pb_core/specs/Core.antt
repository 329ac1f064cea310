-- The core: the rows of its stimulus, the settings, what was assigned, the box, the control sessions and the acquisitions
-- with their readers.
use Rattle.std.specs.Prelude.{ℕ, zero, suc, Bool, true, false, List, [], Option}
use Rattle.pb_fields.specs.declared.Slot.{Slot}
use Rattle.pb_buses.specs.declared.Inputs.{Inputs}
use Rattle.pb_stim.specs.declared.Row.{Row}
use Rattle.pb_config.specs.Settings.{Settings}
use Rattle.pb_config.specs.Defaults.{fresh}
use Rattle.pb_model.specs.Tick.{Box, opening_box}
use Rattle.pb_acquire.specs.Acquisitions.{AllAcquisitions}
use Rattle.pb_acquire.specs.Acquisitions as acquire
use Rattle.pb_changes.specs.Report.{Reported}
use Rattle.pb_still.specs.Eventful.{Moment, seen_in}
use Rattle.pb_still.specs.Eventful as still
use Rattle.pb_core.specs.Sessions.{none_open}
use Rattle.pb_core.specs.Tick.{stimulated, tick, taken}
use Rattle.pb_model.specs.Tick.{emitted_of}

pub record CoreState : Type 0 where
  pub rows : List Row
  pub settings : Settings
  -- the accepted assignments, each by its slot, the latest first
  pub assigned : List Slot
  pub box : Box
  -- for each of the ids 1 to 8 what was last reported to its control session, if it is open
  pub sessions : List (Option Reported)
  pub acquisitions : AllAcquisitions
  -- what each block saw at the tick before now, which is nothing at the first tick of the run
  pub before : List (Option Inputs)
  -- the mark that an event stood at now: one other than an advance
  pub stood : Bool

-- the core as it opens
abbrev pub opening : List Row → CoreState
opening rows =
    record {
      rows = rows;
      settings = fresh;
      assigned = [];
      box = stimulated rows opening_box;
      sessions = none_open;
      acquisitions = acquire.opening;
      before = (still.opening rows).before;
      stood = false;
    }

-- the moment of its run: what makes the next tick eventful
abbrev pub moment_of : CoreState → Moment
moment_of core = record { rows = core.rows; box = core.box; before = core.before; stood = core.stood }

-- an event stood at now
abbrev pub marked : CoreState → CoreState
marked core = record core { stood = true }

-- the core with other control sessions
abbrev pub with_sessions : CoreState → List (Option Reported) → CoreState
with_sessions core sessions = record core { sessions = sessions }

-- the core with other acquisitions or readers
abbrev pub with_acquisitions : CoreState → AllAcquisitions → CoreState
with_acquisitions core all = record core { acquisitions = all }

-- One tick of the core: the box makes it, and the acquisition that is armed or running takes what PCAP hands out. No
-- event stands at the next tick yet.
abbrev pub ticked : CoreState → CoreState
ticked core =
    record core {
      box = tick core.rows core.box;
      acquisitions = taken (emitted_of core.box.stands) core.acquisitions;
      before = seen_in core.box.stands;
      stood = false;
    }

-- so many ticks
abbrev pub ticks_of_core : ℕ → CoreState → CoreState
ticks_of_core zero core = core
ticks_of_core (suc n) core = ticks_of_core n (ticked core)
