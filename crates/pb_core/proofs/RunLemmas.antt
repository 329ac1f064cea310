-- The run of a core: the moments of its ticks, what PCAP hands out at them, and an event that stands at one.
use Rattle.std.proofs.Common.{◌≡◌, ℕ, zero, suc, ◌+◌, ◌≤◌, true, List, [], ◌∷◌, ◌++◌, Option, Some, None, refl, ◌∙◌, arith}
use Rattle.pb_buses.specs.declared.Emit.{Emit}
use Rattle.pb_buses.specs.declared.Emit.TheVariants as emits
use Rattle.pb_buses.specs.declared.Condition.{Condition}
use Rattle.pb_acquire.specs.Acquisitions.{AllAcquisitions}
use Rattle.pb_model.specs.Tick.{emitted_of}
use Rattle.pb_still.specs.Eventful.{Moment, moment_after, next_moment}
use Rattle.pb_model.specs.Machines.{Name}
use Rattle.pb_going.specs.Sims.{Going, touched, outdated}
use Rattle.pb_jump.specs.Changing.{Costs}
use Rattle.pb_going.specs.Sims as sims
use Rattle.pb_going.specs.Advanced.{something, handed_out, completion}
use Rattle.pb_core.specs.Tick.{taken}
use Rattle.pb_core.specs.Core.{CoreState, moment_of, ticked, ticks_of_core}
use Rattle.pb_core.specs.Kept.{KeptCore, Agrees, Stands}
use Rattle.pb_core.specs.Taking.{all_taken, ended_by}

-- Once an event stands at now.

-- the moment with the mark
abbrev pub stood_at : Moment → Moment
stood_at moment = record moment { stood = true }

pub touched_run : (g : Going) (moment : Moment) → sims.Agrees g moment → sims.Agrees (touched g) (stood_at moment)
touched_run g moment h =
    record {
      rows = h.rows;
      box = h.box;
      before = h.before;
      stood = refl;
      driven = h.driven;
      shown = λ later untouched. absurd (cc);
    }

pub stands_same : (kept : KeptCore) (core : CoreState) → Agrees kept core → Stands kept core
stands_same kept core h =
    record {
      settings = h.settings;
      assigned = h.assigned;
      run = touched_run kept.sim (moment_of core) h.run;
      sessions = h.sessions;
      acquisitions = h.acquisitions;
    }

-- the same core, some of whose blocks were brought to now
pub woken : (kept : KeptCore) (g : Going) (core : CoreState) → ((moment : Moment) → sims.Agrees kept.sim moment → sims.Agrees g moment) →
    Agrees kept core → Agrees (record kept { sim = g }) core
woken kept g core same h =
    record {
      settings = h.settings;
      assigned = h.assigned;
      run = same (moment_of core) h.run;
      sessions = h.sessions;
      acquisitions = h.acquisitions;
    }

-- what a change or a table write costs

pub one_outdated : (concerned : Option Name) (old new : Going) (was spent : ℕ) → Costs concerned old new was spent → outdated new ≤ outdated old + 1
one_outdated None old new was spent h = let same : outdated new ≡ outdated old = h.1 in omega (arith, same)
one_outdated (Some name) old new was spent h = h.3

pub one_call : (concerned : Option Name) (old new : Going) (was spent : ℕ) → Costs concerned old new was spent → spent ≤ was + 1
one_call None old new was spent h = omega (arith, h.0)
one_call (Some name) old new was spent h = h.0

-- Many ticks.

-- the moment after them
pub moment_then : (n : ℕ) (core : CoreState) → moment_of (ticks_of_core n core) ≡ moment_after n (moment_of core)
moment_then zero core = refl
moment_then (suc n) core = moment_then n (ticked core)

-- the tick after them
pub ticks_on : (n : ℕ) (core : CoreState) → (ticks_of_core n core).box.stands.tick ≡ core.box.stands.tick + n
ticks_on zero core = omega arith
ticks_on (suc n) core = omega (arith, ticks_on n (ticked core))

-- What no tick changes.
pub record Lasts (core later : CoreState) : Type 0 where
  pub settings : later.settings ≡ core.settings
  pub assigned : later.assigned ≡ core.assigned
  pub sessions : later.sessions ≡ core.sessions

pub ticks_last : (n : ℕ) (core : CoreState) → Lasts core (ticks_of_core n core)
ticks_last zero core = record { settings = refl; assigned = refl; sessions = refl }
ticks_last (suc n) core =
    let rest = ticks_last n (ticked core) in
    record { settings = rest.settings; assigned = rest.assigned; sessions = rest.sessions }

-- What is handed out is taken.

something_taken : (emit : Emit) (rest : List Emit) (all : AllAcquisitions) → all_taken rest (taken emit all) ≡ all_taken (something emit ++ rest) all
something_taken emits.Nothing rest all = refl
something_taken (emits.Record row) rest all = refl
something_taken (emits.Completed condition) rest all = refl

pub taken_then : (n : ℕ) (core : CoreState) →
    (ticks_of_core n core).acquisitions ≡ all_taken (handed_out n (moment_of core)) core.acquisitions
taken_then zero core = refl
taken_then (suc n) core =
    taken_then n (ticked core)
    ∙ something_taken (emitted_of core.box.stands) (handed_out n (next_moment (moment_of core))) core.acquisitions

-- in two parts
pub taken_parts : (front rest : List Emit) (all : AllAcquisitions) → all_taken (front ++ rest) all ≡ all_taken rest (all_taken front all)
taken_parts [] rest all = refl
taken_parts (emit ∷ front) rest all = taken_parts front rest (taken emit all)

pub completion_taken : (completed : Option Condition) (all : AllAcquisitions) → all_taken (completion completed) all ≡ ended_by completed all
completion_taken None all = refl
completion_taken (Some condition) all = refl
