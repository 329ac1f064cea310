-- Eventful ticks of a script, one after the other, and the limit at which it ends.
use Rattle.std.specs.Prelude.{◌≡◌, ℕ, ◌+◌, ◌-◌, ◌<◌, ◌≤◌, List, [], ◌∷◌, ◌++◌}
use Rattle.pb_still.specs.Eventful.{IsEventful, Run}
use Rattle.pb_core.specs.declared.Event.{Event}
use Rattle.pb_core.specs.declared.Event.TheVariants as events
use Rattle.pb_core.specs.Answer.{CoreState, moment_of, advanced, after, after_all}
use Rattle.pb_replay.specs.Events.{going_to}

-- how many ticks an event makes: an advance all up to its target, and another event none
abbrev pub ticks_of : CoreState → Event → ℕ
ticks_of core (events.Advance to most) = to - core.box.stands.tick
ticks_of core event = 0

-- Of the ticks that these events make, one after the other, exactly so many are eventful, and at these there are so many pairs of a
-- tick and a block that is busy at it.
abbrev pub Counted : CoreState → List Event → ℕ → ℕ → Type 0
Counted core [] eventful busy = (eventful ≡ 0) × (busy ≡ 0)
Counted core (event ∷ more) eventful busy =
    (here : ℕ) × (work : ℕ) × (later : ℕ) × (rest : ℕ)
    × Run (ticks_of core event) (moment_of core) here work × Counted (after core event) more later rest
    × (eventful ≡ here + later) × (busy ≡ work + rest)

-- The eventful tick of this number isn't made any more: there the script ends.
abbrev pub limit : ℕ
limit = 10000000

-- This tick is the limit of these events: an advance behind this front of them would make it, it is eventful, and the ticks before
-- it have one eventful tick less than the limit.
pub record IsLimit (core : CoreState) (happening front : List Event) (tick : ℕ) : Type 0 where
  pub to : ℕ
  pub rest : List Event
  pub split : happening ≡ front ++ going_to to ∷ rest
  pub early : ℕ
  pub work : ℕ
  pub counted : Counted core front early work
  pub from_there : (after_all core front).box.stands.tick ≤ tick
  pub below : tick < to
  pub late : ℕ
  pub more : ℕ
  pub run : Run (tick - (after_all core front).box.stands.tick) (moment_of (after_all core front)) late more
  pub eventful : IsEventful (moment_of (advanced (after_all core front) tick))
  pub last : early + late + 1 ≡ limit

-- the ticks of these events have no limit
abbrev pub HasNoLimit : CoreState → List Event → Type 0
HasNoLimit core happening = (eventful : ℕ) × (busy : ℕ) × Counted core happening eventful busy × (eventful < limit)

-- how many ticks the first of these events makes, if there is one
abbrev pub ticks_ahead : CoreState → List Event → ℕ
ticks_ahead core [] = 0
ticks_ahead core (event ∷ more) = ticks_of core event

-- Of these events a front happened, and the next one made some ticks, perhaps not all of its own. Of the ticks up to there so many
-- are eventful, and at these there are so many pairs of a tick and a block that is busy at it.
pub record IsCountedPart (core : CoreState) (happening : List Event) (eventful busy : ℕ) : Type 0 where
  pub front : List Event
  pub rest : List Event
  pub split : happening ≡ front ++ rest
  pub early : ℕ
  pub work : ℕ
  pub counted : Counted core front early work
  pub ticks : ℕ
  pub within : ticks ≤ ticks_ahead (after_all core front) rest
  pub late : ℕ
  pub more : ℕ
  pub run : Run ticks (moment_of (after_all core front)) late more
  pub all_eventful : eventful ≡ early + late
  pub all_busy : busy ≡ work + more
