-- What an advance comes to.
use Rattle.std.specs.Prelude.{◌≡◌, ℕ, zero, suc, ◌+◌, ◌*◌, ◌<◌, ◌≤◌, ◌⊎◌, Bool, true, false, List, [], ◌∷◌, ◌++◌, length, map, Option, Some, None}
use Rattle.std.specs.Borrow.{MutBor}
use Rattle.std.proofs.Common.{inl, inr}
use Rattle.pb_pcap.specs.Records.{Held, records_bytes}
use Rattle.pb_buses.specs.declared.Emit.{Emit}
use Rattle.pb_buses.specs.declared.Emit.TheVariants as emits
use Rattle.pb_buses.specs.declared.Condition.{Condition}
use Rattle.pb_buses.specs.declared.Record.{Record}
use Rattle.pb_buses.specs.Rules.{is_record}
use Rattle.pb_model.specs.Tick.{emitted_of}
use Rattle.pb_still.specs.Eventful.{Moment, moment_after, next_moment, IsEventful, Run}
use Rattle.pb_going.specs.declared.advanced.Why.{Why}
use Rattle.pb_going.specs.declared.advanced.Why.TheVariants as whys
use Rattle.pb_going.specs.declared.advanced.Advanced.{Advanced}
use Rattle.pb_going.specs.Sims.{Going, Agrees}

-- what so many ticks hand out one after the other, without those that hand out nothing
abbrev pub something : Emit → List Emit
something emits.Nothing = []
something (emits.Record row) = emits.Record row ∷ []
something (emits.Completed condition) = emits.Completed condition ∷ []

abbrev pub handed_out : ℕ → Moment → List Emit
handed_out zero moment = []
handed_out (suc n) moment = something (emitted_of moment.box.stands) ++ handed_out n (next_moment moment)

-- a completion, if there is one
abbrev pub completion : Option Condition → List Emit
completion None = []
completion (Some condition) = emits.Completed condition ∷ []

-- Why it ends where it does, so many eventful ticks having been made: the target is reached; or it made as many as were
-- asked for, and the next tick is eventful too; or it lacks memory for the record that the next tick emits, which it
-- would have made.
abbrev pub EndsBy : Why → Moment → ℕ → ℕ → ℕ → Type 0
EndsBy whys.Target moment to most eventful = moment.box.stands.tick ≡ to
EndsBy whys.Events moment to most eventful =
    (moment.box.stands.tick < to) × (eventful ≡ most) × IsEventful moment
EndsBy whys.Memory moment to most eventful =
    (moment.box.stands.tick < to) × (eventful < most) × (is_record (emitted_of moment.box.stands) ≡ true)

-- What an advance from a moment came to: after so many ticks, of which so many were eventful, it stands at the moment after them,
-- and it made at most three calls for each block that was busy at one of these ticks, and one for each deadline that was outdated.
pub record IsAdvanced (moment : Moment) (to most : ℕ) (told : Advanced) (new : Going) (was spent outdated : ℕ) : Type 0 where
  pub ticks : ℕ
  pub eventful : ℕ
  pub busy : ℕ
  pub reached : told.reached ≡ moment.box.stands.tick + ticks
  pub within : told.reached ≤ to
  pub run : Run ticks moment eventful busy
  pub few : eventful ≤ most
  pub ends : EndsBy told.why (moment_after ticks moment) to most eventful
  pub agrees : Agrees new (moment_after ticks moment)
  pub calls : spent ≤ was + 3 * busy + outdated

-- PCAP is idle at the end of an advance exactly where it was, or where its acquisition ended
abbrev pub idle_at_end : Option Condition → Bool → Bool
idle_at_end None idle = idle
idle_at_end (Some condition) idle = true

-- so many ticks captured nothing and completed nothing
abbrev pub IsCaptured : Moment → ℕ → Option Condition → Type 0
IsCaptured moment ticks completed = (handed_out ticks moment ≡ []) × (completed ≡ None)

-- records are given exactly where PCAP is armed or running
abbrev pub AreGiven : Option (MutBor Held) → Bool → Type 0
AreGiven None idle = idle ≡ true
AreGiven (Some records) idle = idle ≡ false

-- So many ticks captured these records, which were pushed one after the other, and this completion came behind them.
pub record ArePushed (moment : Moment) (ticks : ℕ) (completed : Option Condition) (old new : Held) : Type 0 where
  pub rows : List Record
  pub handed : handed_out ticks moment ≡ map (λ (row : Record). emits.Record row) rows ++ completion completed
  pub layout : new.layout ≡ old.layout
  pub bytes : new.bytes ≡ old.bytes ++ records_bytes old.layout rows
  pub count : new.count ≡ old.count + length rows

-- and where no records were given, nothing was captured and nothing completed
abbrev pub AreLeft : Moment → ℕ → Option Condition → Option (MutBor Held) → Unit {0} ⊎ ((MutBor Held × Unit {0}) ⊎ ⊥) → Type 0
AreLeft moment ticks completed None exit = IsCaptured moment ticks completed
AreLeft moment ticks completed (Some records) (inr (inl left)) = ArePushed moment ticks completed records.now left.0.now
AreLeft moment ticks completed (Some records) _ = ⊥
