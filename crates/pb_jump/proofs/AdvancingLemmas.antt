-- An advance, branch by branch of its loop.
use Rattle.std.proofs.Common.{◌≡◌, ℕ, ◌+◌, Bool, true, false, List, [], ◌∷◌, map, refl, sym, ap, subst, ◌∙◌, Option, Some}
use Rattle.std.specs.List.{AllByRecursion}
use Rattle.pb_buses.specs.declared.Bus.{Bus}
use Rattle.pb_buses.specs.declared.Emit.{Emit}
use Rattle.pb_buses.specs.declared.Emit.TheVariants as emits
use Rattle.pb_buses.specs.declared.Condition.{Condition}
use Rattle.pb_pcap.specs.Records.{Held}
use Rattle.pb_model.specs.Tick.{emitted_by, handed_on}
use Rattle.pb_model.specs.Arming.{idle_after}
use Rattle.pb_still.specs.Eventful.{Moment, IsIdle, IsEventful, IsStill}
use Rattle.pb_lazy.specs.declared.Lazy.{Lazy}
use Rattle.pb_lazy.specs.Lazy.{caught_up, saw}
use Rattle.pb_going.specs.Sims.{Going, Agrees}
use Rattle.pb_going.specs.Moving.{StepsTo}
use Rattle.pb_going.specs.Advanced.{something, idle_at_end}
use Rattle.pb_going.specs.Coming.{Comes}
use Rattle.pb_going.proofs.AdvanceLemmas.{comes_eventful, comes_still}
use Rattle.pb_jump.specs.Taking.{IsSame, IsTaken, Captures}

-- Blocks that are idle emit nothing.
pub idle_emit_nothing : (bus : Bus) (tick : ℕ) (lazies : List Lazy) →
    AllByRecursion (λ (lazy : Lazy). IsIdle bus tick (saw false lazy) (caught_up tick lazy)) lazies →
    handed_on emits.Nothing (map (emitted_by bus tick) (map (caught_up tick) lazies)) ≡ emits.Nothing
idle_emit_nothing bus tick [] h = refl
idle_emit_nothing bus tick (lazy ∷ lazies) h = rw h.0.calm.quiet (idle_emit_nothing bus tick lazies h.1)

-- Where PCAP is idle.

pub stays_idle : (emit : Emit) (idle : Bool) → emit ≡ emits.Nothing → idle_after emit idle ≡ idle
stays_idle emit idle e = ap (λ (x : Emit). idle_after x idle) e

module _ (start : Moment) (g new : Going) (count was spent spent' : ℕ) (c : Comes start g count [] was spent) (emit : Emit) (none : emit ≡ emits.Nothing)
    (steps : (moment : Moment) → Agrees g moment → StepsTo moment new emit spent spent') (at : new.tick ≡ g.tick + 1) where
  pub goes_eventful : ((moment : Moment) → Agrees g moment → IsEventful moment) → Comes start new (count + 1) [] was spent'
  goes_eventful eventful =
      subst (λ (l : List Emit). Comes start new (count + 1) l was spent') (ap something none)
      (comes_eventful start g new count [] was spent c emit spent' steps eventful at)

  pub goes_still : ((moment : Moment) → Agrees g moment → IsStill moment) → Comes start new count [] was spent'
  goes_still still =
      subst (λ (l : List Emit). Comes start new count l was spent') (ap something none)
      (comes_still start g new count [] was spent c emit spent' steps still at)

-- Where it captures.

pub captures_same : (start : Moment) (g : Going) (count : ℕ) (completed : Option Condition) (old now next : Held) (was spent : ℕ) →
    Captures start g count completed old now was spent → IsSame now next → Captures start g count completed old next was spent
captures_same start g count completed old now next was spent c same =
    record {
      rows = c.rows;
      comes = c.comes;
      layout = same.layout ∙ c.layout;
      bytes = same.bytes ∙ c.bytes;
      count = same.count ∙ c.count;
    }

-- PCAP is idle after what it emitted exactly where its acquisition ended
pub taken_idle : (emit : Emit) (completed result : Option Condition) (old new : Held) → IsTaken emit completed result old new →
    idle_after emit (idle_at_end completed false) ≡ idle_at_end result false
taken_idle emits.Nothing completed result old new taken = ap (λ (o : Option Condition). idle_at_end o false) (sym taken.0)
taken_idle (emits.Record row) completed result old new taken = ap (λ (o : Option Condition). idle_at_end o false) (sym taken.0)
taken_idle (emits.Completed condition) completed result old new taken = sym (ap (λ (o : Option Condition). idle_at_end o false) taken.0)

-- and once it has ended nothing more comes
pub over_now : (idle : Bool) (completed : Option Condition) (emit : Emit) → idle ≡ idle_at_end completed false → (idle ≡ true → emit ≡ emits.Nothing) →
    (condition : Condition) → completed ≡ Some condition → emit ≡ emits.Nothing
over_now idle completed emit is quiet condition e = quiet (is ∙ ap (λ (o : Option Condition). idle_at_end o false) e)
