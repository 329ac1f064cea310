-- What an advance is answered and leaves.
use Rattle.std.proofs.Common.{◌≡◌, ℕ, ◌+◌, ◌-◌, max, List, [], ◌∷◌, ◌++◌, length, Option, Some, refl, sym, ap, subst, ◌∙◌, arith, append_assoc, append-nil}
use Rattle.pb_buses.specs.declared.Condition.{Condition}
use Rattle.pb_buses.specs.declared.Record.{Record}
use Rattle.pb_pcap.specs.Records.{Held, record_bytes, records_bytes}
use Rattle.pb_acquire.specs.Acquisitions.{AllAcquisitions, recorded}
use Rattle.pb_acquire.specs.Kept.{with_records}
use Rattle.pb_acquire.specs.Kept as acquire
use Rattle.pb_acquire.proofs.KeptLemmas.{recorded_agrees, reserved_agrees}
use Rattle.pb_still.specs.Eventful.{Moment, moment_after, Run}
use Rattle.pb_going.specs.Sims.{Going, outdated}
use Rattle.pb_going.specs.Sims as sims
use Rattle.pb_going.specs.declared.Advanced.{Advanced}
use Rattle.pb_going.specs.Advanced.{EndsBy, IsAdvanced, IsCaptured, ArePushed, completion}
use Rattle.pb_core.specs.Core.{CoreState, moment_of}
use Rattle.pb_core.specs.Kept.{KeptCore, Agrees}
use Rattle.pb_core.specs.Taking.{all_taken, records_of, ended_by, IsTaken}
use Rattle.pb_core.specs.Costs.{AdvanceCosts}
use Rattle.pb_core.specs.Answer.{advanced, Reaches}
use Rattle.pb_core.proofs.RunLemmas.{moment_then}
use Rattle.pb_core.proofs.CoreLemmas.{tick_is, advanced_agrees}

-- Records that were pushed one after the other are those of the acquisition.

pushed : (rows : List Record) (kept : acquire.Kept) (held new : Held) (all : AllAcquisitions) → acquire.Agrees kept all → kept.running ≡ Some held →
    new.layout ≡ held.layout → new.bytes ≡ held.bytes ++ records_bytes held.layout rows → new.count ≡ held.count + length rows →
    acquire.Agrees (with_records kept new) (all_taken (records_of rows) all)
pushed [] kept held new all h e layout bytes count =
    reserved_agrees kept held new all h e layout (bytes ∙ append-nil held.bytes) (omega (arith, count))
pushed (row ∷ rows) kept held new all h e layout bytes count =
    let more : Held = record { layout = held.layout; bytes = held.bytes ++ record_bytes held.layout row; count = held.count + 1; spare = held.spare } in
    pushed rows (with_records kept more) more new (recorded row all) (recorded_agrees kept held more all row h e refl refl refl) refl layout
    (bytes ∙ sym (append_assoc held.bytes (record_bytes held.layout row) (records_bytes held.layout rows)))
    (omega (arith, count))

pub pushed_taken : (kept : acquire.Kept) (held new : Held) (all : AllAcquisitions) (moment : Moment) (ticks : ℕ) (completed : Option Condition) →
    acquire.Agrees kept all → kept.running ≡ Some held → ArePushed moment ticks completed held new →
    IsTaken moment ticks completed all (with_records kept new)
pushed_taken kept held new all moment ticks completed h e p =
    record { rows = p.rows; handed = p.handed; agrees = pushed p.rows kept held new all h e p.layout p.bytes p.count }

pub none_taken : (kept : acquire.Kept) (all : AllAcquisitions) (moment : Moment) (ticks : ℕ) (completed : Option Condition) →
    acquire.Agrees kept all → IsCaptured moment ticks completed → IsTaken moment ticks completed all kept
none_taken kept all moment ticks completed h none =
    record { rows = []; handed = none.0 ∙ sym (ap completion none.1); agrees = h }

-- Where it ends.

ticks_made : (core : CoreState) (reached ticks : ℕ) → reached ≡ core.box.stands.tick + ticks → reached - core.box.stands.tick ≡ ticks
ticks_made core reached ticks e = omega (arith, e)

pub reaches : (core : CoreState) (to target most : ℕ) (told : Advanced) (new : Going) (was spent due : ℕ) → target ≡ max core.box.stands.tick to →
    IsAdvanced (moment_of core) target most told new was spent due → Reaches core (max core.box.stands.tick to) most told.reached told.why
reaches core to target most told new was spent due e a =
    let n : told.reached - core.box.stands.tick ≡ a.ticks = ticks_made core told.reached a.ticks a.reached in
    record {
      from_now = omega (arith, a.reached);
      within = omega (arith, a.within, e);
      eventful = a.eventful;
      busy = a.busy;
      run = subst (λ k. Run k (moment_of core) a.eventful a.busy) (sym n) a.run;
      few = a.few;
      ends =
          subst (λ t. EndsBy told.why (moment_of (advanced core told.reached)) t most a.eventful) e
          (subst (λ m. EndsBy told.why m target most a.eventful)
          (sym (moment_then (told.reached - core.box.stands.tick) core ∙ ap (λ k. moment_after k (moment_of core)) n)) a.ends);
    }

-- what it leaves
pub reached_agrees : (kept next : KeptCore) (core : CoreState) (target most : ℕ) (told : Advanced) (was spent due : ℕ) (acquired : acquire.Kept) →
    next.config ≡ kept.config → next.sessions ≡ kept.sessions → told.reached ≡ next.sim.tick →
    IsAdvanced (moment_of core) target most told next.sim was spent due →
    IsTaken (moment_of core) (next.sim.tick - kept.sim.tick) told.completed core.acquisitions acquired →
    ((all : AllAcquisitions) → acquire.Agrees acquired all → acquire.Agrees next.acquisitions (ended_by told.completed all)) →
    Agrees kept core → Agrees next (advanced core told.reached)
reached_agrees kept next core target most told was spent due acquired config sessions there a t ends h =
    let n : told.reached - core.box.stands.tick ≡ a.ticks = ticks_made core told.reached a.ticks a.reached in
    let m : next.sim.tick - kept.sim.tick ≡ told.reached - core.box.stands.tick = omega (arith, there, tick_is kept core h) in
    advanced_agrees kept next core (told.reached - core.box.stands.tick) told.completed acquired config sessions
    (subst (λ k. sims.Agrees next.sim (moment_after k (moment_of core))) (sym n) a.agrees)
    (subst (λ k. IsTaken (moment_of core) k told.completed core.acquisitions acquired) m t) ends h

-- what it costs
pub advance_costs : (kept next : KeptCore) (core : CoreState) (target most : ℕ) (told : Advanced) (was spent : ℕ) → told.reached ≡ next.sim.tick →
    outdated next.sim ≡ 0 → IsAdvanced (moment_of core) target most told next.sim was spent (outdated kept.sim) → Agrees kept core →
    AdvanceCosts core kept next was spent
advance_costs kept next core target most told was spent there known a h =
    let n : a.ticks ≡ next.sim.tick - kept.sim.tick = omega (arith, a.reached, there, tick_is kept core h) in
    record {
      eventful = a.eventful;
      busy = a.busy;
      run = subst (λ k. Run k (moment_of core) a.eventful a.busy) n a.run;
      calls = omega (arith, a.calls);
      known = known;
    }
