-- Many quiet ticks at once.
use Rattle.std.proofs.Common.{◌≡◌, ℕ, zero, suc, ◌+◌, ◌-◌, ◌<◌, ◌≤◌, Bool, false, ℤ, List, [], ◌∷◌, ◌++◌, length, map, take, drop, replicate, refl, sym, ap, subst, ◌∙◌, arith, inl, inr, Some, length-append}
use Rattle.std.specs.Prelude.{Option}
use Rattle.std.specs.List.{AllByRecursion}
use Rattle.std.proofs.lemmas.List.{length-replicate}
use Rattle.pb_buses.specs.declared.Bus.{Bus}
use Rattle.pb_buses.specs.declared.Buses.{Buses}
use Rattle.pb_buses.specs.declared.Inputs.{Inputs}
use Rattle.pb_buses.specs.Buses.{value, AgreesWithPast, IsUnchangedAt}
use Rattle.pb_buses.proofs.ChangeLemmas.{tick_agrees, unchanged_at}
use Rattle.pb_stim.specs.declared.Row.{Row}
use Rattle.pb_model.specs.declared.Block.{Block}
use Rattle.pb_model.specs.Tick.{Standing, IsInputEntry, kind_of, inputs_of, bus_after}
use Rattle.pb_model.specs.Kept.{Kept, IsWhole, stands_of}
use Rattle.pb_model.specs.Kept as model
use Rattle.pb_still.specs.Driving.{driven, stimulated}
use Rattle.pb_still.specs.Current.{IsCurrent, values_at, with_values, levels_of}
use Rattle.pb_still.specs.Current as current
use Rattle.pb_still.specs.Coasting.{coasted_block, coasted, coasted_moment, IsQuietFor, StaysFor}
use Rattle.pb_still.specs.Eventful.{Moment, seen_in, AreBusy, IsStill}
use Rattle.pb_still.proofs.StillLemmas.{bus_stays, coasts, none_eventful}
use Rattle.pb_still.proofs.PutLemmas.{values_agree}
use Rattle.pb_still.proofs.LevelLemmas.{values_at-front, values_at-later}
use Rattle.pb_lazy.specs.declared.Lazy.{Lazy}
use Rattle.pb_lazy.specs.Lazy.{caught_up, saw, IsSound, IsQuiet}
use Rattle.pb_going.specs.Sims.{Going, going, Agrees, IsGoing, AreKnown, now_of}
use Rattle.pb_going.specs.Moving.{IsPlain, JumpsTo}
use Rattle.pb_going.proofs.BusLemmas.{driven_again, shown_on}
use Rattle.pb_lazy.proofs.LazyLemmas.{quiet_for, coasts_on, stays_sound, sees_kept, kind_stays}
use Rattle.pb_lazy.proofs.MeetLemmas.{quiet_is_met}
use Rattle.pb_lazy.proofs.ListLemmas.{all_map}

-- Every block is quiet, and its deadline and its turn aren't before this tick.

pub record IsFree (bus : Bus) (tick later : ℕ) (lazy : Lazy) : Type 0 where
  pub quiet : IsQuiet bus tick lazy
  pub sound : IsSound tick false lazy
  pub due : later ≤ lazy.due
  pub turn : later ≤ lazy.turn

all_quiet_for : (bus : Bus) (tick n : ℕ) (lazies : List Lazy) → AllByRecursion (IsFree bus tick (tick + n)) lazies →
    AllByRecursion (IsQuietFor bus tick n) (map (caught_up tick) lazies)
all_quiet_for bus tick n [] h = tt
all_quiet_for bus tick n (lazy ∷ lazies) h =
    (quiet_for bus tick n lazy h.0.quiet.unmoved h.0.sound h.0.quiet.known h.0.due h.0.turn h.0.quiet.turn, all_quiet_for bus tick n lazies h.1)

all_coast : (bus : Bus) (tick n : ℕ) (lazies : List Lazy) → AllByRecursion (IsFree bus tick (tick + n)) lazies →
    map (caught_up (tick + n)) lazies ≡ map (coasted_block bus tick n) (map (caught_up tick) lazies)
all_coast bus tick n [] h = refl
all_coast bus tick n (lazy ∷ lazies) h =
    ap (λ (b : Block). b ∷ map (caught_up (tick + n)) lazies)
    (coasts_on bus tick n lazy h.0.quiet.unmoved h.0.sound h.0.quiet.known h.0.due h.0.turn h.0.quiet.turn)
    ∙ ap (λ (l : List Block). coasted_block bus tick n (caught_up tick lazy) ∷ l) (all_coast bus tick n lazies h.1)

all_sound : (bus : Bus) (tick n : ℕ) (lazies : List Lazy) → AllByRecursion (IsFree bus tick (tick + n)) lazies →
    AllByRecursion (IsSound (tick + n) false) lazies
all_sound bus tick n [] h = tt
all_sound bus tick n (lazy ∷ lazies) h =
    (stays_sound bus tick n lazy h.0.quiet.unmoved h.0.sound h.0.quiet.known h.0.due h.0.turn h.0.quiet.turn, all_sound bus tick n lazies h.1)

all_idle : (bus : Bus) (tick later : ℕ) (lazies : List Lazy) → AllByRecursion (IsFree bus tick later) lazies →
    AreBusy bus tick (map (saw false) lazies) (map (caught_up tick) lazies) 0
all_idle bus tick later [] h = refl
all_idle bus tick later (lazy ∷ lazies) h = inl ((quiet_is_met bus tick lazy h.0.sound h.0.quiet).1, all_idle bus tick later lazies h.1)

all_saw : (bus : Bus) (tick later : ℕ) (lazies : List Lazy) → AllByRecursion (IsFree bus tick later) lazies →
    map (saw false) lazies ≡ map (λ (b : Block). Some (inputs_of bus b)) (map (caught_up tick) lazies)
all_saw bus tick later [] h = refl
all_saw bus tick later (lazy ∷ lazies) h =
    ap (λ (i : Inputs). Some i ∷ map (saw false) lazies) (sym (sees_kept bus tick false lazy h.0.quiet.unmoved h.0.sound h.0.quiet.turn))
    ∙ ap (λ (l : List (Option Inputs)). Some (inputs_of bus (caught_up tick lazy)) ∷ l) (all_saw bus tick later lazies h.1)

pub all_kinds : (tick later : ℕ) (lazies : List Lazy) → map kind_of (map (caught_up later) lazies) ≡ map kind_of (map (caught_up tick) lazies)
all_kinds tick later [] = refl
all_kinds tick later (lazy ∷ lazies) =
    ap (λ k. k ∷ map kind_of (map (caught_up later) lazies)) (kind_stays later lazy ∙ sym (kind_stays tick lazy))
    ∙ ap (λ l. kind_of (caught_up tick lazy) ∷ l) (all_kinds tick later lazies)

-- The stimulus.

-- as long as no row comes, the values are those of now
pub values_stay : (rows : List Row) (place : ℕ) (values : List ℤ) (tick k : ℕ) → IsCurrent rows place values tick → tick ≤ k →
    AllByRecursion (λ (row : Row). k < row.tick) (drop place rows) → values_at rows k ≡ values_at rows tick
values_stay rows place values tick k is from coming =
    sym (values_at-front rows place k coming)
    ∙ (sym (values_at-later (take place rows) tick k from is.past) ∙ values_at-front rows place tick is.coming)

driven_stays : (rows : List Row) (tick k : ℕ) (bus : Bus) → values_at rows k ≡ values_at rows tick → driven rows tick bus ≡ bus → driven rows k bus ≡ bus
driven_stays rows tick k bus e h =
    ap (λ (v : List ℤ). record { bits = levels_of v ++ drop 6 bus.bits; positions = drop 6 v ++ drop 4 bus.positions }) e ∙ h

-- The past.

pub ticks_agree : (n : ℕ) (buses : Buses) (past : List Bus) → AgreesWithPast buses past → AgreesWithPast buses (replicate n buses.bus ++ past)
ticks_agree zero buses past h = h
ticks_agree (suc n) buses past h = tick_agrees buses (replicate n buses.bus ++ past) (ticks_agree n buses past h)

input_few : (entry : ℕ) → IsInputEntry entry → entry < 160
input_few entry (inl small) = omega arith
input_few entry (inr within) = omega (arith, within.1)

-- The jump.

module _ (g : Going) (moment : Moment) (h : Agrees g moment) (is : IsGoing g) (plain : IsPlain g) (n : ℕ)
    (free : AllByRecursion (IsFree g.buses.bus g.tick (g.tick + suc n)) g.lazies)
    (rows : (k : ℕ) → g.tick ≤ k → k < g.tick + suc n → values_at g.rows k ≡ values_at g.rows g.tick)
    (values : List ℤ) (levels : values ≡ values_at g.rows (g.tick + suc n)) where
  stands : stands_of (now_of g) ≡ moment.box.stands
  stands = h.box.stands

  stays_here : AllByRecursion (IsQuietFor moment.box.stands.bus moment.box.stands.tick (suc n)) moment.box.stands.blocks
  stays_here =
      subst (λ (s : Standing). AllByRecursion (IsQuietFor s.bus s.tick (suc n)) s.blocks) h.box.stands
      (all_quiet_for g.buses.bus g.tick (suc n) g.lazies free)

  levels_here : (k : ℕ) → k < suc n → driven moment.rows (moment.box.stands.tick + k) moment.box.stands.bus ≡ moment.box.stands.bus
  levels_here k below =
      let at : moment.box.stands.tick ≡ g.tick = sym (ap (λ (s : Standing). s.tick) h.box.stands) in
      let e : g.tick + k ≡ moment.box.stands.tick + k = omega (arith, at) in
      let same : values_at g.rows (g.tick + k) ≡ values_at g.rows g.tick = rows (g.tick + k) (omega arith) (omega arith) in
      driven_stays moment.rows moment.box.stands.tick (moment.box.stands.tick + k) moment.box.stands.bus
      (ap (λ (r : List Row). values_at r (moment.box.stands.tick + k)) (sym h.rows)
      ∙ (ap (values_at g.rows) (sym e)
      ∙ (same
      ∙ (ap (values_at g.rows) (sym at)
      ∙ ap (λ (r : List Row). values_at r moment.box.stands.tick) h.rows))))
      h.driven

  stays : StaysFor (suc n) moment
  stays = record { blocks = stays_here; shown = h.shown plain.later plain.untouched; levels = levels_here }

  still : IsStill moment
  still =
      record {
        untouched = sym h.stood ∙ plain.untouched;
        idle =
            subst (λ (l : List (Option Inputs)). AreBusy moment.box.stands.bus moment.box.stands.tick l moment.box.stands.blocks 0)
            (ap (λ (b : Bool). map (saw b) g.lazies) (sym plain.later) ∙ h.before)
            (subst (λ (s : Standing). AreBusy s.bus s.tick (map (saw false) g.lazies) s.blocks 0) h.box.stands
            (all_idle g.buses.bus g.tick (g.tick + suc n) g.lazies free));
      }

  -- what is kept before the stimulus puts its values
  kept : Kept
  kept = record { tick = g.tick + suc n; buses = g.buses; settings = g.settings; blocks = map (caught_up (g.tick + suc n)) g.lazies }

  past_agrees : AgreesWithPast g.buses (replicate (suc n) moment.box.stands.bus ++ moment.box.past)
  past_agrees =
      subst (λ (b : Bus). AgreesWithPast g.buses (replicate (suc n) b ++ moment.box.past)) (ap (λ (s : Standing). s.bus) h.box.stands)
      (ticks_agree (suc n) g.buses moment.box.past h.box.changes)

  many : length (replicate (suc n) moment.box.stands.bus ++ moment.box.past) ≡ g.tick + suc n
  many =
      length-append (replicate (suc n) moment.box.stands.bus) moment.box.past
      ∙ (ap (λ k. k + length moment.box.past) (length-replicate (suc n) moment.box.stands.bus) ∙ omega (arith, h.box.ticks))

  kept_agrees : model.Agrees (record { tick = g.tick + suc n; buses = g.buses; settings = g.settings; blocks = map (caught_up (g.tick + suc n)) g.lazies }) (coasted (suc n) moment.box)
  kept_agrees =
      record {
        stands =
            ap (λ (l : List Block). record { tick = g.tick + suc n; bus = g.buses.bus; settings = g.settings; blocks = l })
            (all_coast g.buses.bus g.tick (suc n) g.lazies free)
            ∙ ap (λ (s : Standing). record {
              tick = s.tick + suc n;
              bus = s.bus;
              settings = s.settings;
              blocks = map (coasted_block s.bus s.tick (suc n)) s.blocks;
            }) h.box.stands;
        ticks = many;
        changes = past_agrees;
      }

  once : (entry : ℕ) → IsInputEntry entry → IsUnchangedAt g.buses entry (g.tick + suc n)
  once entry input =
      let long : suc (length (replicate n moment.box.stands.bus ++ moment.box.past)) ≡ g.tick + suc n = many in
      subst (λ (t : ℕ). IsUnchangedAt g.buses entry t) long
      (unchanged_at g.buses moment.box.stands.bus (replicate n moment.box.stands.bus ++ moment.box.past) entry past_agrees (input_few entry input)
      (ap (λ (s : Standing). value s.bus entry) h.box.stands))

  pub jumped : JumpsTo moment (going g.rows (g.tick + suc n) (current.buses_with values (g.tick + suc n) g.buses) g.settings g.lazies false false)
  jumped =
      let box : model.Agrees (with_values values (record { tick = g.tick + suc n; buses = g.buses; settings = g.settings; blocks = map (caught_up (g.tick + suc n)) g.lazies }))
      (stimulated moment.rows (coasted (suc n) moment.box)) =
      values_agree moment.rows values (record { tick = g.tick + suc n; buses = g.buses; settings = g.settings; blocks = map (caught_up (g.tick + suc n)) g.lazies })
      (coasted (suc n) moment.box) (levels ∙ ap (λ (r : List Row). values_at r (g.tick + suc n)) h.rows) kept_agrees once in
      record {
        ticks = suc n;
        at = ap (λ t. t + suc n) (ap (λ (s : Standing). s.tick) h.box.stands);
        agrees =
            subst (λ (m : Moment). Agrees (going g.rows (g.tick + suc n) (current.buses_with values (g.tick + suc n) g.buses) g.settings g.lazies false false) m)
            (sym (coasts n moment stays))
            (record {
              rows = h.rows;
              box = box;
              before = all_saw g.buses.bus g.tick (g.tick + suc n) g.lazies free ∙ ap seen_in h.box.stands;
              stood = refl;
              driven = driven_again moment.rows (moment.box.stands.tick + suc n) (moment.box.stands.tick + suc n) moment.box.stands.bus;
              shown = λ a b. shown_later;
            });
        run = none_eventful (suc n) moment stays still;
      }
    where
      blocks : List Block
      blocks = map (coasted_block moment.box.stands.bus moment.box.stands.tick (suc n)) moment.box.stands.blocks

      whole : IsWhole (map (coasted_block moment.box.stands.bus moment.box.stands.tick (suc n)) moment.box.stands.blocks) moment.box.stands.settings
      whole =
          subst (λ (s : Standing). IsWhole s.blocks s.settings) kept_agrees.stands
          (record { kinds = all_kinds g.tick (g.tick + suc n) g.lazies ∙ is.whole.kinds; four = is.whole.four })

      shown_later : bus_after (coasted_moment (suc n) moment).box.stands.bus (coasted_moment (suc n) moment).box.stands.blocks moment.box.stands.settings
          ≡ (coasted_moment (suc n) moment).box.stands.bus
      shown_later =
          shown_on moment.rows (moment.box.stands.tick + suc n) moment.box.stands.bus
          (map (coasted_block moment.box.stands.bus moment.box.stands.tick (suc n)) moment.box.stands.blocks) moment.box.stands.settings whole
          (subst (λ (s : Standing). length s.bus.bits ≡ 128) h.box.stands h.box.changes.bits)
          (subst (λ (s : Standing). length s.bus.positions ≡ 32) h.box.stands h.box.changes.positions)
          (bus_stays moment.box.stands.bus moment.box.stands.tick (suc n) moment.box.stands.blocks moment.box.stands.settings stays_here
          ∙ h.shown plain.later plain.untouched)

-- the blocks stay those of the catalogue
pub goes_on : (g : Going) (buses : Buses) (n : ℕ) → IsGoing g → AllByRecursion (IsFree g.buses.bus g.tick (g.tick + suc n)) g.lazies →
    IsGoing (going g.rows (g.tick + suc n) buses g.settings g.lazies false false)
goes_on g buses n is free =
    record {
      whole = record { kinds = all_kinds g.tick (g.tick + suc n) g.lazies ∙ is.whole.kinds; four = is.whole.four };
      sound = all_sound g.buses.bus g.tick (suc n) g.lazies free;
    }

-- A jump that isn't empty.

pub all_free : (g : Going) (later : ℕ) → IsGoing g → IsPlain g → AllByRecursion (λ (l : Lazy). (later ≤ l.due) × (later ≤ l.turn)) g.lazies →
    AllByRecursion (IsFree g.buses.bus g.tick later) g.lazies
all_free g later is plain all =
    each g.lazies plain.quiet (subst (λ (b : Bool). AllByRecursion (IsSound g.tick b) g.lazies) plain.later is.sound) all
  where
    each : (lazies : List Lazy) → AllByRecursion (IsQuiet g.buses.bus g.tick) lazies → AllByRecursion (IsSound g.tick false) lazies →
        AllByRecursion (λ (l : Lazy). (later ≤ l.due) × (later ≤ l.turn)) lazies → AllByRecursion (IsFree g.buses.bus g.tick later) lazies
    each [] q s a = tt
    each (lazy ∷ lazies) q s a =
        (record { quiet = q.0; sound = s.0; due = a.0.0; turn = a.0.1 }, each lazies q.1 s.1 a.1)

pub all_ahead : (g : Going) → IsPlain g → AllByRecursion (λ (l : Lazy). (g.tick < l.due) × (g.tick < l.turn)) g.lazies
all_ahead g plain =
    all_map (IsQuiet g.buses.bus g.tick) (λ (l : Lazy). (g.tick < l.due) × (g.tick < l.turn)) (λ lazy q. (q.due, q.turn)) g.lazies plain.quiet

pub all_known : (g : Going) → IsPlain g → AreKnown g
all_known g plain =
    all_map (IsQuiet g.buses.bus g.tick) (λ (l : Lazy). l.outdated ≡ false) (λ lazy q. q.known) g.lazies plain.quiet

module _ (g : Going) (later : ℕ) (place : ℕ) (old values : List ℤ) (buses : Buses) (is : IsGoing g) (plain : IsPlain g)
    (was : IsCurrent g.rows place old g.tick) (ahead : g.tick < later)
    (due : AllByRecursion (λ (l : Lazy). (later ≤ l.due) × (later ≤ l.turn)) g.lazies)
    (coming : (k : ℕ) → k < later → AllByRecursion (λ (row : Row). k < row.tick) (drop place g.rows))
    (levels : values ≡ values_at g.rows later) (drives : buses ≡ current.buses_with values later g.buses) where
  pub moved : (moment : Moment) → Agrees g moment → JumpsTo moment (going g.rows later buses g.settings g.lazies false false)
  moved moment h =
      let n : ℕ = later - g.tick - 1 in
      let at : g.tick + suc n ≡ later = omega arith in
      let free : AllByRecursion (IsFree g.buses.bus g.tick (g.tick + suc n)) g.lazies =
      subst (λ (t : ℕ). AllByRecursion (IsFree g.buses.bus g.tick t) g.lazies) (sym at) (all_free g later is plain due) in
      subst (λ (b : Buses). JumpsTo moment (going g.rows later b g.settings g.lazies false false)) (sym drives)
      (subst (λ (t : ℕ). JumpsTo moment (going g.rows t (current.buses_with values t g.buses) g.settings g.lazies false false)) at
      (jumped g moment h is plain n free
      (λ k from below. values_stay g.rows place old g.tick k was from (coming k (omega (arith, at))))
      values (levels ∙ ap (values_at g.rows) (sym at))))

  pub moved_on : IsGoing (going g.rows later buses g.settings g.lazies false false)
  moved_on =
      let n : ℕ = later - g.tick - 1 in
      let at : g.tick + suc n ≡ later = omega arith in
      subst (λ (t : ℕ). IsGoing (going g.rows t buses g.settings g.lazies false false)) at
      (goes_on g buses n is (subst (λ (t : ℕ). AllByRecursion (IsFree g.buses.bus g.tick t) g.lazies) (sym at) (all_free g later is plain due)))

-- up to a tick that is no later
pub sooner_due : (first later : ℕ) (lazies : List Lazy) → later ≤ first → AllByRecursion (λ (l : Lazy). (first ≤ l.due) × (first ≤ l.turn)) lazies →
    AllByRecursion (λ (l : Lazy). (later ≤ l.due) × (later ≤ l.turn)) lazies
sooner_due first later lazies le h =
    all_map (λ (l : Lazy). (first ≤ l.due) × (first ≤ l.turn)) (λ (l : Lazy). (later ≤ l.due) × (later ≤ l.turn))
    (λ lazy both. (omega (arith, both.0, le), omega (arith, both.1, le))) lazies h
