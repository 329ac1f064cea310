-- PCAP, and what is known of the blocks, as a run goes on.
use Rattle.std.proofs.Common.{◌≡◌, ℕ, ◌+◌, ◌-◌, ◌<◌, ◌≤◌, ◌^◌, Bool, true, false, cond, ℤ, List, [], ◌∷◌, length, map, get_or, drop, refl, sym, ap, subst, ◌∙◌, arith, inl, inr, Option}
use Rattle.std.specs.Prelude.{count_by}
use Rattle.std.specs.List.{AllByRecursion}
use Rattle.std.proofs.lemmas.Bool.{cases_lt}
use Rattle.std.proofs.lemmas.List.{get_or-map, length-map}
use Rattle.std.proofs.lemmas.List.Sums.{sum_by-cons}
use Rattle.pb_buses.specs.declared.Buses.{Buses}
use Rattle.pb_buses.specs.declared.Inputs.{Inputs}
use Rattle.pb_buses.specs.declared.Emit.{Emit}
use Rattle.pb_buses.specs.declared.Emit.TheVariants as emits
use Rattle.pb_buses.specs.Rules.{after, IsCalm, AreCalm, is_record}
use Rattle.pb_buses.proofs.CoastLemmas.{coasted}
use Rattle.pb_stim.specs.declared.Row.{Row}
use Rattle.pb_model.specs.declared.Block.{Block}
use Rattle.pb_model.specs.declared.units.Unit.{Unit as AnyUnit}
use Rattle.pb_model.specs.declared.units.Unit.TheVariants as units
use Rattle.pb_model.specs.Units.{rules, is_idle, counts_unseen}
use Rattle.pb_model.specs.Machines.{machines, machine_kinds, place_in}
use Rattle.pb_model.specs.Tick.{kind_of, inputs_of, block_after, emitted_by, emitted_of}
use Rattle.pb_model.specs.Kept.{stands_of}
use Rattle.pb_model.specs.Kept as model
use Rattle.pb_model.specs.Arming.{capture, is_capture_idle, idle_after}
use Rattle.pb_model.proofs.TickLemmas.{kinds_stay}
use Rattle.pb_model.proofs.ArmLemmas.{place_of_capture, capture_inside, idle_there, emitted_is, ticked_idle, ticked_quiet}
use Rattle.pb_still.specs.Current.{IsCurrent, values_at}
use Rattle.pb_still.specs.Current as current
use Rattle.pb_still.specs.Eventful.{Moment}
use Rattle.pb_lazy.specs.declared.Lazy.{Lazy}
use Rattle.pb_lazy.specs.Lazy.{caught_up, unit_at, saw, opening_lazy, IsDue, IsSound}
use Rattle.pb_lazy.specs.Meeting.{MetSoFar, IsRefreshed, AreRefreshed}
use Rattle.pb_lazy.proofs.ListLemmas.{all_at, all_map}
use Rattle.pb_going.specs.Sims.{Going, going, Agrees, IsGoing, now_of, with_lazies}
use Rattle.pb_going.specs.Moving.{IsPlain, JumpsTo}
use Rattle.pb_going.proofs.JumpLemmas.{all_ahead, sooner_due, moved, moved_on}
use Rattle.pb_jump.proofs.PlaceLemmas.{capture_in, stands_there, lazy_sound}

-- Whether PCAP is idle doesn't change by calm steps.

idle_uncounted : (inputs : Inputs) (unit : AnyUnit) → is_idle (rules.uncounted inputs unit) ≡ is_idle unit
idle_uncounted inputs (units.Lut block) = refl
idle_uncounted inputs (units.Srgate block) = refl
idle_uncounted inputs (units.Div block) = refl
idle_uncounted inputs (units.Pulse block) = refl
idle_uncounted inputs (units.Counter block) = refl
idle_uncounted inputs (units.Clock block) = refl
idle_uncounted inputs (units.Seq block) = refl
idle_uncounted inputs (units.Pcomp block) = refl
idle_uncounted inputs (units.Pcap block) = refl

calm_idle : (inputs : Inputs) (tick n : ℕ) (unit : AnyUnit) → AreCalm rules inputs tick n unit → is_idle (after rules inputs tick n unit) ≡ is_idle unit
calm_idle inputs tick n unit calm =
    sym (idle_uncounted inputs (after rules inputs tick n unit))
    ∙ (ap (λ (u : AnyUnit). is_idle u) (coasted rules inputs n tick unit calm) ∙ idle_uncounted inputs unit)

sound_idle : (tick : ℕ) (first : Bool) (lazy : Lazy) → IsSound tick first lazy → is_idle (unit_at tick lazy) ≡ is_idle lazy.block.unit
sound_idle tick first lazy sound = calm_idle lazy.kept lazy.own (tick - lazy.own) lazy.block.unit sound.calm

-- it is idle where the unit is as it stands at its own tick
going_idle : (g : Going) (d : Lazy) → IsGoing g → is_capture_idle (now_of g).blocks ≡ is_idle (get_or g.lazies 34 d).block.unit
going_idle g d is =
    let inside : 34 < length g.lazies = omega (arith, length-map g.lazies (caught_up g.tick), capture_inside (now_of g).blocks is.whole.kinds) in
    idle_there (now_of g).blocks (caught_up g.tick d) is.whole.kinds
    ∙ (ap (λ (b : Block). is_idle b.unit) (get_or-map (caught_up g.tick) g.lazies 34 d (caught_up g.tick d) inside)
    ∙ sound_idle g.tick g.first (get_or g.lazies 34 d) (all_at (IsSound g.tick g.first) g.lazies 34 d is.sound inside))

pub same_idle : (g new : Going) → IsGoing g → IsGoing new → new.lazies ≡ g.lazies →
    is_capture_idle (now_of new).blocks ≡ is_capture_idle (now_of g).blocks
same_idle g new is stays e =
    let d : Lazy = opening_lazy 0 in
    going_idle new d stays ∙ (ap (λ (l : List Lazy). is_idle (get_or l 34 d).block.unit) e ∙ sym (going_idle g d is))

-- A jump.

-- nothing but counting happens up to this later tick
pub record Lands (g : Going) (later place : ℕ) (old : List ℤ) : Type 0 where
  pub is : IsGoing g
  pub plain : IsPlain g
  pub was : IsCurrent g.rows place old g.tick
  pub ahead : g.tick < later
  pub due : AllByRecursion (λ (lazy : Lazy). (later ≤ lazy.due) × (later ≤ lazy.turn)) g.lazies
  pub coming : (k : ℕ) → k < later → AllByRecursion (λ (row : Row). k < row.tick) (drop place g.rows)

pub lands : (g : Going) (to first later place : ℕ) (old : List ℤ) (items : List Lazy) → IsGoing g → IsPlain g → IsCurrent g.rows place old g.tick →
    g.tick < to → items ≡ g.lazies →
    ((tick : ℕ) → tick < to → AllByRecursion (λ (lazy : Lazy). (tick < lazy.due) × (tick < lazy.turn)) items → tick < first) →
    AllByRecursion (λ (lazy : Lazy). (first ≤ lazy.due) × (first ≤ lazy.turn)) items → later ≤ first →
    ((k : ℕ) → k < first → AllByRecursion (λ (row : Row). k < row.tick) (drop place g.rows) → k < later) →
    ((k : ℕ) → k < later → AllByRecursion (λ (row : Row). k < row.tick) (drop place g.rows)) → Lands g later place old
lands g to first later place old items is plain was before same ahead each within rows coming =
    let first_ahead : g.tick < first =
    ahead g.tick before
    (subst (λ (l : List Lazy). AllByRecursion (λ (lazy : Lazy). (g.tick < lazy.due) × (g.tick < lazy.turn)) l) (sym same) (all_ahead g plain)) in
    record {
      is = is;
      plain = plain;
      was = was;
      ahead = rows g.tick first_ahead was.coming;
      due =
          sooner_due first later g.lazies within
          (subst (λ (l : List Lazy). AllByRecursion (λ (lazy : Lazy). (first ≤ lazy.due) × (first ≤ lazy.turn)) l) same each);
      coming = coming;
    }

module _ (g : Going) (later place : ℕ) (old values : List ℤ) (buses : Buses) (l : Lands g later place old) (levels : values ≡ values_at g.rows later)
    (drives : buses ≡ current.buses_with values later g.buses) where
  pub jump_going : IsGoing (going g.rows later buses g.settings g.lazies g.first g.stood)
  jump_going =
      subst (λ (b : Bool). IsGoing (going g.rows later buses g.settings g.lazies b g.stood)) (sym l.plain.later)
      (subst (λ (b : Bool). IsGoing (going g.rows later buses g.settings g.lazies false b)) (sym l.plain.untouched)
      (moved_on g later place old values buses l.is l.plain l.was l.ahead l.due l.coming levels drives))

  pub jump_moves : (moment : Moment) → Agrees g moment → JumpsTo moment (going g.rows later buses g.settings g.lazies g.first g.stood)
  jump_moves moment h =
      subst (λ (b : Bool). JumpsTo moment (going g.rows later buses g.settings g.lazies b g.stood)) (sym l.plain.later)
      (subst (λ (b : Bool). JumpsTo moment (going g.rows later buses g.settings g.lazies false b)) (sym l.plain.untouched)
      (moved g later place old values buses l.is l.plain l.was l.ahead l.due l.coming levels drives moment h))

  pub jump_idle : is_capture_idle (map (caught_up later) g.lazies) ≡ is_capture_idle (now_of g).blocks
  jump_idle = same_idle g (going g.rows later buses g.settings g.lazies g.first g.stood) l.is jump_going refl

-- A tick.

module _ (g : Going) (news : List Lazy) (emit : Emit) (was spent : ℕ) (is : IsGoing g)
    (met : MetSoFar g.buses.bus g.tick g.first g.lazies news emit was spent) where
  pub step_idle : is_capture_idle (map (caught_up (g.tick + 1)) news) ≡ idle_after emit (is_capture_idle (now_of g).blocks)
  step_idle =
      let kinds : map kind_of (map (block_after g.buses.bus g.tick) (now_of g).blocks) ≡ machine_kinds =
      kinds_stay g.buses.bus g.tick (now_of g).blocks ∙ is.whole.kinds in
      ap is_capture_idle met.blocks
      ∙ (ticked_idle g.buses.bus g.tick (now_of g).blocks is.whole.kinds kinds
      ∙ ap (λ (e : Emit). idle_after e (is_capture_idle (now_of g).blocks)) (sym met.emits))

  pub step_quiet : is_capture_idle (now_of g).blocks ≡ true → emit ≡ emits.Nothing
  step_quiet h =
      let kinds : map kind_of (map (block_after g.buses.bus g.tick) (now_of g).blocks) ≡ machine_kinds =
      kinds_stay g.buses.bus g.tick (now_of g).blocks ∙ is.whole.kinds in
      met.emits ∙ ticked_quiet g.buses.bus g.tick (now_of g).blocks is.whole.kinds kinds h

-- What PCAP would emit now, read off the unit as it stands at its own tick.

sound_emits : (tick : ℕ) (first : Bool) (lazy : Lazy) (inputs : Inputs) → IsSound tick first lazy →
    is_record (rules.emitted lazy.block.unit inputs tick) ≡ is_record (rules.emitted (unit_at tick lazy) inputs tick)
sound_emits tick first lazy inputs sound =
    let later : AnyUnit = unit_at tick lazy in
    sym (counts_unseen.records lazy.kept inputs tick lazy.block.unit)
    ∙ (ap (λ (u : AnyUnit). is_record (rules.emitted u inputs tick)) (sym (coasted rules lazy.kept (tick - lazy.own) lazy.own lazy.block.unit sound.calm))
    ∙ counts_unseen.records lazy.kept inputs tick later)

pub emits_now : (g : Going) (place : ℕ) (lazy : Lazy) (inputs : Inputs) (told : Bool) → IsGoing g → place ≡ place_in machines capture →
    lazy ≡ get_or g.lazies place lazy → inputs ≡ inputs_of g.buses.bus (caught_up g.tick lazy) →
    ((tick : ℕ) → told ≡ is_record (rules.emitted lazy.block.unit inputs tick)) → told ≡ is_record (emitted_of (stands_of (now_of g)))
emits_now g place lazy inputs told is p e sees tells =
    let inside : place < length g.lazies = omega (arith, p, capture_in g is) in
    let b : Block = caught_up g.tick lazy in
    tells g.tick
    ∙ (sound_emits g.tick g.first lazy inputs (lazy_sound g place lazy is inside e)
    ∙ (ap (λ (i : Inputs). is_record (rules.emitted (unit_at g.tick lazy) i g.tick)) sees
    ∙ (ap (λ (c : Block). is_record (emitted_by g.buses.bus g.tick c)) (sym (stands_there g place lazy inside e))
    ∙ (ap (λ (n : ℕ). is_record (emitted_by g.buses.bus g.tick (get_or (now_of g).blocks n b))) (p ∙ place_of_capture)
    ∙ ap is_record (sym (emitted_is g.buses.bus g.tick (now_of g).blocks b is.whole.kinds))))))

-- Deadlines that were outdated are known.

-- a deadline found at the block's own tick isn't before any tick up to which its steps are calm
due_later : (tick : ℕ) (lazy : Lazy) → lazy.own ≤ tick → tick < 2 ^ 62 → AreCalm rules lazy.kept lazy.own (tick - lazy.own) lazy.block.unit →
    IsDue lazy.own lazy → IsDue tick lazy
due_later tick lazy own small calm due =
    record { from_now = from; within = due.within; calm = due.calm; ends = due.ends }
  where
    from : tick ≤ lazy.due
    from = elim (cases_lt lazy.due tick) [
      | inl before ↦
          let e : lazy.own + (lazy.due - lazy.own) ≡ lazy.due = omega (arith, due.from_now) in
          absurd (due.ends (omega (arith, before, small))
          (subst (λ (t : ℕ). IsCalm rules lazy.kept t (unit_at lazy.due lazy)) e (calm (lazy.due - lazy.own) (omega (arith, before, due.from_now)))))
      | inr later ↦ later
    ]

refreshed_sound : (tick : ℕ) (first : Bool) (old new : Lazy) → tick < 2 ^ 62 → IsRefreshed old new → IsSound tick first old → IsSound tick first new
refreshed_sound tick first old new small r sound = by old.outdated refl
  where
    by : (b : Bool) → old.outdated ≡ b → IsSound tick first new
    by false e = subst (λ (l : Lazy). IsSound tick first l) (sym (r.same e)) sound
    by true e =
        let found : Lazy = record old { due = new.due; outdated = false } in
        let due : IsDue found.own found = subst (λ (l : Lazy). IsDue l.own l) r.left (r.due e) in
        subst (λ (l : Lazy). IsSound tick first l) (sym r.left)
        (record {
          own = sound.own;
          at = sound.at;
          calm = sound.calm;
          steady = sound.steady;
          narrow = sound.narrow;
          loose = sound.loose;
          deadline = λ a b. due_later tick found sound.own small sound.calm due;
        })

all_refreshed_sound : (tick : ℕ) (first : Bool) (olds news : List Lazy) → tick < 2 ^ 62 → AreRefreshed olds news → AllByRecursion (IsSound tick first) olds →
    AllByRecursion (IsSound tick first) news
all_refreshed_sound tick first [] [] small h all = tt
all_refreshed_sound tick first [] (n ∷ news) small h all = absurd h
all_refreshed_sound tick first (o ∷ olds) [] small h all = absurd h
all_refreshed_sound tick first (o ∷ olds) (n ∷ news) small h all =
    (refreshed_sound tick first o n small h.0 all.0, all_refreshed_sound tick first olds news small h.1 all.1)

blocks_refreshed : (tick : ℕ) (olds news : List Lazy) → AreRefreshed olds news → map (caught_up tick) news ≡ map (caught_up tick) olds
blocks_refreshed tick [] [] h = refl
blocks_refreshed tick [] (n ∷ news) h = absurd h
blocks_refreshed tick (o ∷ olds) [] h = absurd h
blocks_refreshed tick (o ∷ olds) (n ∷ news) h =
    ap (λ (l : Lazy). caught_up tick l ∷ map (caught_up tick) news) h.0.left
    ∙ ap (λ (l : List Block). caught_up tick o ∷ l) (blocks_refreshed tick olds news h.1)

saw_refreshed : (first : Bool) (olds news : List Lazy) → AreRefreshed olds news → map (saw first) news ≡ map (saw first) olds
saw_refreshed first [] [] h = refl
saw_refreshed first [] (n ∷ news) h = absurd h
saw_refreshed first (o ∷ olds) [] h = absurd h
saw_refreshed first (o ∷ olds) (n ∷ news) h =
    ap (λ (l : Lazy). saw first l ∷ map (saw first) news) h.0.left
    ∙ ap (λ (l : List (Option Inputs)). saw first o ∷ l) (saw_refreshed first olds news h.1)

pub all_known_now : (olds news : List Lazy) → AreRefreshed olds news → AllByRecursion (λ (lazy : Lazy). lazy.outdated ≡ false) news
all_known_now [] [] h = tt
all_known_now [] (n ∷ news) h = absurd h
all_known_now (o ∷ olds) [] h = absurd h
all_known_now (o ∷ olds) (n ∷ news) h = (ap (λ (l : Lazy). l.outdated) h.0.left, all_known_now olds news h.1)

pub own_small : (g : Going) → IsGoing g → g.tick < 2 ^ 62 → AllByRecursion (λ (lazy : Lazy). lazy.own < 2 ^ 62) g.lazies
own_small g is small =
    all_map (IsSound g.tick g.first) (λ (lazy : Lazy). lazy.own < 2 ^ 62) (λ lazy sound. omega (arith, sound.own, small)) g.lazies is.sound

module _ (g : Going) (news : List Lazy) (h : AreRefreshed g.lazies news) where
  pub refreshed_agrees : (moment : Moment) → Agrees g moment → Agrees (with_lazies g news) moment
  refreshed_agrees moment a =
      record {
        rows = a.rows;
        box =
            subst (λ (l : List Block). model.Agrees (record { tick = g.tick; buses = g.buses; settings = g.settings; blocks = l }) moment.box)
            (sym (blocks_refreshed g.tick g.lazies news h)) a.box;
        before = saw_refreshed g.first g.lazies news h ∙ a.before;
        stood = a.stood;
        driven = a.driven;
        shown = a.shown;
      }

  pub refreshed_idle : is_capture_idle (now_of (with_lazies g news)).blocks ≡ is_capture_idle (now_of g).blocks
  refreshed_idle = ap is_capture_idle (blocks_refreshed g.tick g.lazies news h)

  pub refreshed_going : IsGoing g → g.tick < 2 ^ 62 → IsGoing (with_lazies g news)
  refreshed_going is small =
      record {
        whole = record { kinds = ap (map kind_of) (blocks_refreshed g.tick g.lazies news h) ∙ is.whole.kinds; four = is.whole.four };
        sound = all_refreshed_sound g.tick g.first g.lazies news small h is.sound;
      }

-- none is outdated
pub none_outdated : (lazies : List Lazy) → AllByRecursion (λ (lazy : Lazy). lazy.outdated ≡ false) lazies →
    count_by (λ (lazy : Lazy). lazy.outdated) lazies ≡ 0
none_outdated [] h = refl
none_outdated (lazy ∷ lazies) h =
    let rest : count_by (λ (l : Lazy). l.outdated) lazies ≡ 0 = none_outdated lazies h.1 in
    let here : cond {A = ℕ} lazy.outdated 1 0 ≡ 0 = ap (λ (b : Bool). cond {A = ℕ} b 1 0) h.0 in
    let all : count_by (λ (l : Lazy). l.outdated) (lazy ∷ lazies) ≡ cond {A = ℕ} lazy.outdated 1 0 + count_by (λ (l : Lazy). l.outdated) lazies =
    sum_by-cons (λ (l : Lazy). cond {A = ℕ} l.outdated 1 0) lazy lazies in
    omega (arith, all, here, rest)
