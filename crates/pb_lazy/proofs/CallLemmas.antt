-- What the calls of a lazy block leave.
use Rattle.std.proofs.Common.{◌≡◌, ℕ, ℤ, pos, ◌+◌, ◌-◌, ◌<◌, ◌≤◌, ◌^◌, ◌++◌, Bool, true, false, not, List, [], ◌∷◌, map, take, replicate, get_or, length, refl, sym, ap, subst, ◌∙◌, arith, Some, None, if◌then◌else◌}
use Rattle.pb_buses.specs.declared.Bus.{Bus}
use Rattle.pb_buses.specs.declared.Inputs.{Inputs}
use Rattle.pb_buses.specs.Rules.{after, IsCalm, IsHorizon}
use Rattle.std.specs.List.{AllByRecursion}
use Rattle.pb_names.specs.declared.bit_bus.TheConstants as bit_bus
use Rattle.pb_names.specs.declared.position_bus.TheConstants as position_bus
use Rattle.pb_buses.specs.declared.Emit.TheVariants as emits
use Rattle.pb_buses.specs.Buses.{position, selected, words}
use Rattle.pb_pcap.proofs.QuietLemmas.{quiet_emits}
use Rattle.pb_buses.specs.Delay.{BitInput, seen, later, latest, IsNextChange}
use Rattle.pb_still.specs.Coasting.{input_later}
use Rattle.std.proofs.lemmas.List.{take_more, take_all, map-append, get_or_past}
use Rattle.pb_model.specs.declared.Block.{Block}
use Rattle.pb_model.specs.declared.units.Unit.{Unit as AnyUnit}
use Rattle.pb_model.specs.declared.units.Unit.TheVariants as units
use Rattle.pb_model.specs.Units.{rules, is_quiet, emitted}
use Rattle.pb_model.specs.Parts.{IsNarrow}
use Rattle.pb_model.specs.Tick.{kind_of, sees_all, seen_on, inputs_of, input_after}
use Rattle.pb_lazy.specs.declared.lazies.Lazy.{Lazy}
use Rattle.pb_lazy.specs.Lazy.{lately, caught_up, settled, awake, capped, HasZero, IsUnwired, IsLoose, IsUnmoved, HasEnd, IsDue, IsTurn, IsPushed, IsKnown, IsStepped}
use Rattle.pb_lazy.proofs.LazyLemmas.{sight, kind_stays, calm_front}

pub not_true : (b : Bool) → not b ≡ true → b ≡ false
not_true true h = cc
not_true false h = refl

pub not_false : (b : Bool) → not b ≡ false → b ≡ true
not_false true h = refl
not_false false h = cc

-- What is seen beside the bit inputs.

-- by a block of any kind but PCAP
pub others_narrow : (bus : Bus) (lazy : Lazy) → sees_all lazy.block ≡ false → IsNarrow lazy.kept → map (position bus) lazy.block.positions ≡ lazy.kept.positions →
    record (inputs_of bus lazy.block) { bits = lazy.kept.bits } ≡ lazy.kept
others_narrow bus lazy other narrow p =
    ap (λ (b : Bool). record {
      bits = lazy.kept.bits;
      positions = map (position bus) lazy.block.positions;
      words = if b then words bus else replicate 4 0;
      bus = if b then bus.positions else replicate position_bus.WIDTH (pos 0);
    }) other
    ∙ (ap (λ (ps : List ℤ). record {
      bits = lazy.kept.bits;
      positions = ps;
      words = replicate 4 0;
      bus = replicate position_bus.WIDTH (pos 0);
    }) p
    ∙ (ap (λ (ws : List ℕ). record {
      bits = lazy.kept.bits;
      positions = lazy.kept.positions;
      words = ws;
      bus = replicate position_bus.WIDTH (pos 0);
    }) (sym narrow.words)
    ∙ ap (λ (ps : List ℤ). record {
      bits = lazy.kept.bits;
      positions = lazy.kept.positions;
      words = lazy.kept.words;
      bus = ps;
    }) (sym narrow.bus)))

-- and by PCAP
pub others_wide : (bus : Bus) (lazy : Lazy) → sees_all lazy.block ≡ true → map (position bus) lazy.block.positions ≡ lazy.kept.positions →
    bus.positions ≡ lazy.kept.bus → words bus ≡ lazy.kept.words → record (inputs_of bus lazy.block) { bits = lazy.kept.bits } ≡ lazy.kept
others_wide bus lazy all p b w =
    ap (λ (x : Bool). record {
      bits = lazy.kept.bits;
      positions = map (position bus) lazy.block.positions;
      words = if x then words bus else replicate 4 0;
      bus = if x then bus.positions else replicate position_bus.WIDTH (pos 0);
    }) all
    ∙ (ap (λ (ps : List ℤ). record { bits = lazy.kept.bits; positions = ps; words = words bus; bus = bus.positions }) p
    ∙ (ap (λ (ws : List ℕ). record { bits = lazy.kept.bits; positions = lazy.kept.positions; words = ws; bus = bus.positions }) w
    ∙ ap (λ (ps : List ℤ). record { bits = lazy.kept.bits; positions = lazy.kept.positions; words = lazy.kept.words; bus = ps }) b))

-- A block none of whose inputs is wired.

pub zero_is : (bus : Bus) → length bus.bits ≡ 128 → length bus.positions ≡ 32 → HasZero bus
zero_is bus b p =
    record {
      bit = get_or_past bus.bits 128 false (omega (arith, b));
      position = get_or_past bus.positions 32 (pos 0) (omega (arith, p));
    }

zero_bits : (bus : Bus) → HasZero bus → (inputs : List BitInput) → AllByRecursion (λ (input : BitInput). input.select ≡ bit_bus.ZERO) inputs →
    AllByRecursion (λ (input : BitInput). latest input ≡ false) inputs →
    map (λ (input : BitInput). selected bus input.select) inputs ≡ map latest inputs
zero_bits bus zero [] h g = refl
zero_bits bus zero (x ∷ xs) h g =
    ap (λ (b : Bool). b ∷ map (λ (input : BitInput). selected bus input.select) xs) (ap (selected bus) h.0 ∙ (zero.bit ∙ sym g.0))
    ∙ ap (λ (l : List Bool). latest x ∷ l) (zero_bits bus zero xs h.1 g.1)

pub zero_positions : (bus : Bus) → HasZero bus → (selects : List ℕ) → AllByRecursion (λ (select : ℕ). select ≡ position_bus.ZERO) selects →
    map (position bus) selects ≡ map (λ (select : ℕ). pos 0) selects
zero_positions bus zero [] h = refl
zero_positions bus zero (x ∷ xs) h =
    ap (λ (p : ℤ). p ∷ map (position bus) xs) (ap (position bus) h.0 ∙ zero.position)
    ∙ ap (λ (l : List ℤ). pos 0 ∷ l) (zero_positions bus zero xs h.1)

pub loose_stays : (bus : Bus) (lazy : Lazy) → HasZero bus → IsLoose lazy.block lazy.kept → (sees_all lazy.block ≡ false → IsNarrow lazy.kept) →
    IsUnmoved bus lazy
loose_stays bus lazy zero loose narrow =
    let kind : sees_all lazy.block ≡ false = loose.unwired.kind in
    record {
      bits = zero_bits bus zero lazy.block.bits loose.unwired.bits loose.lines;
      others =
          others_narrow bus lazy kind (narrow kind) (zero_positions bus zero lazy.block.positions loose.unwired.positions ∙ sym loose.zeros);
    }

-- a unit that is quiet emits nothing
pub quiet_unit : (unit : AnyUnit) (inputs : Inputs) (tick : ℕ) → is_quiet unit inputs ≡ true → emitted unit inputs tick ≡ emits.Nothing
quiet_unit (units.Lut block) inputs tick h = refl
quiet_unit (units.Srgate block) inputs tick h = refl
quiet_unit (units.Div block) inputs tick h = refl
quiet_unit (units.Pulse block) inputs tick h = refl
quiet_unit (units.Counter block) inputs tick h = refl
quiet_unit (units.Clock block) inputs tick h = refl
quiet_unit (units.Seq block) inputs tick h = refl
quiet_unit (units.Pcomp block) inputs tick h = refl
quiet_unit (units.Pcap block) inputs tick h = quiet_emits block inputs tick h

-- what it sees with its bit inputs at the tick
pub look_is : (bus : Bus) (tick : ℕ) (lazy : Lazy) (seen : Inputs) (bits : List Bool) → seen ≡ inputs_of bus lazy.block →
    bits ≡ map (seen_on bus) (map (lately (tick - lazy.at)) lazy.block.bits) →
    record { bits = bits; positions = seen.positions; words = seen.words; bus = seen.bus } ≡ inputs_of bus (caught_up tick lazy)
look_is bus tick lazy seen bits e f =
    ap (λ (i : Inputs). record { bits = bits; positions = i.positions; words = i.words; bus = i.bus }) e
    ∙ (ap (λ (l : List Bool). sight bus (kind_of lazy.block) l (map (position bus) lazy.block.positions)) f
    ∙ ap (λ (k : ℕ). sight bus k (map (seen_on bus) (map (lately (tick - lazy.at)) lazy.block.bits)) (map (position bus) lazy.block.positions))
    (sym (kind_stays tick lazy)))

-- its unit stands at the tick already
pub awake_same : (tick : ℕ) (lazy : Lazy) → lazy.own ≡ tick → lazy ≡ awake tick lazy
awake_same tick lazy e =
    let none : tick - lazy.own ≡ 0 = omega (arith, e) in
    ap (λ (t : ℕ). record lazy { own = t }) e
    ∙ ap (λ (n : ℕ). record lazy {
      block = record {
        unit = after rules lazy.kept lazy.own n lazy.block.unit;
        bits = lazy.block.bits;
        positions = lazy.block.positions;
      };
      own = tick;
    }) (sym none)

-- its delay lines took what is selected
pub pushed_is : (bus : Bus) (tick : ℕ) (old mid : Lazy) (block : Block) (turn : ℕ) (wired : Bool) → mid ≡ settled tick old → block.unit ≡ mid.block.unit →
    block.bits ≡ map (input_after bus) mid.block.bits → block.positions ≡ mid.block.positions → IsTurn bus tick mid.block turn →
    (wired ≡ false → IsUnwired old.block) → HasZero bus →
    IsPushed bus tick old (record {
      block = block;
      own = mid.own;
      kept = mid.kept;
      due = mid.due;
      outdated = mid.outdated;
      at = tick + 1;
      turn = turn;
      wired = wired;
    })
pushed_is bus tick old mid block turn wired e u b p turns unwired zero =
    record {
      left =
          ap (λ (x : AnyUnit). record {
            block = record { unit = x; bits = block.bits; positions = block.positions };
            own = mid.own;
            kept = mid.kept;
            due = mid.due;
            outdated = mid.outdated;
            at = tick + 1;
            turn = turn;
            wired = wired;
          }) u
          ∙ (ap (λ (x : List BitInput). record {
            block = record { unit = mid.block.unit; bits = x; positions = block.positions };
            own = mid.own;
            kept = mid.kept;
            due = mid.due;
            outdated = mid.outdated;
            at = tick + 1;
            turn = turn;
            wired = wired;
          }) b
          ∙ (ap (λ (x : List ℕ). record {
            block = record { unit = mid.block.unit; bits = map (input_after bus) mid.block.bits; positions = x };
            own = mid.own;
            kept = mid.kept;
            due = mid.due;
            outdated = mid.outdated;
            at = tick + 1;
            turn = turn;
            wired = wired;
          }) p
          ∙ ap (λ (l : Lazy). record {
            block = record { unit = l.block.unit; bits = map (input_after bus) l.block.bits; positions = l.block.positions };
            own = l.own;
            kept = l.kept;
            due = l.due;
            outdated = l.outdated;
            at = tick + 1;
            turn = turn;
            wired = wired;
          }) e));
      turns = subst (λ (l : Lazy). IsTurn bus tick l.block turn) e turns;
      unwired = unwired;
      zero = zero;
    }

-- Deadlines.

pub never_due : (unit : AnyUnit) (inputs : Inputs) (tick : ℕ) → tick < 2 ^ 62 → IsHorizon rules inputs tick unit None →
    HasEnd unit inputs tick (2 ^ 62)
never_due unit inputs tick small is =
    record {
      from = omega arith;
      within = omega arith;
      calm = is (2 ^ 62 - tick);
      ends = λ less. absurd (omega arith);
    }

pub due_after : (unit : AnyUnit) (inputs : Inputs) (tick h due : ℕ) → tick < 2 ^ 62 → IsHorizon rules inputs tick unit (Some h) →
    due ≡ capped (tick + h) → HasEnd unit inputs tick due
due_after unit inputs tick h due small is e =
    record {
      from = omega (arith, e);
      within = omega (arith, e);
      calm = calm_front rules inputs (due - tick) h tick unit (omega (arith, e)) is.0;
      ends = λ less.
          let at : due ≡ tick + h = omega (arith, e, less) in
          let n : due - tick ≡ h = omega (arith, at) in
          λ calm. is.1
          (subst (λ (k : ℕ). IsCalm rules inputs (tick + h) (after rules inputs tick k unit)) n
          (subst (λ (t : ℕ). IsCalm rules inputs t (after rules inputs tick (due - tick) unit)) at calm));
    }

pub known_is : (old : Lazy) (due : ℕ) → HasEnd old.block.unit old.kept old.own due →
    IsKnown old (record {
      block = old.block;
      own = old.own;
      kept = old.kept;
      due = due;
      outdated = false;
      at = old.at;
      turn = old.turn;
      wired = old.wired;
    })
known_is old due h =
    record { left = refl; due = record { from_now = h.from; within = h.within; calm = h.calm; ends = h.ends } }

-- A step.

pub stepped_is : (inputs : Inputs) (tick : ℕ) (old mid new : Lazy) (unit : AnyUnit) → mid ≡ awake tick old →
    unit ≡ rules.next mid.block.unit inputs tick →
    IsKnown (record {
      block = record { unit = unit; bits = mid.block.bits; positions = mid.block.positions };
      own = tick + 1;
      kept = inputs;
      due = mid.due;
      outdated = mid.outdated;
      at = mid.at;
      turn = mid.turn;
      wired = mid.wired;
    }) new → IsStepped inputs tick old new
stepped_is inputs tick old mid new unit e u known =
    record {
      left =
          known.left
          ∙ (ap (λ (x : AnyUnit). record {
            block = record { unit = x; bits = mid.block.bits; positions = mid.block.positions };
            own = tick + 1;
            kept = inputs;
            due = new.due;
            outdated = false;
            at = mid.at;
            turn = mid.turn;
            wired = mid.wired;
          }) u
          ∙ ap (λ (l : Lazy). record {
            block = record { unit = rules.next l.block.unit inputs tick; bits = l.block.bits; positions = l.block.positions };
            own = tick + 1;
            kept = inputs;
            due = new.due;
            outdated = false;
            at = l.at;
            turn = l.turn;
            wired = l.wired;
          }) e);
      due = subst (λ (t : ℕ). IsDue t new) (ap (λ (l : Lazy). l.own) known.left) known.due;
    }

-- Turns.

pub steady_none : (bus : Bus) (input : BitInput) (value : Bool) → value ≡ selected bus input.select → IsNextChange input value None → (k : ℕ) →
    seen_on bus (input_later bus k input) ≡ seen_on bus input
steady_none bus input value e is k = subst (λ (v : Bool). later input v k ≡ seen input v) e (is k)

pub steady_some : (bus : Bus) (input : BitInput) (value : Bool) (n : ℕ) → value ≡ selected bus input.select → IsNextChange input value (Some n) →
    (k : ℕ) → k < n → seen_on bus (input_later bus k input) ≡ seen_on bus input
steady_some bus input value n e is k below = subst (λ (v : Bool). later input v k ≡ seen input v) e (is.1 k below)

pub steady_more : (bus : Bus) (k i : ℕ) (inputs : List BitInput) (input : BitInput) → i < length inputs → input ≡ get_or inputs i input →
    map (seen_on bus) (map (input_later bus k) (take i inputs)) ≡ map (seen_on bus) (take i inputs) →
    seen_on bus (input_later bus k input) ≡ seen_on bus input →
    map (seen_on bus) (map (input_later bus k) (take (i + 1) inputs)) ≡ map (seen_on bus) (take (i + 1) inputs)
steady_more bus k i inputs input below is h e =
    let more : take (i + 1) inputs ≡ take i inputs ++ input ∷ [] =
    take_more inputs i input below ∙ ap (λ x. take i inputs ++ x ∷ []) (sym is) in
    subst (λ (l : List BitInput). map (seen_on bus) (map (input_later bus k) l) ≡ map (seen_on bus) l) (sym more)
    (ap (map (seen_on bus)) (map-append (input_later bus k) (take i inputs) (input ∷ []))
    ∙ (map-append (seen_on bus) (map (input_later bus k) (take i inputs)) (input_later bus k input ∷ [])
    ∙ (ap (λ l. l ++ seen_on bus (input_later bus k input) ∷ []) h
    ∙ (ap (λ v. map (seen_on bus) (take i inputs) ++ v ∷ []) e
    ∙ sym (map-append (seen_on bus) (take i inputs) (input ∷ []))))))

pub steady_all : (bus : Bus) (k i : ℕ) (inputs : List BitInput) → length inputs ≤ i →
    map (seen_on bus) (map (input_later bus k) (take i inputs)) ≡ map (seen_on bus) (take i inputs) →
    map (seen_on bus) (map (input_later bus k) inputs) ≡ map (seen_on bus) inputs
steady_all bus k i inputs far h =
    subst (λ (l : List BitInput). map (seen_on bus) (map (input_later bus k) l) ≡ map (seen_on bus) l) (take_all i inputs far) h
