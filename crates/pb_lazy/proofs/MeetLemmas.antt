-- What a tick leaves of a lazy block.
use Rattle.std.proofs.Common.{◌≡◌, ℕ, ◌+◌, ◌-◌, ◌<◌, ◌^◌, ◌==◌, Bool, true, false, List, [], ◌∷◌, map, refl, sym, ap, subst, ◌∙◌, arith, inl, inr, Some, None}
use Rattle.std.specs.List.{AllByRecursion}
use Rattle.std.proofs.lemmas.Bool.{cases_lt}
use Rattle.pb_names.specs.declared.bit_bus.TheConstants as bit_bus
use Rattle.pb_names.specs.declared.pcap.TheConstants as pcap
use Rattle.pb_buses.specs.declared.Bus.{Bus}
use Rattle.pb_buses.specs.declared.Inputs.{Inputs}
use Rattle.pb_buses.specs.declared.Emit.{Emit}
use Rattle.pb_buses.specs.Rules.{after, IsCalm, AreCalm}
use Rattle.pb_buses.specs.Buses.{selected}
use Rattle.pb_buses.specs.Delay.{BitInput, seen, shifted, latest}
use Rattle.pb_buses.proofs.NextChangeLemmas.{latest_is}
use Rattle.pb_model.specs.declared.Block.{Block}
use Rattle.pb_model.specs.declared.units.Unit.{Unit as AnyUnit}
use Rattle.pb_model.specs.Units.{rules, place_of}
use Rattle.pb_model.specs.Parts.{IsNarrow}
use Rattle.pb_model.specs.Tick.{sees_all, seen_on, inputs_of, input_after, emitted_by, or_before}
use Rattle.pb_still.specs.Eventful.{IsIdle}
use Rattle.pb_still.specs.Coasting.{input_later}
use Rattle.pb_still.proofs.StillLemmas.{place_after, map-two, input_twice}
use Rattle.pb_lazy.specs.declared.lazies.Lazy.{Lazy}
use Rattle.pb_lazy.specs.Lazy.{lately, lately_seen, unit_at, caught_up, saw, settled, pushed_lazy, stepped_lazy, HasZero, IsUnwired, IsLoose, IsDue, IsSound, IsQuiet, IsTurn, IsPushed, IsStepped, IsMet}
use Rattle.pb_lazy.proofs.LazyLemmas.{sees_kept, coasts_on, stays_sound, unit_later, calm_from, calm_up_to, kind_stays}
use Rattle.pb_lazy.proofs.CallLemmas.{zero_positions}

-- Busy or idle.

some_same : {X : Type 0} (a b : X) → Some a ≡ Some b → a ≡ b
some_same a b e = cc

pub not_idle : (bus : Bus) (tick : ℕ) (first : Bool) (lazy : Lazy) → IsSound tick first lazy → lazy.outdated ≡ false → tick < 2 ^ 62 →
    ¬ ((first ≡ false) × (tick < lazy.due) × (inputs_of bus (caught_up tick lazy) ≡ lazy.kept)) →
    ¬ (IsIdle bus tick (saw first lazy) (caught_up tick lazy))
not_idle bus tick true lazy sound known small goes idle = none_some idle.same
  where
    none_some : {X : Type 0} {x : X} → None ≡ Some x → ⊥
    none_some e = cc
not_idle bus tick false lazy sound known small goes idle =
    let inputs : Inputs = inputs_of bus (caught_up tick lazy) in
    let same : lazy.kept ≡ inputs = some_same lazy.kept inputs idle.same in
    let due : IsDue tick lazy = sound.deadline refl known in
    elim (cases_lt tick lazy.due) [
      | inl before ↦ goes (refl, before, sym same)
      | inr reached ↦
          let at : tick ≡ lazy.due = omega (arith, due.from_now) in
          let calm : IsCalm rules lazy.kept tick (unit_at tick lazy) =
          subst (λ (i : Inputs). IsCalm rules i tick (unit_at tick lazy)) (sym same) idle.calm in
          due.ends (omega arith) (subst (λ (t : ℕ). IsCalm rules lazy.kept t (unit_at t lazy)) at calm)
    ]

pub is_idle : (bus : Bus) (tick : ℕ) (lazy : Lazy) → IsSound tick false lazy → lazy.outdated ≡ false → tick < lazy.due →
    inputs_of bus (caught_up tick lazy) ≡ lazy.kept → IsIdle bus tick (saw false lazy) (caught_up tick lazy)
is_idle bus tick lazy sound known before same =
    record {
      calm =
          subst (λ (i : Inputs). IsCalm rules i tick (unit_at tick lazy)) (sym same)
          (one (calm_from tick 1 lazy sound.own (sound.deadline refl known) (omega arith)));
      same = ap (λ (i : Inputs). Some i) (sym same);
    }
  where
    one : AreCalm rules lazy.kept tick 1 (unit_at tick lazy) → IsCalm rules lazy.kept tick (unit_at tick lazy)
    one calm =
        let e : tick + 0 ≡ tick = omega arith in
        subst (λ (t : ℕ). IsCalm rules lazy.kept t (unit_at tick lazy)) e (calm 0 (omega arith))

-- A quiet block.

pub quiet_is_met : (bus : Bus) (tick : ℕ) (lazy : Lazy) → IsSound tick false lazy → IsQuiet bus tick lazy →
    IsMet bus tick lazy lazy × IsIdle bus tick (saw false lazy) (caught_up tick lazy)
quiet_is_met bus tick lazy sound quiet =
    let same : inputs_of bus (caught_up tick lazy) ≡ lazy.kept = sees_kept bus tick false lazy quiet.unmoved sound quiet.turn in
    let idle : IsIdle bus tick (saw false lazy) (caught_up tick lazy) = is_idle bus tick lazy sound quiet.known quiet.due same in (
      record {
        next = coasts_on bus tick 1 lazy quiet.unmoved sound quiet.known (omega (arith, quiet.due)) (omega (arith, quiet.turn)) quiet.turn;
        kept = sym same;
        sound = stays_sound bus tick 1 lazy quiet.unmoved sound quiet.known (omega (arith, quiet.due)) (omega (arith, quiet.turn)) quiet.turn;
        known = quiet.known;
      },
      idle,
    )

-- Delay lines.

line_of_tick : (bus : Bus) (input : BitInput) → lately 0 (input_after bus input) ≡ input_after bus input
line_of_tick bus input =
    ap (λ (v : Bool). shifted (input_after bus input) v 0) (latest_is input (selected bus input.select) 1 (omega arith))
    ∙ input_twice bus 1 0 input

lines_of_tick : (bus : Bus) (inputs : List BitInput) → map (lately 0) (map (input_after bus) inputs) ≡ map (input_after bus) inputs
lines_of_tick bus inputs = map-two (lately 0) (input_after bus) (input_after bus) (line_of_tick bus) inputs

seen_of_tick : (bus : Bus) (k : ℕ) (input : BitInput) → lately_seen k (input_after bus input) ≡ seen_on bus (input_later bus (k + 1) input)
seen_of_tick bus k input =
    let v : Bool = selected bus input.select in
    let e : 1 + k ≡ k + 1 = omega arith in
    ap (λ (w : Bool). seen (shifted (input_after bus input) w k) w) (latest_is input v 1 (omega arith))
    ∙ ap (λ (i : BitInput). seen i v) (input_twice bus 1 k input ∙ ap (λ (n : ℕ). input_later bus n input) e)

-- the lines after a tick, as they stand one tick later
pub pushed_bits : (bus : Bus) (tick turn : ℕ) (wired : Bool) (lazy : Lazy) →
    map (lately (tick + 1 - (pushed_lazy bus tick turn wired lazy).at)) (pushed_lazy bus tick turn wired lazy).block.bits
    ≡ map (input_after bus) (caught_up tick lazy).bits
pushed_bits bus tick turn wired lazy =
    let e : tick + 1 - (tick + 1) ≡ 0 = omega arith in
    ap (λ (n : ℕ). map (lately n) (map (input_after bus) (map (lately (tick - lazy.at)) lazy.block.bits))) e
    ∙ lines_of_tick bus (map (lately (tick - lazy.at)) lazy.block.bits)

pub pushed_steady : (bus : Bus) (tick turn : ℕ) (wired : Bool) (lazy : Lazy) → IsTurn bus tick (settled tick lazy).block turn → (k : ℕ) → tick + 1 + k < turn →
    map (lately_seen k) (pushed_lazy bus tick turn wired lazy).block.bits ≡ (inputs_of bus (caught_up tick lazy)).bits
pushed_steady bus tick turn wired lazy turns k below =
    let inputs : List BitInput = map (lately (tick - lazy.at)) lazy.block.bits in
    let inside : tick + (k + 1) < turn = omega arith in
    map-two (lately_seen k) (input_after bus) (λ (input : BitInput). seen_on bus (input_later bus (k + 1) input)) (seen_of_tick bus k) inputs
    ∙ (sym (map-two (seen_on bus) (input_later bus (k + 1)) (λ (input : BitInput). seen_on bus (input_later bus (k + 1) input)) (λ input. refl) inputs)
    ∙ turns.steady (k + 1) inside)

-- none of its inputs is wired
zero_lines : (bus : Bus) → HasZero bus → (n : ℕ) (inputs : List BitInput) →
    AllByRecursion (λ (input : BitInput). input.select ≡ bit_bus.ZERO) inputs →
    AllByRecursion (λ (input : BitInput). input.select ≡ bit_bus.ZERO) (map (input_after bus) (map (lately n) inputs))
    × AllByRecursion (λ (input : BitInput). latest input ≡ false) (map (input_after bus) (map (lately n) inputs))
zero_lines bus zero n [] h = (tt, tt)
zero_lines bus zero n (x ∷ xs) h =
    let rest = zero_lines bus zero n xs h.1 in (
      (h.0, rest.0),
      (latest_is (lately n x) (selected bus x.select) 1 (omega arith) ∙ (ap (selected bus) h.0 ∙ zero.bit), rest.1),
    )

module _ (bus : Bus) (tick : ℕ) (old : Lazy) (zero : HasZero bus) (unwired : IsUnwired old.block) where
  pub stays_loose : (unit : AnyUnit) → (place_of unit == pcap.BLOCK) ≡ false →
      IsLoose (record {
        unit = unit;
        bits = map (input_after bus) (map (lately (tick - old.at)) old.block.bits);
        positions = old.block.positions;
      }) (inputs_of bus (caught_up tick old))
  stays_loose unit kind =
      let lines = zero_lines bus zero (tick - old.at) old.block.bits unwired.bits in
      record {
        unwired = record { kind = kind; bits = lines.0; positions = unwired.positions };
        lines = lines.1;
        zeros = zero_positions bus zero old.block.positions unwired.positions;
      }

-- A block that is idle, though its delay lines move.

module _ (bus : Bus) (tick : ℕ) (old new : Lazy) (sound : IsSound tick false old) (known : old.outdated ≡ false) (before : tick < old.due)
    (same : inputs_of bus (caught_up tick old) ≡ old.kept) (pushed : IsPushed bus tick old new) where
  idle_met_by : (turn : ℕ) (wired : Bool) → IsTurn bus tick (settled tick old).block turn → (wired ≡ false → IsUnwired old.block) →
      IsMet bus tick old (pushed_lazy bus tick turn wired old)
  idle_met_by turn wired turns unwired =
      let later : Lazy = pushed_lazy bus tick turn wired old in
      let due : IsDue tick old = sound.deadline refl known in
      record {
        next =
            ap (λ (u : AnyUnit). record { unit = u; bits = map (lately (tick + 1 - later.at)) later.block.bits; positions = old.block.positions })
            (unit_later tick 1 old sound.own ∙ ap (λ (i : Inputs). rules.next (unit_at tick old) i tick) (sym same))
            ∙ ap (λ (l : List BitInput). record {
              unit = rules.next (unit_at tick old) (inputs_of bus (caught_up tick old)) tick;
              bits = l;
              positions = old.block.positions;
            }) (pushed_bits bus tick turn wired old);
        kept = sym same;
        sound =
            record {
              own = omega (arith, sound.own);
              at = omega arith;
              calm = calm_up_to tick (tick + 1) old sound.own (omega arith) due (omega arith);
              steady = λ k below. pushed_steady bus tick turn wired old turns k below ∙ ap (λ (i : Inputs). i.bits) same;
              narrow = sound.narrow;
              loose = λ e.
                  subst (λ (i : Inputs). IsLoose later.block i) same
                  (stays_loose bus tick old pushed.zero (unwired e) old.block.unit (unwired e).kind);
              deadline = λ a b. record { from_now = omega arith; within = due.within; calm = due.calm; ends = due.ends };
            };
        known = known;
      }

  pub idle_met : IsMet bus tick old new
  idle_met = subst (λ (l : Lazy). IsMet bus tick old l) (sym pushed.left) (idle_met_by new.turn new.wired pushed.turns pushed.unwired)

-- A block that makes a step.

narrow_sight : (bus : Bus) (block : Block) → sees_all block ≡ false → IsNarrow (inputs_of bus block)
narrow_sight bus block e = rw e (record { words = refl; bus = refl })

module _ (bus : Bus) (tick : ℕ) (first : Bool) (old mid new : Lazy) (inputs : Inputs) (sound : IsSound tick first old)
    (pushed : IsPushed bus tick old mid) (sees : inputs ≡ inputs_of bus (caught_up tick old)) (stepped : IsStepped inputs tick mid new) where
  step_met_by : (turn due : ℕ) (wired : Bool) → IsTurn bus tick (settled tick old).block turn → (wired ≡ false → IsUnwired old.block) →
      IsDue (tick + 1) (stepped_lazy (inputs_of bus (caught_up tick old)) tick due (pushed_lazy bus tick turn wired old)) →
      IsMet bus tick old (stepped_lazy (inputs_of bus (caught_up tick old)) tick due (pushed_lazy bus tick turn wired old))
  step_met_by turn due wired turns unwired deadline =
      let seen : Inputs = inputs_of bus (caught_up tick old) in
      let unit : AnyUnit = rules.next (unit_at tick old) seen tick in
      let e : tick + 1 - (tick + 1) ≡ 0 = omega arith in
      record {
        next =
            ap (λ (n : ℕ). record {
              unit = after rules seen (tick + 1) n unit;
              bits = map (lately (tick + 1 - (tick + 1))) (map (input_after bus) (map (lately (tick - old.at)) old.block.bits));
              positions = old.block.positions;
            }) e
            ∙ ap (λ (l : List BitInput). record { unit = unit; bits = l; positions = old.block.positions }) (pushed_bits bus tick turn wired old);
        kept = refl;
        sound =
            record {
              own = omega arith;
              at = omega arith;
              calm = λ k below. absurd (omega arith);
              steady = λ k below. pushed_steady bus tick turn wired old turns k below;
              narrow = λ h. narrow_sight bus (caught_up tick old)
                  (ap (λ (k : ℕ). k == pcap.BLOCK) (sym (place_after 1 seen tick (unit_at tick old))) ∙ h);
              loose = λ e.
                  stays_loose bus tick old pushed.zero (unwired e) unit
                  (ap (λ (k : ℕ). k == pcap.BLOCK) (place_after 1 seen tick (unit_at tick old) ∙ kind_stays tick old) ∙ (unwired e).kind);
              deadline = λ a b. deadline;
            };
        known = refl;
      }

  pub step_met : IsMet bus tick old new
  step_met =
      let seen : Inputs = inputs_of bus (caught_up tick old) in
      let here : new ≡ stepped_lazy seen tick new.due (pushed_lazy bus tick mid.turn mid.wired old) =
      stepped.left
      ∙ (ap (λ (i : Inputs). stepped_lazy i tick new.due mid) sees ∙ ap (stepped_lazy seen tick new.due) pushed.left) in
      subst (λ (l : Lazy). IsMet bus tick old l) (sym here)
      (step_met_by mid.turn new.due mid.wired pushed.turns pushed.unwired (subst (λ (l : Lazy). IsDue (tick + 1) l) here stepped.due))

  -- what it emits
  pub step_emits : (before emit : Emit) → emit ≡ or_before before (rules.emitted (unit_at tick mid) inputs tick) →
      emit ≡ or_before before (emitted_by bus tick (caught_up tick old))
  step_emits before emit e =
      e
      ∙ (ap (λ (i : Inputs). or_before before (rules.emitted (unit_at tick mid) i tick)) sees
      ∙ ap (λ (l : Lazy). or_before before (rules.emitted (unit_at tick l) (inputs_of bus (caught_up tick old)) tick)) pushed.left)
