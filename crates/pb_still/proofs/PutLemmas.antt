-- The values of the stimulus on the buses.
use Rattle.std.proofs.Common.{◌≡◌, ℕ, ◌+◌, ◌<◌, ◌≤◌, Bool, ℤ, List, [], ◌∷◌, ◌++◌, length, take, drop, refl, sym, ap, subst, inl, inr, ◌∙◌, arith}
use Rattle.pb_buses.specs.declared.Bus.{Bus}
use Rattle.pb_buses.specs.declared.Buses.{Buses}
use Rattle.pb_buses.specs.Buses.{with_bit, with_position, AgreesWithPast, IsUnchangedAt}
use Rattle.pb_buses.proofs.ChangeLemmas.{bit_agrees, position_agrees}
use Rattle.pb_stim.specs.declared.Row.{Row}
use Rattle.pb_model.specs.Tick.{Standing, Box, IsInputEntry}
use Rattle.pb_model.specs.Kept.{Kept, Agrees, with_bits, with_positions}
use Rattle.pb_model.proofs.BusLemmas.{spliced, spliced-is, bits-bus, positions-bus, other_bit, other_position}
use Rattle.pb_still.specs.Driving.{levels_at, encoders_at, driven, stimulated}
use Rattle.pb_still.specs.Current.{values_at, with_values}

-- The ticks of the last changes.

-- no entry of these has changed at this tick
abbrev AreUnchanged : Buses → ℕ → ℕ → ℕ → Type 0
AreUnchanged buses from to tick = (entry : ℕ) → from ≤ entry → entry < to → IsUnchangedAt buses entry tick

levels_agree : (entry : ℕ) (values : List Bool) (buses : Buses) (past : List Bus) →
    AgreesWithPast buses past → AreUnchanged buses entry (entry + length values) (length past) → entry + length values ≤ 128 →
    AgreesWithPast (with_bits entry values (length past) buses) past
levels_agree entry [] buses past h u small = h
levels_agree entry (v ∷ values) buses past h u small =
    levels_agree (entry + 1) values (with_bit buses entry v (length past)) past
    (bit_agrees buses past entry v h (omega arith) (u entry (omega arith) (omega arith)))
    (λ e from below. other_bit buses entry v (length past) e (omega arith) (u e (omega arith) (omega arith)))
    (omega arith)

-- the positions haven't changed
levels_leave : (entry : ℕ) (values : List Bool) (tick : ℕ) (buses : Buses) (from to : ℕ) → entry + length values ≤ from →
    AreUnchanged buses from to tick → AreUnchanged (with_bits entry values tick buses) from to tick
levels_leave entry [] tick buses from to beyond u = u
levels_leave entry (v ∷ values) tick buses from to beyond u =
    levels_leave (entry + 1) values tick (with_bit buses entry v tick) from to (omega arith)
    (λ e low high. other_bit buses entry v tick e (omega arith) (u e low high))

encoders_agree : (entry : ℕ) (values : List ℤ) (buses : Buses) (past : List Bus) →
    AgreesWithPast buses past → AreUnchanged buses (128 + entry) (128 + entry + length values) (length past) → entry + length values ≤ 32 →
    AgreesWithPast (with_positions entry values (length past) buses) past
encoders_agree entry [] buses past h u small = h
encoders_agree entry (v ∷ values) buses past h u small =
    encoders_agree (entry + 1) values (with_position buses entry v (length past)) past
    (position_agrees buses past entry v h (omega arith) (u (128 + entry) (omega arith) (omega arith)))
    (λ e from below. other_position buses entry v (length past) e (omega arith) (u e (omega arith) (omega arith)))
    (omega arith)

-- What stands on the buses.

none_taken : {X : Type 0} (xs : List X) → take 0 xs ≡ []
none_taken [] = refl
none_taken (x ∷ xs) = refl

at_front : {X : Type 0} (values xs : List X) (n : ℕ) → length values ≡ n → spliced 0 values xs ≡ values ++ drop n xs
at_front values xs n e =
    let many : 0 + length values ≡ n = omega (arith, e) in
    spliced-is 0 values xs
    ∙ (ap (λ front. front ++ (values ++ drop (0 + length values) xs)) (none_taken xs)
    ∙ ap (λ k. values ++ drop k xs) many)

-- the buses where the levels and the positions are put
abbrev put_on : List Bool → List ℤ → ℕ → Buses → Buses
put_on levels positions tick buses = with_positions 0 positions tick (with_bits 0 levels tick buses)

put_bus : (levels : List Bool) (positions : List ℤ) (tick : ℕ) (buses : Buses) → length levels ≡ 6 → length positions ≡ 4 →
    length buses.bus.bits ≡ 128 → length buses.bus.positions ≡ 32 →
    (put_on levels positions tick buses).bus
    ≡ record { bits = levels ++ drop 6 buses.bus.bits; positions = positions ++ drop 4 buses.bus.positions }
put_bus levels positions tick buses six four bits places =
    let mid : Buses = with_bits 0 levels tick buses in
    let first : mid.bus ≡ record { bits = spliced 0 levels buses.bus.bits; positions = buses.bus.positions } =
    bits-bus 0 levels tick buses (omega arith) in
    let many : length mid.bus.positions ≡ 32 = ap (λ (b : Bus). length b.positions) first ∙ places in
    positions-bus 0 positions tick mid (omega arith)
    ∙ (ap (λ (b : Bus). record { bits = b.bits; positions = spliced 0 positions b.positions }) first
    ∙ (ap (λ l. record { bits = l; positions = spliced 0 positions buses.bus.positions }) (at_front levels buses.bus.bits 6 six)
    ∙ ap (λ l. record { bits = levels ++ drop 6 buses.bus.bits; positions = l }) (at_front positions buses.bus.positions 4 four)))

-- The box where the values of the rows are put agrees.

put_agrees : (levels : List Bool) (positions : List ℤ) (kept : Kept) (box : Box) → length levels ≡ 6 → length positions ≡ 4 → Agrees kept box →
    ((entry : ℕ) → IsInputEntry entry → IsUnchangedAt kept.buses entry kept.tick) →
    AgreesWithPast (put_on levels positions kept.tick kept.buses) box.past
put_agrees levels positions kept box six four h once =
    let buses : Buses = kept.buses in
    let at : length box.past ≡ kept.tick = h.ticks in
    let low : AreUnchanged buses 0 (0 + length levels) (length box.past) =
    λ e from below. subst (λ n. IsUnchangedAt buses e n) (sym at) (once e (inl (omega arith))) in
    let high : AreUnchanged buses 128 (128 + 0 + length positions) (length box.past) =
    λ e from below. subst (λ n. IsUnchangedAt buses e n) (sym at) (once e (inr (omega arith, omega arith))) in
    subst (λ n. AgreesWithPast (put_on levels positions n buses) box.past) at
    (encoders_agree 0 positions (with_bits 0 levels (length box.past) buses) box.past
    (levels_agree 0 levels buses box.past h.changes low (omega arith))
    (levels_leave 0 levels (length box.past) buses 128 (128 + 0 + length positions) (omega arith) high)
    (omega arith))

pub values_agree : (rows : List Row) (values : List ℤ) (kept : Kept) (box : Box) → values ≡ values_at rows kept.tick → Agrees kept box →
    ((entry : ℕ) → IsInputEntry entry → IsUnchangedAt kept.buses entry kept.tick) →
    Agrees (with_values values kept) (stimulated rows box)
values_agree rows values kept box e h once =
    let levels : List Bool = levels_at rows kept.tick in
    let positions : List ℤ = encoders_at rows kept.tick in
    let same : with_values values kept ≡ with_values (values_at rows kept.tick) kept = ap (λ v. with_values v kept) e in
    subst (λ k. Agrees k (stimulated rows box)) (sym same)
    (record {
      stands =
          ap (λ (b : Bus). record { tick = kept.tick; bus = b; settings = kept.settings; blocks = kept.blocks })
          (put_bus levels positions kept.tick kept.buses refl refl h.changes.bits h.changes.positions)
          ∙ ap (λ (s : Standing). record { tick = s.tick; bus = driven rows s.tick s.bus; settings = s.settings; blocks = s.blocks }) h.stands;
      ticks = h.ticks;
      changes = put_agrees levels positions kept box refl refl h once;
    })
