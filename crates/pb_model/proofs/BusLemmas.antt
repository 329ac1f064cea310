-- What a run of puts does to the buses.
use Rattle.std.proofs.Common.{◌≡◌, ◌≢◌, ℕ, ◌+◌, ◌<◌, ◌≤◌, ◌⊎◌, Bool, true, false, ℤ, pos, List, [], ◌∷◌, ◌++◌, length, get_or, set, take, drop, refl, sym, ap, subst, ◌∙◌, arith, append_assoc, if◌then◌else◌}
use Rattle.std.specs.Ordering.{int_eq}
use Rattle.std.proofs.Math.Bool.{beq}
use Rattle.std.specs.Cmp.{booleans_Decides}
use Rattle.std.proofs.lemmas.Bool.Decides.{Decides-int_eq}
use Rattle.std.proofs.lemmas.List.{set-get_or, get_or-set_other, length-set, append-nil, take-append-drop, take_more_set, drop-set-lt}
use Rattle.pb_buses.specs.declared.Bus.{Bus}
use Rattle.pb_buses.specs.declared.Buses.{Buses}
use Rattle.pb_buses.specs.Buses.{bit, position, with_bit, with_position, AgreesWithPast, IsUnchangedAt}
use Rattle.pb_buses.proofs.ChangeLemmas.{bit_agrees, position_agrees}
use Rattle.pb_model.specs.Kept.{with_bits, with_positions}

-- A list with values in place of those from i on.

pub spliced : {X : Type 0} → ℕ → List X → List X → List X
spliced i values xs = take i xs ++ values ++ drop (i + length values) xs

pub spliced-is : {X : Type 0} (i : ℕ) (values xs : List X) → spliced i values xs ≡ take i xs ++ values ++ drop (i + length values) xs
unfolding spliced
spliced-is i values xs = refl

pub spliced-none : {X : Type 0} (i : ℕ) (xs : List X) → spliced i [] xs ≡ xs
unfolding spliced
spliced-none i xs =
    let e : i + 0 ≡ i = omega arith in
    ap (λ l. l ++ drop (i + 0) xs) (append-nil (take i xs))
    ∙ (ap (λ n. take i xs ++ drop n xs) e ∙ take-append-drop i xs)

pub spliced-one : {X : Type 0} (i : ℕ) (v : X) (values xs : List X) → i < length xs →
    spliced (i + 1) values (set xs i v) ≡ spliced i (v ∷ values) xs
unfolding spliced
spliced-one i v values xs h =
    let e : i + 1 + length values ≡ i + length (v ∷ values) = omega arith in
    let beyond : i < i + 1 + length values = omega arith in
    ap (λ l. l ++ values ++ drop (i + 1 + length values) (set xs i v)) (take_more_set xs i v h)
    ∙ (ap (λ l. (take i xs ++ v ∷ []) ++ values ++ l) (drop-set-lt (i + 1 + length values) xs i v beyond)
    ∙ (ap (λ n. (take i xs ++ v ∷ []) ++ values ++ drop n xs) e
    ∙ ap (λ l. l ++ drop (i + length (v ∷ values)) xs) (append_assoc (take i xs) (v ∷ []) values)))

-- One put.

bit_by : (b : Bool) (buses : Buses) (i : ℕ) (v : Bool) (changed : List ℕ) → beq (bit buses.bus i) v ≡ b →
    (if b then buses
    else record { bus = record { bits = set buses.bus.bits i v; positions = buses.bus.positions }; changed = changed }).bus
    ≡ record { bits = set buses.bus.bits i v; positions = buses.bus.positions }
bit_by true buses i v changed e =
    let is : bit buses.bus i ≡ v = (booleans_Decides (bit buses.bus i) v).0 e in
    ap (λ l. record { bits = l; positions = buses.bus.positions })
    (sym (set-get_or buses.bus.bits i false) ∙ ap (set buses.bus.bits i) is)
bit_by false buses i v changed e = refl

pub bit-bus : (buses : Buses) (i : ℕ) (v : Bool) (tick : ℕ) →
    (with_bit buses i v tick).bus ≡ record { bits = set buses.bus.bits i v; positions = buses.bus.positions }
bit-bus buses i v tick = bit_by (beq (bit buses.bus i) v) buses i v (set buses.changed i tick) refl

position_by : (b : Bool) (buses : Buses) (i : ℕ) (v : ℤ) (changed : List ℕ) → int_eq (position buses.bus i) v ≡ b →
    (if b then buses
    else record { bus = record { bits = buses.bus.bits; positions = set buses.bus.positions i v }; changed = changed }).bus
    ≡ record { bits = buses.bus.bits; positions = set buses.bus.positions i v }
position_by true buses i v changed e =
    let is : position buses.bus i ≡ v = (Decides-int_eq (position buses.bus i) v).0 e in
    ap (λ l. record { bits = buses.bus.bits; positions = l })
    (sym (set-get_or buses.bus.positions i (pos 0)) ∙ ap (set buses.bus.positions i) is)
position_by false buses i v changed e = refl

pub position-bus : (buses : Buses) (i : ℕ) (v : ℤ) (tick : ℕ) →
    (with_position buses i v tick).bus ≡ record { bits = buses.bus.bits; positions = set buses.bus.positions i v }
position-bus buses i v tick = position_by (int_eq (position buses.bus i) v) buses i v (set buses.changed (128 + i) tick) refl

-- A run of puts.

abbrev with_run : Bus → ℕ → List Bool → Bus
with_run bus entry values = record { bits = spliced entry values bus.bits; positions = bus.positions }

abbrev with_position_run : Bus → ℕ → List ℤ → Bus
with_position_run bus entry values = record { bits = bus.bits; positions = spliced entry values bus.positions }

pub bits-bus : (entry : ℕ) (values : List Bool) (tick : ℕ) (buses : Buses) → entry + length values ≤ length buses.bus.bits →
    (with_bits entry values tick buses).bus ≡ record { bits = spliced entry values buses.bus.bits; positions = buses.bus.positions }
bits-bus entry [] tick buses h = ap (λ l. record { bits = l; positions = buses.bus.positions }) (sym (spliced-none entry buses.bus.bits))
bits-bus entry (v ∷ values) tick buses h =
    let put : Bus = record { bits = set buses.bus.bits entry v; positions = buses.bus.positions } in
    let long : length (with_bit buses entry v tick).bus.bits ≡ length buses.bus.bits =
    ap (λ (b : Bus). length b.bits) (bit-bus buses entry v tick) ∙ length-set buses.bus.bits entry v in
    bits-bus (entry + 1) values tick (with_bit buses entry v tick) (omega arith)
    ∙ (ap (λ b. with_run b (entry + 1) values) (bit-bus buses entry v tick)
    ∙ ap (λ l. record { bits = l; positions = buses.bus.positions }) (spliced-one entry v values buses.bus.bits (omega arith)))

pub positions-bus : (entry : ℕ) (values : List ℤ) (tick : ℕ) (buses : Buses) → entry + length values ≤ length buses.bus.positions →
    (with_positions entry values tick buses).bus ≡ record { bits = buses.bus.bits; positions = spliced entry values buses.bus.positions }
positions-bus entry [] tick buses h = ap (λ l. record { bits = buses.bus.bits; positions = l }) (sym (spliced-none entry buses.bus.positions))
positions-bus entry (v ∷ values) tick buses h =
    let long : length (with_position buses entry v tick).bus.positions ≡ length buses.bus.positions =
    ap (λ (b : Bus). length b.positions) (position-bus buses entry v tick) ∙ length-set buses.bus.positions entry v in
    positions-bus (entry + 1) values tick (with_position buses entry v tick) (omega arith)
    ∙ (ap (λ b. with_position_run b (entry + 1) values) (position-bus buses entry v tick)
    ∙ ap (λ l. record { bits = buses.bus.bits; positions = l }) (spliced-one entry v values buses.bus.positions (omega arith)))

-- The ticks of the last changes.

-- no entry from this one on has changed at this tick
abbrev pub AreUnchanged : Buses → ℕ → ℕ → Type 0
AreUnchanged buses from tick = (entry : ℕ) → from ≤ entry → entry < 160 → IsUnchangedAt buses entry tick

kept_by : (b : Bool) (buses : Buses) (bus : Bus) (i entry tick : ℕ) → entry ≢ i →
    get_or (if b then buses else record { bus = bus; changed = set buses.changed i tick }).changed entry 0
    ≡ get_or buses.changed entry 0
kept_by true buses bus i entry tick ne = refl
kept_by false buses bus i entry tick ne = get_or-set_other buses.changed i entry tick 0 ne

pub other_bit : (buses : Buses) (i : ℕ) (v : Bool) (tick entry : ℕ) → entry ≢ i → IsUnchangedAt buses entry tick →
    IsUnchangedAt (with_bit buses i v tick) entry tick
other_bit buses i v tick entry ne h =
    subst (λ (n : ℕ). (n < tick) ⊎ (tick ≡ 0))
    (sym (kept_by (beq (bit buses.bus i) v) buses (record { bits = set buses.bus.bits i v; positions = buses.bus.positions }) i entry tick ne)) h

pub other_position : (buses : Buses) (i : ℕ) (v : ℤ) (tick entry : ℕ) → entry ≢ 128 + i → IsUnchangedAt buses entry tick →
    IsUnchangedAt (with_position buses i v tick) entry tick
other_position buses i v tick entry ne h =
    subst (λ (n : ℕ). (n < tick) ⊎ (tick ≡ 0))
    (sym (kept_by (int_eq (position buses.bus i) v) buses (record { bits = buses.bus.bits; positions = set buses.bus.positions i v }) (128 + i) entry tick ne)) h

pub bits_agree : (entry : ℕ) (values : List Bool) (buses : Buses) (past : List Bus) →
    AgreesWithPast buses past → AreUnchanged buses entry (length past) → entry + length values ≤ 128 →
    AgreesWithPast (with_bits entry values (length past) buses) past
    × AreUnchanged (with_bits entry values (length past) buses) (entry + length values) (length past)
bits_agree entry [] buses past h u small = (h, λ e from below. u e (omega arith) below)
bits_agree entry (v ∷ values) buses past h u small =
    let rest : AgreesWithPast (with_bits (entry + 1) values (length past) (with_bit buses entry v (length past))) past
    × AreUnchanged (with_bits (entry + 1) values (length past) (with_bit buses entry v (length past))) (entry + 1 + length values) (length past) =
    bits_agree (entry + 1) values (with_bit buses entry v (length past)) past
    (bit_agrees buses past entry v h (omega arith) (u entry (omega arith) (omega arith)))
    (λ e from below. other_bit buses entry v (length past) e (omega arith) (u e (omega arith) below))
    (omega arith) in
    (rest.0, λ e from below. rest.1 e (omega arith) below)

pub positions_agree : (entry : ℕ) (values : List ℤ) (buses : Buses) (past : List Bus) →
    AgreesWithPast buses past → AreUnchanged buses (128 + entry) (length past) → entry + length values ≤ 32 →
    AgreesWithPast (with_positions entry values (length past) buses) past
positions_agree entry [] buses past h u small = h
positions_agree entry (v ∷ values) buses past h u small =
    positions_agree (entry + 1) values (with_position buses entry v (length past)) past
    (position_agrees buses past entry v h (omega arith) (u (128 + entry) (omega arith) (omega arith)))
    (λ e from below. other_position buses entry v (length past) e (omega arith) (u e (omega arith) below))
    (omega arith)
