-- The ticks of the last changes, and the states of the bus.
use Rattle.std.proofs.Common.{◌≡◌, ◌≢◌, ℕ, zero, suc, ◌+◌, ◌-◌, ◌<◌, ◌≤◌, ◌==◌, ◌⊎◌, inl, inr, ℤ, pos, Bool, true, false, List, [], ◌∷◌, ◌++◌, replicate, length, set, get_or, refl, ap, sym, subst, ◌∙◌, arith, if◌then◌else◌}
use Rattle.std.specs.Ordering.{int_eq}
use Rattle.std.proofs.Math.Bool.{beq}
use Rattle.std.specs.Cmp.{booleans_Decides}
use Rattle.std.proofs.lemmas.Bool.Decides.{Decides-int_eq, Decides-eqb}
use Rattle.std.proofs.lemmas.Bool.{lt-ltb, le-ltb, ltb-false}
use Rattle.std.proofs.lemmas.List.{get_or-set_same, get_or-set_other, get_or-replicate, length-set}
use Rattle.std.proofs.Math.Dec.{ltb}
use Rattle.pb_buses.specs.declared.entries.Bus.{Bus}
use Rattle.pb_buses.specs.declared.entries.Buses.{Buses}
use Rattle.pb_buses.specs.Buses.{bit, position, value, last_change, with_bit, with_position, opening_buses, AgreesWithPast, IsUnchangedAt}

not_true : (b : Bool) → (b ≡ true → ⊥) → b ≡ false
not_true true h = absurd (h refl)
not_true false h = refl

differs : (x y : ℤ) → x ≢ y → int_eq x y ≡ false
differs x y h = not_true (int_eq x y) (λ e. h ((Decides-int_eq x y).0 e))

-- The value of an entry.

value_bit : (bus : Bus) (i : ℕ) → i < 128 → value bus i ≡ (if bit bus i then pos 1 else pos 0)
unfolding value
value_bit bus i h = rw (lt-ltb i 128 h) refl

value_position : (bus : Bus) (i : ℕ) → value bus (128 + i) ≡ position bus i
unfolding value
value_position bus i =
    let beyond : 128 ≤ 128 + i = omega arith in
    let e : 128 + i - 128 ≡ i = omega arith in
    rw (le-ltb (128 + i) 128 beyond, e) refl

other_bit :
    (bus : Bus) (i entry : ℕ) (v : Bool) → entry ≢ i →
    value (record { bits = set bus.bits i v; positions = bus.positions }) entry ≡ value bus entry
unfolding value
other_bit bus i entry v ne = rw (get_or-set_other bus.bits i entry v false ne) refl

other_position_by :
    (b : Bool) (bus : Bus) (i entry : ℕ) (v : ℤ) → ltb entry 128 ≡ b → entry ≢ 128 + i →
    (if b then (if bit bus entry then pos 1 else pos 0) else get_or (set bus.positions i v) (entry - 128) (pos 0))
    ≡ (if b then (if bit bus entry then pos 1 else pos 0) else get_or bus.positions (entry - 128) (pos 0))
other_position_by true bus i entry v e ne = refl
other_position_by false bus i entry v e ne =
    let beyond : 128 ≤ entry = ltb-false entry 128 e in
    let other : entry - 128 ≢ i = omega arith in
    get_or-set_other bus.positions i (entry - 128) v (pos 0) other

other_position :
    (bus : Bus) (i entry : ℕ) (v : ℤ) → entry ≢ 128 + i →
    value (record { bits = bus.bits; positions = set bus.positions i v }) entry ≡ value bus entry
unfolding value
other_position bus i entry v ne = other_position_by (ltb entry 128) bus i entry v refl ne

-- Last changes.

same_last :
    (entry : ℕ) (bus bus' : Bus) (past : List Bus) → value bus' entry ≡ value bus entry →
    last_change entry (bus' ∷ past) ≡ last_change entry (bus ∷ past)
same_last entry bus bus' [] e = refl
same_last entry bus bus' (before ∷ past) e = rw e refl

last_stays :
    (entry : ℕ) (bus bus' : Bus) (past : List Bus) → value bus' entry ≡ value bus entry →
    last_change entry (bus' ∷ bus ∷ past) ≡ last_change entry (bus ∷ past)
last_stays entry bus bus' past e = rw ((Decides-int_eq (value bus' entry) (value bus entry)).1 e) refl

last_below : (entry : ℕ) (bus : Bus) (past : List Bus) → last_change entry (bus ∷ past) ≤ length past
last_below entry bus [] = omega arith
last_below entry bus (before ∷ past) =
    chosen (int_eq (value bus entry) (value before entry)) (last_change entry (before ∷ past)) (length past)
    (last_below entry before past)
  where
    chosen : (b : Bool) (x n : ℕ) → x ≤ n → (if b then x else suc n) ≤ suc n
    chosen true x n h = omega arith
    chosen false x n h = omega arith

taken : (b : Bool) (x n : ℕ) → (if b then x else n) < n → b ≡ true
taken true x n h = refl
taken false x n h = absurd (omega arith)

-- an entry that didn't change at a tick, and then does
changed_now :
    (entry : ℕ) (bus bus' : Bus) (past : List Bus) → value bus' entry ≢ value bus entry →
    (last_change entry (bus ∷ past) < length past) ⊎ (length past ≡ 0) →
    last_change entry (bus' ∷ past) ≡ length past
changed_now entry bus bus' [] ne h = refl
changed_now entry bus bus' (before ∷ past) ne (inl h) =
    let was : value bus entry ≡ value before entry =
    (Decides-int_eq (value bus entry) (value before entry)).0
    (taken (int_eq (value bus entry) (value before entry)) (last_change entry (before ∷ past)) (suc (length past)) h) in
    rw (differs (value bus' entry) (value before entry) (λ e. ne (e ∙ sym was))) refl
changed_now entry bus bus' (before ∷ past) ne (inr h) = absurd (omega arith)

-- The kept ticks.

-- one entry changes, and its tick is kept
module _ (buses : Buses) (past : List Bus) (h : AgreesWithPast buses past) (bus' : Bus) (e : ℕ) (within : e < 160)
    (others : (entry : ℕ) → entry ≢ e → value bus' entry ≡ value buses.bus entry)
    (new : value bus' e ≢ value buses.bus e) (once : IsUnchangedAt buses e (length past)) where
  once_last : (last_change e (buses.bus ∷ past) < length past) ⊎ (length past ≡ 0)
  once_last = subst (λ (n : ℕ). (n < length past) ⊎ (length past ≡ 0)) (h.changes e within) once

  changes_at :
      (entry : ℕ) (b : Bool) → (entry == e) ≡ b → entry < 160 →
      get_or (set buses.changed e (length past)) entry 0 ≡ last_change entry (bus' ∷ past)
  changes_at entry true is small =
      let same : entry ≡ e = (Decides-eqb entry e).0 is in
      let fits : e < length buses.changed = rw h.entries within in
      subst (λ (x : ℕ). get_or (set buses.changed e (length past)) x 0 ≡ last_change x (bus' ∷ past)) (sym same)
      (get_or-set_same buses.changed e (length past) 0 fits ∙ sym (changed_now e buses.bus bus' past new once_last))
  changes_at entry false is small =
      let other : entry ≢ e = λ same. false_is_not_true (sym is ∙ (Decides-eqb entry e).1 same) in
      get_or-set_other buses.changed e entry (length past) 0 other
      ∙ h.changes entry small
      ∙ sym (same_last entry buses.bus bus' past (others entry other))
    where
      false_is_not_true : false ≡ true → ⊥
      false_is_not_true x = cc

  agrees_changed :
      length bus'.bits ≡ 128 → length bus'.positions ≡ 32 →
      AgreesWithPast (record { bus = bus'; changed = set buses.changed e (length past) }) past
  agrees_changed bits positions =
      record {
        bits = bits;
        positions = positions;
        entries = length-set buses.changed e (length past) ∙ h.entries;
        changes = λ entry small. changes_at entry (entry == e) refl small;
      }

-- the buses at opening
pub opening_agrees : AgreesWithPast opening_buses []
opening_agrees =
    record {
      bits = refl;
      positions = refl;
      entries = refl;
      changes = λ entry small. get_or-replicate 160 entry 0 0 small;
    }

-- a tick begins: the bus stands as before, and its state goes to the past
pub tick_agrees : (buses : Buses) (past : List Bus) → AgreesWithPast buses past → AgreesWithPast buses (buses.bus ∷ past)
tick_agrees buses past h =
    record {
      bits = h.bits;
      positions = h.positions;
      entries = h.entries;
      changes = λ entry small. h.changes entry small ∙ sym (last_stays entry buses.bus buses.bus past refl);
    }

-- many ticks pass, and the bus stands
pub ticks_agree :
    (buses : Buses) (past : List Bus) (n : ℕ) → AgreesWithPast buses past →
    AgreesWithPast buses (replicate n buses.bus ++ past)
ticks_agree buses past zero h = h
ticks_agree buses past (suc n) h = tick_agrees buses (replicate n buses.bus ++ past) (ticks_agree buses past n h)

-- a put of what stands
pub same_bit : (buses : Buses) (i tick : ℕ) → with_bit buses i (bit buses.bus i) tick ≡ buses
same_bit buses i tick = rw ((booleans_Decides (bit buses.bus i) (bit buses.bus i)).1 refl) refl

pub same_position : (buses : Buses) (i tick : ℕ) → with_position buses i (position buses.bus i) tick ≡ buses
same_position buses i tick = rw ((Decides-int_eq (position buses.bus i) (position buses.bus i)).1 refl) refl

-- an entry that stands as before didn't change at this tick
pub unchanged_at :
    (buses : Buses) (before : Bus) (past : List Bus) (entry : ℕ) → AgreesWithPast buses (before ∷ past) → entry < 160 →
    value buses.bus entry ≡ value before entry → IsUnchangedAt buses entry (suc (length past))
unchanged_at buses before past entry h small e =
    inl (rw (h.changes entry small, last_stays entry before buses.bus past e) (omega (arith, last_below entry before past)))

level_differs : (x y : Bool) → x ≢ y → ◌≢◌ {A = ℤ} (if x then pos 1 else pos 0) (if y then pos 1 else pos 0)
level_differs true true h = λ e. h refl
level_differs true false h = λ e. cc
level_differs false true h = λ e. cc
level_differs false false h = λ e. h refl

put_bit_by :
    (b : Bool) (buses : Buses) (past : List Bus) (i : ℕ) (v : Bool) → beq (bit buses.bus i) v ≡ b →
    AgreesWithPast buses past → i < 128 → IsUnchangedAt buses i (length past) →
    AgreesWithPast
    (if b then buses
    else record {
      bus = record { bits = set buses.bus.bits i v; positions = buses.bus.positions };
      changed = set buses.changed i (length past);
    })
    past
put_bit_by true buses past i v is h small once = h
put_bit_by false buses past i v is h small once =
    let bus' : Bus = record { bits = set buses.bus.bits i v; positions = buses.bus.positions } in
    let fits : i < length buses.bus.bits = rw h.bits small in
    let ne : v ≢ bit buses.bus i = λ e. apart (sym is ∙ (booleans_Decides (bit buses.bus i) v).1 (sym e)) in
    let is_new : value bus' i ≡ (if v then pos 1 else pos 0) =
    value_bit bus' i small ∙ ap (λ (x : Bool). if x then pos 1 else pos 0) (get_or-set_same buses.bus.bits i v false fits) in
    let was : value buses.bus i ≡ (if bit buses.bus i then pos 1 else pos 0) = value_bit buses.bus i small in
    agrees_changed buses past h bus' i (omega arith) (λ entry other. other_bit buses.bus i entry v other)
    (λ e. level_differs v (bit buses.bus i) ne (sym is_new ∙ e ∙ was)) once
    (length-set buses.bus.bits i v ∙ h.bits) h.positions
  where
    apart : false ≡ true → ⊥
    apart x = cc

-- a put of a bit
pub bit_agrees :
    (buses : Buses) (past : List Bus) (i : ℕ) (v : Bool) → AgreesWithPast buses past → i < 128 →
    IsUnchangedAt buses i (length past) → AgreesWithPast (with_bit buses i v (length past)) past
bit_agrees buses past i v h small once = put_bit_by (beq (bit buses.bus i) v) buses past i v refl h small once

put_position_by :
    (b : Bool) (buses : Buses) (past : List Bus) (i : ℕ) (v : ℤ) → int_eq (position buses.bus i) v ≡ b →
    AgreesWithPast buses past → i < 32 → IsUnchangedAt buses (128 + i) (length past) →
    AgreesWithPast
    (if b then buses
    else record {
      bus = record { bits = buses.bus.bits; positions = set buses.bus.positions i v };
      changed = set buses.changed (128 + i) (length past);
    })
    past
put_position_by true buses past i v is h small once = h
put_position_by false buses past i v is h small once =
    let bus' : Bus = record { bits = buses.bus.bits; positions = set buses.bus.positions i v } in
    let fits : i < length buses.bus.positions = rw h.positions small in
    let ne : v ≢ position buses.bus i = λ e. apart (sym is ∙ (Decides-int_eq (position buses.bus i) v).1 (sym e)) in
    let is_new : value bus' (128 + i) ≡ v =
    value_position bus' i ∙ get_or-set_same buses.bus.positions i v (pos 0) fits in
    let was : value buses.bus (128 + i) ≡ position buses.bus i = value_position buses.bus i in
    agrees_changed buses past h bus' (128 + i) (omega arith) (λ entry other. other_position buses.bus i entry v other)
    (λ e. ne (sym is_new ∙ e ∙ was)) once
    h.bits (length-set buses.bus.positions i v ∙ h.positions)
  where
    apart : false ≡ true → ⊥
    apart x = cc

-- a put of a position
pub position_agrees :
    (buses : Buses) (past : List Bus) (i : ℕ) (v : ℤ) → AgreesWithPast buses past → i < 32 →
    IsUnchangedAt buses (128 + i) (length past) → AgreesWithPast (with_position buses i v (length past)) past
position_agrees buses past i v h small once =
    put_position_by (int_eq (position buses.bus i) v) buses past i v refl h small once
