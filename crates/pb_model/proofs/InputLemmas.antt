-- A tick leaves the entries of TTLIN and INENC to the stimulus.
use Rattle.std.proofs.Common.{◌≡◌, ℕ, suc, ◌+◌, ◌-◌, ◌<◌, ◌≤◌, inl, inr, Bool, false, ℤ, pos, List, ◌++◌, length, get_or, take, drop, sym, ap, subst, ◌∙◌, arith, append_assoc, if◌then◌else◌}
use Rattle.std.specs.List.{flat_map}
use Rattle.std.proofs.lemmas.List.{get_or_append_left, get_or-take, length-take-le}
use Rattle.std.proofs.lemmas.Bool.{lt-ltb, le-ltb}
use Rattle.pb_buses.specs.declared.Bus.{Bus}
use Rattle.pb_buses.specs.Buses.{value, bit, position, IsUnchangedAt}
use Rattle.pb_buses.proofs.ChangeLemmas.{unchanged_at}
use Rattle.pb_model.specs.declared.blocks.Block.{Block}
use Rattle.pb_model.specs.Tick.{Standing, Box, IsInputEntry, bits_of, positions_of, bus_after, blocks_after, tick}
use Rattle.pb_model.specs.Kept.{Kept, IsWhole, Agrees, kept_after}
use Rattle.pb_model.proofs.TickLemmas.{agrees_after}

kept_front : {X : Type 0} (n e : ℕ) (xs rest : List X) (d : X) → n ≤ length xs → e < n → get_or (take n xs ++ rest) e d ≡ get_or xs e d
kept_front n e xs rest d h g =
    let long : length (take n xs) ≡ n = length-take-le n xs h in
    get_or_append_left (take n xs) rest d e (omega arith) ∙ get_or-take n xs e d g

bit_stays : (bus : Bus) (blocks : List Block) (settings : List Bool) (e : ℕ) → length bus.bits ≡ 128 → e < 6 →
    bit (bus_after bus blocks settings) e ≡ bit bus e
bit_stays bus blocks settings e h g =
    let shown : List Bool = flat_map bits_of blocks in
    let behind : List Bool = drop 63 bus.bits in
    ap (λ l. get_or l e false)
    (append_assoc (take 6 bus.bits ++ shown) settings behind ∙ append_assoc (take 6 bus.bits) shown (settings ++ behind))
    ∙ kept_front 6 e bus.bits (shown ++ (settings ++ behind)) false (omega arith) g

position_stays : (bus : Bus) (blocks : List Block) (settings : List Bool) (e : ℕ) → length bus.positions ≡ 32 → e < 4 →
    position (bus_after bus blocks settings) e ≡ position bus e
position_stays bus blocks settings e h g =
    let shown : List ℤ = flat_map positions_of blocks in
    let behind : List ℤ = drop 12 bus.positions in
    ap (λ l. get_or l e (pos 0)) (append_assoc (take 4 bus.positions) shown behind)
    ∙ kept_front 4 e bus.positions (shown ++ behind) (pos 0) (omega arith) g

value_stays : (bus : Bus) (blocks : List Block) (settings : List Bool) (entry : ℕ) → length bus.bits ≡ 128 → length bus.positions ≡ 32 →
    IsInputEntry entry → value (bus_after bus blocks settings) entry ≡ value bus entry
unfolding value
value_stays bus blocks settings entry a b (inl small) =
    let below : entry < 128 = omega arith in
    rw (lt-ltb entry 128 below) (ap (λ (x : Bool). if x then pos 1 else pos 0) (bit_stays bus blocks settings entry a small))
value_stays bus blocks settings entry a b (inr within) =
    let beyond : 128 ≤ entry = within.0 in
    rw (le-ltb entry 128 beyond) (position_stays bus blocks settings (entry - 128) b (omega (arith, within.0, within.1)))

pub inputs_stay : (kept : Kept) → IsWhole kept.blocks kept.settings → (box : Box) → Agrees kept box → (entry : ℕ) → IsInputEntry entry →
    IsUnchangedAt (kept_after kept).buses entry (kept.tick + 1)
inputs_stay kept w box h entry input =
    let after : Agrees (kept_after kept) (tick box) = agrees_after kept w box h in
    let bits : length box.stands.bus.bits ≡ 128 = ap (λ (s : Standing). length s.bus.bits) (sym h.stands) ∙ h.changes.bits in
    let positions : length box.stands.bus.positions ≡ 32 =
    ap (λ (s : Standing). length s.bus.positions) (sym h.stands) ∙ h.changes.positions in
    let same : value (kept_after kept).buses.bus entry ≡ value box.stands.bus entry =
    ap (λ (s : Standing). value s.bus entry) after.stands
    ∙ value_stays box.stands.bus (blocks_after box.stands) box.stands.settings entry bits positions input in
    let few : entry < 160 = input_few entry input in
    let now : suc (length box.past) ≡ kept.tick + 1 = omega (arith, h.ticks) in
    subst (λ (n : ℕ). IsUnchangedAt (kept_after kept).buses entry n) now
    (unchanged_at (kept_after kept).buses box.stands.bus box.past entry after.changes few same)
  where
    input_few : (entry : ℕ) → IsInputEntry entry → entry < 160
    input_few entry (inl small) = omega arith
    input_few entry (inr within) = omega (arith, within.1)

pub inputs_along : (kept was now : Kept) → kept ≡ was → IsWhole kept.blocks kept.settings → now ≡ kept_after kept →
    (box : Box) → Agrees was box → (entry : ℕ) → IsInputEntry entry → IsUnchangedAt now.buses entry (was.tick + 1)
inputs_along kept was now e w n box h entry input =
    subst (λ (k : Kept). IsUnchangedAt k.buses entry (was.tick + 1)) (sym n)
    (subst (λ (k : Kept). IsUnchangedAt (kept_after kept).buses entry (k.tick + 1)) e
    (inputs_stay kept w box (subst (λ k. Agrees k box) (sym e) h) entry input))
