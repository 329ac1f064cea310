-- What a change sets belongs to the unit, and so does what is read of it.
use Rattle.std.proofs.Common.{◌≡◌, ◌≢◌, ℕ, ◌<◌, ◌≤◌, ◌==◌, Bool, true, false, List, length, map, get_or, set, if◌then◌else◌, refl, sym, ap, ◌∙◌, arith}
use Rattle.std.proofs.lemmas.Bool.{eqb-true}
use Rattle.std.proofs.lemmas.List.{get_or-map, get_or_default}
use Rattle.std.proofs.Math.Seq.{map-set_same}
use Rattle.pb_names.specs.declared.TheConstants.{ITSELF}
use Rattle.pb_names.specs.declared.bits.TheConstants as bits
use Rattle.pb_names.specs.declared.lut.TheConstants as lut
use Rattle.pb_fields.specs.declared.Slot.{Slot}
use Rattle.pb_fields.specs.declared.FieldType.{FieldType}
use Rattle.pb_fields.specs.declared.FieldType.TheVariants as types
use Rattle.pb_fields.specs.Slots.{IsSlot, type_at}
use Rattle.pb_model.specs.declared.units.Unit.{Unit as AnyUnit}
use Rattle.pb_model.specs.declared.units.Unit.TheVariants as units
use Rattle.pb_buses.specs.Delay.{BitInput, wired, delayed, opening_input}
use Rattle.pb_model.specs.declared.blocks.Block.{Block}
use Rattle.pb_model.specs.Units.{place_of, with_field, value_read}
use Rattle.pb_model.specs.Machines.{machines, machine_kinds, place_in, with_named}
use Rattle.pb_model.specs.Tick.{opening_block, kind_of as kind_at}
use Rattle.pb_model.specs.Kept.{Kept, IsWhole}
use Rattle.pb_model.specs.Settings.{bit_place, with_input, with_field_value, with_value, with_setting, block_of_slot, read_of}
use Rattle.pb_model.proofs.PlaceLemmas.{in_turn, in_few, kind_at as placed_kind, machines_are_many, named_is_set, named_is_got}
use Rattle.pb_model.proofs.TickLemmas.{are_35}
use Rattle.pb_model.proofs.SettingLemmas.{bit_mux_place, is_bit_mux_at}

-- A setting leaves the kind of a block as it is.

unit_stays : (unit : AnyUnit) (field raw : ℕ) → place_of (with_field unit field raw) ≡ place_of unit
unit_stays (units.Lut block) field raw = refl
unit_stays (units.Srgate block) field raw = refl
unit_stays (units.Div block) field raw = refl
unit_stays (units.Pulse block) field raw = refl
unit_stays (units.Counter block) field raw = refl
unit_stays (units.Clock block) field raw = refl
unit_stays (units.Seq block) field raw = refl
unit_stays (units.Pcomp block) field raw = refl
unit_stays (units.Pcap block) field raw = refl

field_stays : (t : FieldType) (slot : Slot) (raw : ℕ) (block : Block) → kind_at (with_field_value t slot raw block) ≡ kind_at block
field_stays types.BitMux slot raw block = refl
field_stays types.PosMux slot raw block = refl
field_stays (types.ParamUint limit) slot raw block = unit_stays block.unit slot.field raw
field_stays types.ParamInt slot raw block = unit_stays block.unit slot.field raw
field_stays types.ParamBit slot raw block = unit_stays block.unit slot.field raw
field_stays (types.ParamEnum labels) slot raw block = unit_stays block.unit slot.field raw
field_stays types.ParamLut slot raw block = unit_stays block.unit slot.field raw
field_stays types.ReadUint slot raw block = unit_stays block.unit slot.field raw
field_stays (types.ReadEnum labels) slot raw block = unit_stays block.unit slot.field raw
field_stays types.WriteAction slot raw block = unit_stays block.unit slot.field raw
field_stays (types.Time limit) slot raw block = unit_stays block.unit slot.field raw
field_stays types.BitOut slot raw block = unit_stays block.unit slot.field raw
field_stays types.PosOut slot raw block = unit_stays block.unit slot.field raw
field_stays types.ExtOut slot raw block = unit_stays block.unit slot.field raw
field_stays types.BitWord slot raw block = unit_stays block.unit slot.field raw
field_stays types.Table slot raw block = unit_stays block.unit slot.field raw

pub value_stays : (slot : Slot) (raw : ℕ) (block : Block) → kind_at (with_value slot raw block) ≡ kind_at block
value_stays slot raw block = by (slot.attr == ITSELF)
  where
    by : (b : Bool) →
        kind_at (if b then with_field_value (type_at slot) slot raw block
        else with_input (bit_place slot) (λ input. delayed input raw) block) ≡ kind_at block
    by true = field_stays (type_at slot) slot raw block
    by false = refl

-- What a setting of a block leaves.

pub value_of_delay : (slot : Slot) (raw : ℕ) (block : Block) (inputs : List BitInput) → IsSlot slot → slot.attr ≢ ITSELF →
    type_at slot ≡ types.BitMux →
    inputs ≡ set block.bits slot.field (delayed (get_or block.bits slot.field opening_input) raw) →
    record { unit = block.unit; bits = inputs; positions = block.positions } ≡ with_value slot raw block
value_of_delay slot raw block inputs s ne t e =
    let p : bit_place slot ≡ slot.field = bit_mux_place slot s (is_bit_mux_at (type_at slot) t) in
    ap (λ l. record { unit = block.unit; bits = l; positions = block.positions }) e
    ∙ (ap (λ n. with_input n (λ input. delayed input raw) block) (sym p)
    ∙ by (slot.attr == ITSELF) refl)
  where
    by : (b : Bool) → (slot.attr == ITSELF) ≡ b →
        with_input (bit_place slot) (λ input. delayed input raw) block
        ≡ (if b then with_field_value (type_at slot) slot raw block
        else with_input (bit_place slot) (λ input. delayed input raw) block)
    by true h = absurd (ne (eqb-true slot.attr ITSELF h))
    by false h = refl

pub value_of_wire : (slot : Slot) (raw : ℕ) (block : Block) (inputs : List BitInput) → IsSlot slot → slot.attr ≡ ITSELF →
    type_at slot ≡ types.BitMux →
    inputs ≡ set block.bits slot.field (wired (get_or block.bits slot.field opening_input) raw) →
    record { unit = block.unit; bits = inputs; positions = block.positions } ≡ with_value slot raw block
value_of_wire slot raw block inputs s a t e =
    let p : bit_place slot ≡ slot.field = bit_mux_place slot s (is_bit_mux_at (type_at slot) t) in
    ap (λ l. record { unit = block.unit; bits = l; positions = block.positions }) e
    ∙ (ap (λ n. with_input n (λ input. wired input raw) block) (sym p)
    ∙ rw (a, t) refl)

-- A setting of the box.

pub place_inside : (blocks : List Block) (slot : Slot) → map kind_at blocks ≡ machine_kinds → IsSlot slot → lut.BLOCK ≤ slot.block →
    place_in machines (block_of_slot slot) < length blocks
place_inside blocks slot h s from =
    omega (
      arith,
      are_35 blocks h,
      in_turn slot.block slot.instance from (omega (arith, s.in_blocks)) s.from_one s.in_count,
      in_few slot.block slot.instance from (omega (arith, s.in_blocks)) s.from_one s.in_count,
    )

pub kind_named : (blocks : List Block) (slot : Slot) (d : Block) → map kind_at blocks ≡ machine_kinds → IsSlot slot → lut.BLOCK ≤ slot.block →
    kind_at (get_or blocks (place_in machines (block_of_slot slot)) d) ≡ slot.block
kind_named blocks slot d h s from =
    let at : ℕ = place_in machines (block_of_slot slot) in
    let inside : at < length blocks = place_inside blocks slot h s from in
    sym (get_or-map kind_at blocks at d 0 inside)
    ∙ (ap (λ l. get_or l at 0) h
    ∙ placed_kind slot.block slot.instance from (omega (arith, s.in_blocks)) s.from_one s.in_count)

pub set_stays : (blocks : List Block) (settings : List Bool) (slot : Slot) (raw place : ℕ) (new d : Block) → IsWhole blocks settings →
    new ≡ with_value slot raw (get_or blocks place d) → IsWhole (set blocks place new) settings
set_stays blocks settings slot raw place new d w e =
    record {
      kinds =
          map-set_same kind_at blocks place new d (ap kind_at e ∙ value_stays slot raw (get_or blocks place d))
          ∙ w.kinds;
      four = w.four;
    }

abbrev with_blocks : Kept → List Block → Kept
with_blocks kept blocks = record { tick = kept.tick; buses = kept.buses; settings = kept.settings; blocks = blocks }

set_by : (t : Bool) (kept : Kept) (slot : Slot) (raw : ℕ) (blocks : List Block) → (slot.block == bits.BLOCK) ≡ t → slot.block ≢ bits.BLOCK →
    with_blocks kept blocks
    ≡ record {
      tick = kept.tick;
      buses = kept.buses;
      settings = if t then set kept.settings slot.field (raw == 1) else kept.settings;
      blocks = if t then kept.blocks else blocks;
    }
set_by true kept slot raw blocks h ne = absurd (ne (eqb-true slot.block bits.BLOCK h))
set_by false kept slot raw blocks h ne = refl

pub set_block : (kept : Kept) (slot : Slot) (raw place : ℕ) (new d : Block) → IsWhole kept.blocks kept.settings →
    slot.block ≢ bits.BLOCK → place ≡ place_in machines (block_of_slot slot) →
    new ≡ with_value slot raw (get_or kept.blocks place d) →
    with_blocks kept (set kept.blocks place new) ≡ with_setting kept slot raw
set_block kept slot raw place new d w ne p e =
    let many : length kept.blocks ≡ length machines = are_35 kept.blocks w.kinds ∙ sym machines_are_many in
    let named : set kept.blocks place new ≡ with_named machines (block_of_slot slot) (with_value slot raw) kept.blocks =
    ap (set kept.blocks place) e
    ∙ (ap (λ n. set kept.blocks n (with_value slot raw (get_or kept.blocks n d))) p
    ∙ sym (named_is_set machines (block_of_slot slot) (with_value slot raw) kept.blocks d many)) in
    ap (with_blocks kept) named
    ∙ set_by (slot.block == bits.BLOCK) kept slot raw (with_named machines (block_of_slot slot) (with_value slot raw) kept.blocks) refl ne

pub read_is : (kept : Kept) (slot : Slot) (place : ℕ) (d : Block) → IsWhole kept.blocks kept.settings → IsSlot slot → lut.BLOCK ≤ slot.block →
    place ≡ place_in machines (block_of_slot slot) → value_read (get_or kept.blocks place d).unit slot.field ≡ read_of kept.blocks slot
read_is kept slot place d w s from p =
    let many : length kept.blocks ≡ length machines = are_35 kept.blocks w.kinds ∙ sym machines_are_many in
    let inside : place_in machines (block_of_slot slot) < length kept.blocks = place_inside kept.blocks slot w.kinds s from in
    ap (λ n. value_read (get_or kept.blocks n d).unit slot.field) p
    ∙ ap (λ (b : Block). value_read b.unit slot.field)
    (get_or_default kept.blocks (place_in machines (block_of_slot slot)) d (opening_block slot.block) inside
    ∙ sym (named_is_got machines (block_of_slot slot) kept.blocks (opening_block slot.block) many))
