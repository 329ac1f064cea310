-- The places of slots: each is below the number of places, and no two slots have the same.
use Rattle.std.proofs.Common.{◌≡◌, ℕ, ◌+◌, ◌-◌, ◌*◌, ◌/◌, ◌%◌, ◌<◌, ◌≤◌, length, ap, ◌∙◌, arith}
use Rattle.pb_fields.specs.declared.Slot.{Slot}
use Rattle.pb_fields.specs.declared.FieldType.{FieldType}
use Rattle.pb_fields.specs.declared.FieldType.TheVariants as types
use Rattle.pb_fields.specs.Types.{attributes_of}
use Rattle.pb_fields.specs.Slots.{IsSlot, attributes_at, type_at}
use Rattle.pb_fields.specs.Places.{count_of, fields_of}
use Rattle.pb_fields.specs.Order.{slot_at}
use Rattle.pb_fields.proofs.RowLemmas.{count_few, fields_few}
use Rattle.pb_config.specs.Settings.{place, instance_place}

pub attributes_few : (t : FieldType) → length (attributes_of t) ≤ 6
attributes_few (types.ParamUint limit) = omega arith
attributes_few types.ParamInt = omega arith
attributes_few types.ParamBit = omega arith
attributes_few (types.ParamEnum labels) = omega arith
attributes_few types.ParamLut = omega arith
attributes_few types.ReadUint = omega arith
attributes_few (types.ReadEnum labels) = omega arith
attributes_few types.WriteAction = omega arith
attributes_few (types.Time limit) = omega arith
attributes_few types.BitOut = omega arith
attributes_few types.PosOut = omega arith
attributes_few types.ExtOut = omega arith
attributes_few types.BitWord = omega arith
attributes_few types.BitMux = omega arith
attributes_few types.PosMux = omega arith
attributes_few types.Table = omega arith

-- what bounds a slot
pub record IsFew (slot : Slot) : Type 0 where
  pub block : slot.block < 12
  pub from_one : 1 ≤ slot.instance
  pub instance : slot.instance ≤ 8
  pub field : slot.field < 21
  pub attr : slot.attr < 7

pub few : (slot : Slot) → IsSlot slot → IsFew slot
few slot s =
    let i : count_of slot.block ≤ 8 = count_few slot.block in
    let f : length (fields_of slot.block) ≤ 21 = fields_few slot.block in
    let a : length (attributes_at slot) ≤ 6 = attributes_few (type_at slot) in
    record {
      block = s.in_blocks;
      from_one = s.from_one;
      instance = omega arith;
      field = omega arith;
      attr = omega arith;
    }

-- two numbers of two digits are the same only if the digits are

sevens : (x y a b : ℕ) → a < 7 → b < 7 → x * 7 + a ≡ y * 7 + b → (x ≡ y) × (a ≡ b)
sevens x y a b h k e = (omega arith, omega arith)

twenty_ones : (x y a b : ℕ) → a < 21 → b < 21 → x * 21 + a ≡ y * 21 + b → (x ≡ y) × (a ≡ b)
twenty_ones x y a b h k e = (omega arith, omega arith)

eights : (x y a b : ℕ) → a < 8 → b < 8 → x * 8 + a ≡ y * 8 + b → (x ≡ y) × (a ≡ b)
eights x y a b h k e = (omega arith, omega arith)

pub same_slot : (s t : Slot) → s.block ≡ t.block → s.instance ≡ t.instance → s.field ≡ t.field → s.attr ≡ t.attr → s ≡ t
same_slot s t b i f a =
    ap (λ x. slot_at x s.instance s.field s.attr) b
    ∙ ap (λ x. slot_at t.block x s.field s.attr) i
    ∙ ap (λ x. slot_at t.block t.instance x s.attr) f
    ∙ ap (λ x. slot_at t.block t.instance t.field x) a

-- no two instances have the same place
pub one_instance : (s t : Slot) → IsSlot s → IsSlot t → instance_place s ≡ instance_place t → (s.block ≡ t.block) × (s.instance ≡ t.instance)
one_instance s t is it e =
    let fs = few s is in
    let ft = few t it in
    let i : s.instance ≤ 8 = fs.instance in
    let j : t.instance ≤ 8 = ft.instance in
    let k : 1 ≤ s.instance = fs.from_one in
    let l : 1 ≤ t.instance = ft.from_one in
    let blocks = eights s.block t.block (s.instance - 1) (t.instance - 1) (omega arith) (omega arith) e in
    let same : s.instance - 1 ≡ t.instance - 1 = blocks.1 in
    (blocks.0, omega arith)

-- no two slots have the same place
pub one_place : (s t : Slot) → IsSlot s → IsSlot t → place s ≡ place t → s ≡ t
one_place s t is it e =
    let fs = few s is in
    let ft = few t it in
    let attrs = sevens (instance_place s * 21 + s.field) (instance_place t * 21 + t.field) s.attr t.attr fs.attr ft.attr e in
    let fields = twenty_ones (instance_place s) (instance_place t) s.field t.field fs.field ft.field attrs.0 in
    let instances = one_instance s t is it fields.0 in
    same_slot s t instances.0 instances.1 fields.1 attrs.1

-- a slot can be read from its place

pub place_attr : (x a : ℕ) → a < 7 → (x * 7 + a) % 7 ≡ a
place_attr x a h = omega arith

pub place_rest : (x a : ℕ) → a < 7 → (x * 7 + a) / 7 ≡ x
place_rest x a h = omega arith

pub place_field : (x f : ℕ) → f < 21 → (x * 21 + f) % 21 ≡ f
place_field x f h = omega arith

pub place_block : (b i f a : ℕ) → i < 8 → f < 21 → a < 7 → (((b * 8 + i) * 21 + f) * 7 + a) / 1176 ≡ b
place_block b i f a h k l = omega arith

pub place_within : (slot : Slot) → IsSlot slot → place slot < 14112
place_within slot s =
    let f = few slot s in
    let b : slot.block < 12 = f.block in
    let i : slot.instance ≤ 8 = f.instance in
    let g : slot.field < 21 = f.field in
    let a : slot.attr < 7 = f.attr in
    omega arith
