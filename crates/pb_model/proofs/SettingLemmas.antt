-- Which settings a change reaches.
use Rattle.std.proofs.Common.{◌≡◌, ◌≢◌, ℕ, zero, suc, ◌-◌, ◌<◌, ◌≤◌, ◌==◌, ◌&&◌, Bool, true, false, not, ltb, leb, List, [], ◌∷◌, get_or, refl, sym, ap, subst, ◌∙◌, eq-eqb, Option, Some, if◌then◌else◌}
use Rattle.std.specs.List.{list_all}
use Rattle.std.proofs.lemmas.Bool.{ltb-true, leb-true, eqb-true}
use Rattle.pb_names.specs.declared.TheConstants.{ITSELF}
use Rattle.pb_names.specs.declared.lut.TheConstants as lut
use Rattle.pb_names.specs.declared.bits.TheConstants as bits
use Rattle.pb_names.specs.declared.seq.TheConstants as seq
use Rattle.pb_names.specs.declared.pcomp.TheConstants as pcomp
use Rattle.pb_fields.specs.declared.Slot.{Slot}
use Rattle.pb_fields.specs.declared.Role.{Role}
use Rattle.pb_fields.specs.declared.Role.TheVariants as roles
use Rattle.pb_fields.specs.declared.FieldType.{FieldType}
use Rattle.pb_fields.specs.declared.FieldType.TheVariants as types
use Rattle.pb_fields.specs.declared.FieldKind.TheVariants as kinds
use Rattle.pb_fields.specs.declared.Attribute.{Attribute}
use Rattle.pb_fields.specs.declared.Attribute.TheVariants as attributes
use Rattle.pb_fields.specs.Catalogue.{catalogue}
use Rattle.pb_fields.specs.Places.{type_of}
use Rattle.pb_fields.specs.Types.{attributes_of, attribute_kind, role_of}
use Rattle.pb_fields.specs.Slots.{IsSlot, type_at, kind_of, role_at}
use Rattle.pb_fields.specs.Values.{IsRaw}
use Rattle.pb_fields.proofs.RunLemmas.{of_fields}
use Rattle.pb_fields.proofs.EntryLaws.{agree}
use Rattle.pb_fields.proofs.SpelledLemmas.{bit_selection_small, position_selection_small}
use Rattle.pb_model.specs.Changes.{is_taken_role, is_taken_attribute, is_taken, IsSet}
use Rattle.pb_model.specs.Tick.{is_bit_mux}
use Rattle.pb_model.specs.Settings.{is_pos_mux, so_many_before, bit_place, position_place}

-- The DELAY of a mux is the only attribute that is taken.

none_taken : (list : List Attribute) (i : ℕ) → list_all (λ a. not (is_taken_attribute a)) list ≡ true →
    is_taken_attribute (get_or list i attributes.Info) ≡ false
none_taken [] i h = refl
none_taken (a ∷ rest) zero h = first (is_taken_attribute a) (list_all (λ b. not (is_taken_attribute b)) rest) h
  where
    first : (b c : Bool) → (not b && c) ≡ true → b ≡ false
    first true c h = cc
    first false c h = refl
none_taken (a ∷ rest) (suc i) h = none_taken rest i (later (is_taken_attribute a) (list_all (λ b. not (is_taken_attribute b)) rest) h)
  where
    later : (b c : Bool) → (not b && c) ≡ true → c ≡ true
    later true c h = cc
    later false c h = h

-- the attribute at this place is taken: it is the delay of a bit mux
abbrev IsDelay : FieldType → ℕ → Type 0
IsDelay t i = (t ≡ types.BitMux) × (get_or (attributes_of t) i attributes.Info ≡ attributes.Delay)

nothing_taken : (t : FieldType) (i : ℕ) → list_all (λ a. not (is_taken_attribute a)) (attributes_of t) ≡ true →
    is_taken_attribute (get_or (attributes_of t) i attributes.Info) ≡ true → IsDelay t i
nothing_taken t i h g = let e : is_taken_attribute (get_or (attributes_of t) i attributes.Info) ≡ false = none_taken (attributes_of t) i h in absurd (apart (sym e ∙ g))
  where
    apart : false ≡ true → ⊥
    apart x = cc

pub delay_only : (t : FieldType) (i : ℕ) → is_taken_attribute (get_or (attributes_of t) i attributes.Info) ≡ true → IsDelay t i
delay_only types.BitMux zero h = cc
delay_only types.BitMux (suc zero) h = (refl, refl)
delay_only types.BitMux (suc (suc zero)) h = cc
delay_only types.BitMux (suc (suc (suc i))) h = cc
delay_only (types.ParamUint limit) i h = nothing_taken (types.ParamUint limit) i refl h
delay_only types.ParamInt i h = nothing_taken types.ParamInt i refl h
delay_only types.ParamBit i h = nothing_taken types.ParamBit i refl h
delay_only (types.ParamEnum labels) i h = nothing_taken (types.ParamEnum labels) i refl h
delay_only types.ParamLut i h = nothing_taken types.ParamLut i refl h
delay_only types.ReadUint i h = nothing_taken types.ReadUint i refl h
delay_only (types.ReadEnum labels) i h = nothing_taken (types.ReadEnum labels) i refl h
delay_only types.WriteAction i h = nothing_taken types.WriteAction i refl h
delay_only (types.Time limit) i h = nothing_taken (types.Time limit) i refl h
delay_only types.BitOut i h = nothing_taken types.BitOut i refl h
delay_only types.PosOut i h = nothing_taken types.PosOut i refl h
delay_only types.ExtOut i h = nothing_taken types.ExtOut i refl h
delay_only types.BitWord i h = nothing_taken types.BitWord i refl h
delay_only types.PosMux i h = nothing_taken types.PosMux i refl h
delay_only types.Table i h = nothing_taken types.Table i refl h

pub delay_is : (slot : Slot) (raw : ℕ) → IsSet slot raw → slot.attr ≢ ITSELF → (type_at slot ≡ types.BitMux) × (raw ≤ 31)
delay_is slot raw s ne = by (slot.attr == ITSELF) refl s.taken s.in_range
  where
    by : (b : Bool) → (slot.attr == ITSELF) ≡ b → is_taken slot ≡ true → IsRaw (kind_of slot) raw → (type_at slot ≡ types.BitMux) × (raw ≤ 31)
    by true e taken range = absurd (ne (eqb-true slot.attr ITSELF e))
    by false e taken range =
        let d : IsDelay (type_at slot) (slot.attr - 1) = delay_only (type_at slot) (slot.attr - 1) (rw e at taken) in
        (d.0, subst (λ a. IsRaw (attribute_kind a (type_at slot)) raw) d.1 (rw e at range))

-- the field of a setting is one that is taken
pub field_taken : (slot : Slot) (raw : ℕ) → IsSet slot raw → is_taken_role (role_of (type_at slot)) ≡ true
field_taken slot raw s = by (slot.attr == ITSELF) refl s.taken
  where
    by : (b : Bool) → (slot.attr == ITSELF) ≡ b → is_taken slot ≡ true → is_taken_role (role_of (type_at slot)) ≡ true
    by true e taken = rw e at taken
    by false e taken =
        let d : IsDelay (type_at slot) (slot.attr - 1) = delay_only (type_at slot) (slot.attr - 1) (rw e at taken) in
        rw d.0 refl

-- Where the muxes of a block stand.

chosen : {X : Type 0} (b : Bool) (x y z : X) → b ≡ true → Some (if b then x else y) ≡ Some (if b then z else y) → x ≡ z
chosen true x y z h e = cc
chosen false x y z h e = cc

bits_before : ℕ → ℕ → ℕ → Option ℕ
bits_before b i f = Some (if is_bit_mux (type_of b f) then so_many_before is_bit_mux b f else 0)

bits_first : ℕ → ℕ → ℕ → Option ℕ
bits_first b i f = Some (if is_bit_mux (type_of b f) then f else 0)

bits_stand : of_fields bits_before ≡ of_fields bits_first
unfolding bits_before bits_first so_many_before catalogue
bits_stand = refl

pub bit_mux_place : (slot : Slot) → IsSlot slot → is_bit_mux (type_at slot) ≡ true → bit_place slot ≡ slot.field
unfolding bits_before bits_first
bit_mux_place slot s h = chosen (is_bit_mux (type_at slot)) _ _ _ h (agree bits_before bits_first bits_stand slot s)

-- a test that holds of every field
unfoldable pub always : ℕ → ℕ → ℕ → Option Bool
always b i f = Some true

pub holds_by : (F : ℕ → ℕ → ℕ → Bool) → of_fields (λ b i f. Some (F b i f)) ≡ of_fields always → (slot : Slot) → IsSlot slot →
    F slot.block slot.instance slot.field ≡ true
unfolding always
holds_by F h slot s = unsome (F slot.block slot.instance slot.field) (agree (λ b i f. Some (F b i f)) always h slot s)
  where
    unsome : (b : Bool) → Some b ≡ Some true → b ≡ true
    unsome b e = cc

pub implied : (b c : Bool) → (if b then c else true) ≡ true → b ≡ true → c ≡ true
implied true c h g = h
implied false c h g = cc

five : ℕ → ℕ → ℕ → Bool
five b i f = if is_bit_mux (type_of b f) then ltb f 5 else true

bit_mux_few-rows : of_fields (λ b i f. Some (five b i f)) ≡ of_fields always
unfolding five always catalogue
bit_mux_few-rows = refl

bit_mux_few-all : (slot : Slot) → IsSlot slot → (if is_bit_mux (type_at slot) then ltb slot.field 5 else true) ≡ true
unfolding five
bit_mux_few-all slot s = holds_by five bit_mux_few-rows slot s

pub bit_mux_few : (slot : Slot) → IsSlot slot → is_bit_mux (type_at slot) ≡ true → slot.field < 5
bit_mux_few slot s h =
    ltb-true slot.field 5 (implied (is_bit_mux (type_at slot)) (ltb slot.field 5) (bit_mux_few-all slot s) h)

-- the position muxes
pub first_position : ℕ → ℕ
first_position b = if b == seq.BLOCK then seq.POSA else pcomp.INP

positions_before : ℕ → ℕ → ℕ → Option ℕ
positions_before b i f = Some (if is_pos_mux (type_of b f) then so_many_before is_pos_mux b f else 0)

positions_from : ℕ → ℕ → ℕ → Option ℕ
positions_from b i f = Some (if is_pos_mux (type_of b f) then f - first_position b else 0)

positions_stand : of_fields positions_before ≡ of_fields positions_from
unfolding positions_before positions_from first_position so_many_before catalogue
positions_stand = refl

pub position_mux_place : (slot : Slot) → IsSlot slot → is_pos_mux (type_at slot) ≡ true → position_place slot ≡ slot.field - first_position slot.block
unfolding positions_before positions_from
position_mux_place slot s h = chosen (is_pos_mux (type_at slot)) _ _ _ h (agree positions_before positions_from positions_stand slot s)

position_bounds : ℕ → ℕ → ℕ → Bool
position_bounds b i f =
    if is_pos_mux (type_of b f) then (if leb (first_position b) f then ltb (f - first_position b) 3 else false) else true

position_mux_few-rows : of_fields (λ b i f. Some (position_bounds b i f)) ≡ of_fields always
unfolding position_bounds always first_position catalogue
position_mux_few-rows = refl

position_mux_few-all : (slot : Slot) → IsSlot slot →
    (if is_pos_mux (type_at slot)
    then (if leb (first_position slot.block) slot.field then ltb (slot.field - first_position slot.block) 3 else false)
    else true) ≡ true
unfolding position_bounds
position_mux_few-all slot s = holds_by position_bounds position_mux_few-rows slot s

pub position_mux_few : (slot : Slot) → IsSlot slot → is_pos_mux (type_at slot) ≡ true →
    (first_position slot.block ≤ slot.field) × (slot.field - first_position slot.block < 3)
position_mux_few slot s h =
    both (leb (first_position slot.block) slot.field) refl
    (implied (is_pos_mux (type_at slot)) _ (position_mux_few-all slot s) h)
  where
    both : (b : Bool) → leb (first_position slot.block) slot.field ≡ b →
        (if b then ltb (slot.field - first_position slot.block) 3 else false) ≡ true →
        (first_position slot.block ≤ slot.field) × (slot.field - first_position slot.block < 3)
    both true e g = (leb-true (first_position slot.block) slot.field e, ltb-true (slot.field - first_position slot.block) 3 g)
    both false e g = absurd (apart g)
      where
        apart : false ≡ true → ⊥
        apart x = cc

pub first_of_seq : (b : ℕ) → b ≡ seq.BLOCK → first_position b ≡ seq.POSA
unfolding first_position
first_of_seq b h = rw h refl

pub first_of_other : (b : ℕ) → b ≢ seq.BLOCK → first_position b ≡ pcomp.INP
unfolding first_position
first_of_other b h = by (b == seq.BLOCK) refl
  where
    by : (t : Bool) → (b == seq.BLOCK) ≡ t → (if t then seq.POSA else pcomp.INP) ≡ pcomp.INP
    by true e = absurd (h (eqb-true b seq.BLOCK e))
    by false e = refl

-- TTLIN and INENC have nothing to set, BITS its first four fields, and what is read belongs to a block with a machine.
bounds_of : ℕ → ℕ → ℕ → Bool
bounds_of b i f =
    if is_taken_role (role_of (type_of b f))
    then (if leb bits.BLOCK b then (if b == bits.BLOCK then ltb f 4 else true) else false)
    else true

taken_bounds-rows : of_fields (λ b i f. Some (bounds_of b i f)) ≡ of_fields always
unfolding bounds_of always catalogue
taken_bounds-rows = refl

taken_bounds-all : (slot : Slot) → IsSlot slot →
    (if is_taken_role (role_of (type_at slot))
    then (if leb bits.BLOCK slot.block then (if slot.block == bits.BLOCK then ltb slot.field 4 else true) else false)
    else true) ≡ true
unfolding bounds_of
taken_bounds-all slot s = holds_by bounds_of taken_bounds-rows slot s

pub taken_bounds : (slot : Slot) → IsSlot slot → is_taken_role (role_of (type_at slot)) ≡ true →
    (bits.BLOCK ≤ slot.block) × (slot.block ≡ bits.BLOCK → slot.field < 4)
taken_bounds slot s h =
    both (leb bits.BLOCK slot.block) refl (slot.block == bits.BLOCK) refl
    (implied (is_taken_role (role_of (type_at slot))) _ (taken_bounds-all slot s) h)
  where
    both : (a : Bool) → leb bits.BLOCK slot.block ≡ a → (b : Bool) → (slot.block == bits.BLOCK) ≡ b →
        (if a then (if b then ltb slot.field 4 else true) else false) ≡ true →
        (bits.BLOCK ≤ slot.block) × (slot.block ≡ bits.BLOCK → slot.field < 4)
    both true e true g k = (leb-true bits.BLOCK slot.block e, λ _. ltb-true slot.field 4 k)
    both true e false g k = (leb-true bits.BLOCK slot.block e, λ same. absurd (apart (sym g ∙ eq-eqb slot.block bits.BLOCK same)))
      where
        apart : false ≡ true → ⊥
        apart x = cc
    both false e b g k = absurd (apart k)
      where
        apart : false ≡ true → ⊥
        apart x = cc

is_read : Role → Bool
is_read roles.Read = true
is_read _ = false

read_bounds : ℕ → ℕ → ℕ → Bool
read_bounds b i f = if is_read (role_of (type_of b f)) then leb lut.BLOCK b else true

pub read_at : (slot : Slot) → role_at slot ≡ roles.Read → role_of (type_at slot) ≡ roles.Read
read_at slot h = by (slot.attr == ITSELF) refl h
  where
    by : (b : Bool) → (slot.attr == ITSELF) ≡ b → role_at slot ≡ roles.Read → role_of (type_at slot) ≡ roles.Read
    by true e g = rw e at g
    by false e g = let k : roles.Attr ≡ roles.Read = rw e at g in cc

read_block-rows : of_fields (λ b i f. Some (read_bounds b i f)) ≡ of_fields always
unfolding read_bounds always is_read catalogue
read_block-rows = refl

read_block-all : (slot : Slot) → IsSlot slot → (if is_read (role_of (type_at slot)) then leb lut.BLOCK slot.block else true) ≡ true
unfolding read_bounds
read_block-all slot s = holds_by read_bounds read_block-rows slot s

pub read_block : (slot : Slot) → IsSlot slot → role_at slot ≡ roles.Read → lut.BLOCK ≤ slot.block
unfolding is_read
read_block slot s h =
    leb-true lut.BLOCK slot.block
    (implied (is_read (role_of (type_at slot))) _ (read_block-all slot s) (ap is_read (read_at slot h)))

-- Selections are small.

pub selection_small : (slot : Slot) (raw : ℕ) → IsSet slot raw → slot.attr ≡ ITSELF → type_at slot ≡ types.BitMux → raw ≤ 129
selection_small slot raw s a t =
    let is : kind_of slot ≡ kinds.BitMux = rw (a, t) refl in
    bit_selection_small raw (subst (λ k. IsRaw k raw) is s.in_range)

pub position_small : (slot : Slot) (raw : ℕ) → IsSet slot raw → slot.attr ≡ ITSELF → type_at slot ≡ types.PosMux → raw ≤ 32
position_small slot raw s a t =
    let is : kind_of slot ≡ kinds.PosMux = rw (a, t) refl in
    position_selection_small raw (subst (λ k. IsRaw k raw) is s.in_range)

pub is_bit_mux_at : (t : FieldType) → t ≡ types.BitMux → is_bit_mux t ≡ true
is_bit_mux_at t h = ap is_bit_mux h

pub is_pos_mux_at : (t : FieldType) → t ≡ types.PosMux → is_pos_mux t ≡ true
is_pos_mux_at t h = ap is_pos_mux h
