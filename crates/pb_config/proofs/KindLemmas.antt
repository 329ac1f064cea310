-- The kinds of values that are kept, and which raw values they have.
use Rattle.std.proofs.Common.{◌≡◌, ◌≢◌, ℕ, ◌-◌, ◌<◌, ◌≤◌, ◌^◌, ◌==◌, Bool, true, false, List, length, Option, Some, None, Result, Ok, Err, nat_le, nat_lt, not, slice_index_or, IfSome, if◌then◌else◌, refl, sym, subst, arith}
use Rattle.std.proofs.lemmas.Bool.{eqb-false, leb-true, ltb-false, both_ways}
use Rattle.pb_words.specs.declared.Refusal.{Refusal}
use Rattle.pb_words.specs.declared.Refusal.TheVariants as refusals
use Rattle.pb_lut.specs.Computed.{function_of}
use Rattle.pb_fields.specs.declared.Slot.{Slot}
use Rattle.pb_fields.specs.declared.FieldType.{FieldType}
use Rattle.pb_fields.specs.declared.FieldKind.{FieldKind}
use Rattle.pb_fields.specs.declared.FieldKind.TheVariants as kinds
use Rattle.pb_fields.specs.declared.FieldType.TheVariants as types
use Rattle.pb_fields.specs.declared.Attribute.{Attribute}
use Rattle.pb_fields.specs.declared.Attribute.TheVariants as attributes
use Rattle.pb_fields.specs.Types.{attributes_of, limit_of, field_kind}
use Rattle.pb_fields.specs.Labels.{label_list}
use Rattle.pb_fields.specs.Slots.{IsSlot, type_at, attribute_at, attributes_at, kind_by, kind_of}
use Rattle.pb_fields.specs.Values.{IsRaw, IsShownKind, IsSpelledKind}
use Rattle.pb_fields.specs.Spelled.{read_as, spelled}
use Rattle.pb_fields.proofs.RowLemmas.{all_within}
use Rattle.pb_config.specs.Settings.{Settings, field_slot, units_slot, kind_in, kind_now, raw_of}
use Rattle.pb_config.specs.Assigning.{is_assignable_by, is_assignable, is_units, target_by, target, units_given, raw_given, kept_by}
use Rattle.pb_config.specs.Showing.{is_readable_by, is_readable}
use Rattle.pb_config.specs.Kept.{is_kept_by, is_kept, CanBe}

-- which attribute a slot is

which_by : (b : Bool) (x a : Attribute) → (if b then None else Some x) ≡ Some a → (b ≡ false) × (x ≡ a)
which_by true x a e = absurd (cc)
which_by false x a e = (refl, cc)

pub which : (slot : Slot) (a : Attribute) → IsSlot slot → attribute_at slot ≡ Some a → (slot.attr - 1 < length (attributes_at slot)) × (slice_index_or (attributes_at slot) (slot.attr - 1) attributes.Info ≡ a)
which slot a s e =
    let w = which_by (slot.attr == 0) (slice_index_or (attributes_at slot) (slot.attr - 1) attributes.Info) a e in
    let some : slot.attr ≢ 0 = eqb-false slot.attr 0 w.0 in
    let most : slot.attr ≤ length (attributes_at slot) = s.in_attributes in
    (omega arith, w.1)

-- the units of a time are one of three

units_of_time : (t : FieldType) (limit raw : ℕ) → t ≡ types.Time limit → (is_kept_by t (Some (slice_index_or (attributes_of t) 1 attributes.Info)) ≡ true → IsRaw (kind_by t (Some (slice_index_or (attributes_of t) 1 attributes.Info))) raw) → raw ≤ 2
unfolding label_list
units_of_time t limit raw e h =
    let P : FieldType → Type 0 = λ t. (is_kept_by t (Some (slice_index_or (attributes_of t) 1 attributes.Info)) ≡ true → IsRaw (kind_by t (Some (slice_index_or (attributes_of t) 1 attributes.Info))) raw) in
    let k : raw < 3 = subst P e h refl in
    omega arith

pub units_few : (slot : Slot) (limit raw : ℕ) → type_at slot ≡ types.Time limit → CanBe (units_slot slot) raw → raw ≤ 2
units_few slot limit raw e h = units_of_time (type_at slot) limit raw e h

-- a value that is kept and can be asked for can be printed

shown_by : (t : FieldType) (o : Option Attribute) → is_kept_by t o ≡ true → is_readable_by t o ≡ true → IsShownKind (kind_by t o)
shown_by (types.ParamUint limit) None k r = tt
shown_by types.ParamInt None k r = tt
shown_by types.ParamBit None k r = tt
shown_by (types.ParamEnum labels) None k r = tt
shown_by types.ParamLut None k r = tt
shown_by types.ReadUint None k r = tt
shown_by (types.ReadEnum labels) None k r = tt
shown_by (types.Time limit) None k r = omega arith
shown_by types.BitOut None k r = tt
shown_by types.PosOut None k r = tt
shown_by types.BitMux None k r = tt
shown_by types.PosMux None k r = tt
shown_by t (Some attributes.TimeUnits) k r = tt
shown_by t (Some attributes.PosCapture) k r = tt
shown_by t (Some attributes.Offset) k r = tt
shown_by t (Some attributes.Scale) k r = tt
shown_by t (Some attributes.ExtCapture) k r = tt
shown_by t (Some attributes.Delay) k r = tt
shown_by t o k r = absurd (cc)

pub shown_kind : (slot : Slot) → is_kept slot ≡ true → is_readable slot ≡ true → IsShownKind (kind_of slot)
shown_kind slot k r = shown_by (type_at slot) (attribute_at slot) k r

-- a text can be a value of what is assigned, but for the units of a position

spelled_by : (t : FieldType) (o : Option Attribute) → is_assignable_by t o ≡ true → is_units o ≡ false → IsSpelledKind (kind_by t o)
spelled_by (types.ParamUint limit) None k r = tt
spelled_by types.ParamInt None k r = tt
spelled_by types.ParamBit None k r = tt
spelled_by (types.ParamEnum labels) None k r = tt
spelled_by types.ParamLut None k r = tt
spelled_by types.ReadUint None k r = tt
spelled_by (types.ReadEnum labels) None k r = tt
spelled_by types.WriteAction None k r = tt
spelled_by (types.Time limit) None k r = omega arith
spelled_by types.BitOut None k r = tt
spelled_by types.PosOut None k r = tt
spelled_by types.BitMux None k r = tt
spelled_by types.PosMux None k r = tt
spelled_by t (Some attributes.TimeUnits) k r = tt
spelled_by t (Some attributes.TimeRaw) k r = tt
spelled_by t (Some attributes.PosCapture) k r = tt
spelled_by t (Some attributes.Offset) k r = tt
spelled_by t (Some attributes.Scale) k r = tt
spelled_by t (Some attributes.ExtCapture) k r = tt
spelled_by t (Some attributes.Delay) k r = tt
spelled_by t o k r = absurd (cc)

pub spelled_kind : (slot : Slot) → is_assignable slot ≡ true → is_units (attribute_at slot) ≡ false → IsSpelledKind (kind_of slot)
spelled_kind slot k r = spelled_by (type_at slot) (attribute_at slot) k r

-- the units in force don't matter for the range

pub range_now : (u : ℕ) (t : FieldType) (o : Option Attribute) (raw : ℕ) → IsRaw (kind_by t o) raw → IsRaw (kind_in u t o) raw
range_now u (types.Time limit) None raw h = h
range_now u t None raw h = h
range_now u t (Some attribute) raw h = h

pub range_kept : (u : ℕ) (t : FieldType) (o : Option Attribute) (raw : ℕ) → IsRaw (kind_in u t o) raw → IsRaw (kind_by t o) raw
range_kept u (types.Time limit) None raw h = h
range_kept u t None raw h = h
range_kept u t (Some attribute) raw h = h

-- RAW is an attribute of a function or of a time

abbrev no_function : Attribute → Bool
no_function attributes.LutRaw = false
no_function _ = true

abbrev pub no_ticks : Attribute → Bool
no_ticks attributes.TimeRaw = false
no_ticks _ = true

pub unlike : (p : Attribute → Bool) (a b : Attribute) → p a ≡ true → a ≡ b → p b ≡ false → ⊥
unlike p a b h e f = let k : p b ≡ true = subst (λ x. p x ≡ true) e h in cc

function_within : (t : FieldType) (i raw : ℕ) → i < length (attributes_of t) → slice_index_or (attributes_of t) i attributes.Info ≡ attributes.LutRaw → (is_kept_by t None ≡ true → IsRaw (field_kind t) raw) → raw < 2 ^ 32
function_within (types.ParamUint limit) i raw lt e h = absurd (unlike no_function _ _ (all_within no_function (attributes_of (types.ParamUint limit)) attributes.Info i refl lt) e refl)
function_within types.ParamInt i raw lt e h = absurd (unlike no_function _ _ (all_within no_function (attributes_of types.ParamInt) attributes.Info i refl lt) e refl)
function_within types.ParamBit i raw lt e h = absurd (unlike no_function _ _ (all_within no_function (attributes_of types.ParamBit) attributes.Info i refl lt) e refl)
function_within (types.ParamEnum labels) i raw lt e h = absurd (unlike no_function _ _ (all_within no_function (attributes_of (types.ParamEnum labels)) attributes.Info i refl lt) e refl)
function_within types.ParamLut i raw lt e h = h refl
function_within types.ReadUint i raw lt e h = absurd (unlike no_function _ _ (all_within no_function (attributes_of types.ReadUint) attributes.Info i refl lt) e refl)
function_within (types.ReadEnum labels) i raw lt e h = absurd (unlike no_function _ _ (all_within no_function (attributes_of (types.ReadEnum labels)) attributes.Info i refl lt) e refl)
function_within types.WriteAction i raw lt e h = absurd (unlike no_function _ _ (all_within no_function (attributes_of types.WriteAction) attributes.Info i refl lt) e refl)
function_within (types.Time limit) i raw lt e h = absurd (unlike no_function _ _ (all_within no_function (attributes_of (types.Time limit)) attributes.Info i refl lt) e refl)
function_within types.BitOut i raw lt e h = absurd (unlike no_function _ _ (all_within no_function (attributes_of types.BitOut) attributes.Info i refl lt) e refl)
function_within types.PosOut i raw lt e h = absurd (unlike no_function _ _ (all_within no_function (attributes_of types.PosOut) attributes.Info i refl lt) e refl)
function_within types.ExtOut i raw lt e h = absurd (unlike no_function _ _ (all_within no_function (attributes_of types.ExtOut) attributes.Info i refl lt) e refl)
function_within types.BitWord i raw lt e h = absurd (unlike no_function _ _ (all_within no_function (attributes_of types.BitWord) attributes.Info i refl lt) e refl)
function_within types.BitMux i raw lt e h = absurd (unlike no_function _ _ (all_within no_function (attributes_of types.BitMux) attributes.Info i refl lt) e refl)
function_within types.PosMux i raw lt e h = absurd (unlike no_function _ _ (all_within no_function (attributes_of types.PosMux) attributes.Info i refl lt) e refl)
function_within types.Table i raw lt e h = absurd (unlike no_function _ _ (all_within no_function (attributes_of types.Table) attributes.Info i refl lt) e refl)

pub function_small : (slot : Slot) (raw : ℕ) → IsSlot slot → attribute_at slot ≡ Some attributes.LutRaw → CanBe (field_slot slot) raw → raw < 2 ^ 32
function_small slot raw s e h =
    let w = which slot attributes.LutRaw s e in
    function_within (type_at slot) (slot.attr - 1) raw w.0 w.1 h

ticks_of : (t : FieldType) (i raw : ℕ) → i < length (attributes_of t) → slice_index_or (attributes_of t) i attributes.Info ≡ attributes.TimeRaw → raw ≤ limit_of t → is_kept_by t None ≡ true → IsRaw (field_kind t) raw
ticks_of (types.ParamUint limit) i raw lt e h k = absurd (unlike no_ticks _ _ (all_within no_ticks (attributes_of (types.ParamUint limit)) attributes.Info i refl lt) e refl)
ticks_of types.ParamInt i raw lt e h k = absurd (unlike no_ticks _ _ (all_within no_ticks (attributes_of types.ParamInt) attributes.Info i refl lt) e refl)
ticks_of types.ParamBit i raw lt e h k = absurd (unlike no_ticks _ _ (all_within no_ticks (attributes_of types.ParamBit) attributes.Info i refl lt) e refl)
ticks_of (types.ParamEnum labels) i raw lt e h k = absurd (unlike no_ticks _ _ (all_within no_ticks (attributes_of (types.ParamEnum labels)) attributes.Info i refl lt) e refl)
ticks_of types.ParamLut i raw lt e h k = absurd (unlike no_ticks _ _ (all_within no_ticks (attributes_of types.ParamLut) attributes.Info i refl lt) e refl)
ticks_of types.ReadUint i raw lt e h k = absurd (unlike no_ticks _ _ (all_within no_ticks (attributes_of types.ReadUint) attributes.Info i refl lt) e refl)
ticks_of (types.ReadEnum labels) i raw lt e h k = absurd (unlike no_ticks _ _ (all_within no_ticks (attributes_of (types.ReadEnum labels)) attributes.Info i refl lt) e refl)
ticks_of types.WriteAction i raw lt e h k = absurd (unlike no_ticks _ _ (all_within no_ticks (attributes_of types.WriteAction) attributes.Info i refl lt) e refl)
ticks_of (types.Time limit) i raw lt e h k = h
ticks_of types.BitOut i raw lt e h k = absurd (unlike no_ticks _ _ (all_within no_ticks (attributes_of types.BitOut) attributes.Info i refl lt) e refl)
ticks_of types.PosOut i raw lt e h k = absurd (unlike no_ticks _ _ (all_within no_ticks (attributes_of types.PosOut) attributes.Info i refl lt) e refl)
ticks_of types.ExtOut i raw lt e h k = absurd (unlike no_ticks _ _ (all_within no_ticks (attributes_of types.ExtOut) attributes.Info i refl lt) e refl)
ticks_of types.BitWord i raw lt e h k = absurd (unlike no_ticks _ _ (all_within no_ticks (attributes_of types.BitWord) attributes.Info i refl lt) e refl)
ticks_of types.BitMux i raw lt e h k = absurd (unlike no_ticks _ _ (all_within no_ticks (attributes_of types.BitMux) attributes.Info i refl lt) e refl)
ticks_of types.PosMux i raw lt e h k = absurd (unlike no_ticks _ _ (all_within no_ticks (attributes_of types.PosMux) attributes.Info i refl lt) e refl)
ticks_of types.Table i raw lt e h k = absurd (unlike no_ticks _ _ (all_within no_ticks (attributes_of types.Table) attributes.Info i refl lt) e refl)

-- a raw value in the range of what is assigned is in the range of its target

own_range : (u : ℕ) (slot : Slot) (o : Option Attribute) (raw : ℕ) → attribute_at slot ≡ o → IsRaw (kind_in u (type_at slot) o) raw → IsRaw (kind_of slot) raw
own_range u slot o raw e h =
    let P : Option Attribute → Type 0 = λ x. IsRaw (kind_by (type_at slot) x) raw in
    subst P (sym e) (range_kept u (type_at slot) o raw h)

target_by_range : (u : ℕ) (slot : Slot) (o : Option Attribute) (raw : ℕ) → IsSlot slot → attribute_at slot ≡ o → IsRaw (kind_in u (type_at slot) o) raw → CanBe (target_by o slot) raw
target_by_range u slot (Some attributes.TimeRaw) raw s e h k =
    let w = which slot attributes.TimeRaw s e in
    ticks_of (type_at slot) (slot.attr - 1) raw w.0 w.1 h k
target_by_range u slot o raw s e h k = own_range u slot o raw e h

pub target_range : (settings : Settings) (slot : Slot) (raw : ℕ) → IsSlot slot → IsRaw (kind_now settings slot) raw → CanBe (target slot) raw
target_range settings slot raw s h = target_by_range (raw_of settings (units_slot slot)) slot (attribute_at slot) raw s refl h

-- what reads as units is of no range

no_own : (slot : Slot) (o : Option Attribute) (raw : ℕ) → attribute_at slot ≡ o → is_kept_by (type_at slot) o ≡ false → CanBe slot raw
no_own slot o raw e h k =
    let kept : is_kept_by (type_at slot) o ≡ true = subst (λ x. is_kept_by (type_at slot) x ≡ true) e k in
    absurd (both_ways _ h kept)

units_by_range : (slot : Slot) (o : Option Attribute) (raw : ℕ) → attribute_at slot ≡ o → is_units o ≡ true → CanBe (target_by o slot) raw
units_by_range slot (Some attributes.Units) raw e u = no_own slot (Some attributes.Units) raw e refl
units_by_range slot o raw e u = absurd (cc)

pub units_range : (slot : Slot) (raw : ℕ) → is_units (attribute_at slot) ≡ true → CanBe (target slot) raw
units_range slot raw u = units_by_range slot (attribute_at slot) raw refl u

-- a text that is kept is short

-- what is read as units, or else as a value of this kind
abbrev pub given_by : Bool → FieldKind → List ℕ → Result ℕ Refusal
given_by units kind text = if units then units_given text else spelled kind text

given_units : (short : Bool) (raw : ℕ) → (if short then Ok 0 else Err refusals.ValueOutOfRange) ≡ Ok raw → short ≡ true
given_units true raw e = refl
given_units false raw e = absurd (cc)

given_function : (long : Bool) (read : Option ℕ) (raw : ℕ) → read_as (λ n. Ok n) (if long then None else read) ≡ Ok raw → long ≡ false
given_function true read raw e = absurd (cc)
given_function false read raw e = refl

units_short : (text : List ℕ) (raw : ℕ) → units_given text ≡ Ok raw → length text ≤ 128
units_short text raw e =
    let short : length text ≤ 32 = leb-true (length text) 32 (given_units (nat_le (length text) 32) raw e) in
    omega arith

function_short : (text : List ℕ) (raw : ℕ) → spelled kinds.Lut text ≡ Ok raw → length text ≤ 128
unfolding spelled function_of
function_short text raw e = ltb-false 128 (length text) (given_function (nat_lt 128 (length text)) _ raw e)

short_by : (u : ℕ) (t : FieldType) (o : Option Attribute) (text : List ℕ) (raw : ℕ) → given_by (is_units o) (kind_in u t o) text ≡ Ok raw → IfSome (kept_by t o text) (λ _. length text ≤ 128)
short_by u types.ParamLut None text raw h = function_short text raw h
short_by u t (Some attributes.Units) text raw h = units_short text raw h
short_by u t o text raw h = tt

-- what is given is given to a slot that takes a value
given_where : (a : Bool) (given : Result ℕ Refusal) (raw : ℕ) → (if not a then Err refusals.NotWriteable else given) ≡ Ok raw → (a ≡ true) × (given ≡ Ok raw)
given_where true given raw e = (refl, e)
given_where false given raw e = absurd (cc)

pub given_assignable : (settings : Settings) (slot : Slot) (text : List ℕ) (raw : ℕ) → Ok raw ≡ raw_given settings slot text → is_assignable slot ≡ true
unfolding raw_given
given_assignable settings slot text raw e = (given_where (is_assignable slot) _ raw (sym e)).0

pub given_of : (settings : Settings) (slot : Slot) (text : List ℕ) (raw : ℕ) → raw_given settings slot text ≡ Ok raw → given_by (is_units (attribute_at slot)) (kind_now settings slot) text ≡ Ok raw
unfolding raw_given
given_of settings slot text raw e = (given_where (is_assignable slot) _ raw e).1

pub kept_short : (settings : Settings) (slot : Slot) (text : List ℕ) (raw : ℕ) → Ok raw ≡ raw_given settings slot text → IfSome (kept_by (type_at slot) (attribute_at slot) text) (λ _. length text ≤ 128)
unfolding raw_given
kept_short settings slot text raw e =
    short_by (raw_of settings (units_slot slot)) (type_at slot) (attribute_at slot) text raw (given_where (is_assignable slot) _ raw (sym e)).1
