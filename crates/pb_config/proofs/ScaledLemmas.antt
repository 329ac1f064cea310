-- SCALE and OFFSET of a position that is shown scaled.
use Rattle.std.proofs.Common.{◌≡◌, ℕ, ◌-◌, ◌<◌, ◌≤◌, ◌*◌, ◌^◌, ℤ, pos, negsuc, ◌*ℤ◌, FitsSigned, Bool, true, false, length, Option, Some, slice_index_or, unsigned_abs, inl, inr, refl, sym, ap, subst, arith}
use Rattle.std.proofs.lemmas.Bool.{cases_eq}
use Rattle.std.proofs.lemmas.Int.{unsigned_abs-mul}
use Rattle.std.proofs.lemmas.Nat.{mul-le}
use Rattle.std.specs.Int.{w32, w64, cast_signed}
use Rattle.pb_fields.specs.declared.Slot.{Slot}
use Rattle.pb_fields.specs.declared.FieldType.{FieldType}
use Rattle.pb_fields.specs.declared.FieldType.TheVariants as types
use Rattle.pb_fields.specs.declared.FieldKind.TheVariants as kinds
use Rattle.pb_fields.specs.declared.Attribute.{Attribute}
use Rattle.pb_fields.specs.declared.Attribute.TheVariants as attributes
use Rattle.pb_fields.specs.Types.{attributes_of}
use Rattle.pb_fields.specs.Slots.{IsSlot, type_at, attribute_at, attributes_at, kind_by}
use Rattle.pb_fields.specs.Values.{IsRaw}
use Rattle.pb_fields.proofs.RowLemmas.{all_within}
use Rattle.pb_config.specs.Showing.{is_scaled_by, is_scaled}
use Rattle.pb_config.specs.Kept.{CanBe, is_kept_by}
use Rattle.pb_config.proofs.TextLemmas.{attribute_by}
use Rattle.pb_config.proofs.KindLemmas.{which, unlike}

abbrev not_scaled : Attribute → Bool
not_scaled attributes.Scaled = false
not_scaled _ = true

-- only a position has the attribute

scaled_type : (t : FieldType) (i : ℕ) → i < length (attributes_of t) → slice_index_or (attributes_of t) i attributes.Info ≡ attributes.Scaled → t ≡ types.PosOut
scaled_type (types.ParamUint limit) i lt e = absurd (unlike not_scaled _ _ (all_within not_scaled (attributes_of (types.ParamUint limit)) attributes.Info i refl lt) e refl)
scaled_type types.ParamInt i lt e = absurd (unlike not_scaled _ _ (all_within not_scaled (attributes_of types.ParamInt) attributes.Info i refl lt) e refl)
scaled_type types.ParamBit i lt e = absurd (unlike not_scaled _ _ (all_within not_scaled (attributes_of types.ParamBit) attributes.Info i refl lt) e refl)
scaled_type (types.ParamEnum labels) i lt e = absurd (unlike not_scaled _ _ (all_within not_scaled (attributes_of (types.ParamEnum labels)) attributes.Info i refl lt) e refl)
scaled_type types.ParamLut i lt e = absurd (unlike not_scaled _ _ (all_within not_scaled (attributes_of types.ParamLut) attributes.Info i refl lt) e refl)
scaled_type types.ReadUint i lt e = absurd (unlike not_scaled _ _ (all_within not_scaled (attributes_of types.ReadUint) attributes.Info i refl lt) e refl)
scaled_type (types.ReadEnum labels) i lt e = absurd (unlike not_scaled _ _ (all_within not_scaled (attributes_of (types.ReadEnum labels)) attributes.Info i refl lt) e refl)
scaled_type types.WriteAction i lt e = absurd (unlike not_scaled _ _ (all_within not_scaled (attributes_of types.WriteAction) attributes.Info i refl lt) e refl)
scaled_type (types.Time limit) i lt e = absurd (unlike not_scaled _ _ (all_within not_scaled (attributes_of (types.Time limit)) attributes.Info i refl lt) e refl)
scaled_type types.BitOut i lt e = absurd (unlike not_scaled _ _ (all_within not_scaled (attributes_of types.BitOut) attributes.Info i refl lt) e refl)
scaled_type types.PosOut i lt e = refl
scaled_type types.ExtOut i lt e = absurd (unlike not_scaled _ _ (all_within not_scaled (attributes_of types.ExtOut) attributes.Info i refl lt) e refl)
scaled_type types.BitWord i lt e = absurd (unlike not_scaled _ _ (all_within not_scaled (attributes_of types.BitWord) attributes.Info i refl lt) e refl)
scaled_type types.BitMux i lt e = absurd (unlike not_scaled _ _ (all_within not_scaled (attributes_of types.BitMux) attributes.Info i refl lt) e refl)
scaled_type types.PosMux i lt e = absurd (unlike not_scaled _ _ (all_within not_scaled (attributes_of types.PosMux) attributes.Info i refl lt) e refl)
scaled_type types.Table i lt e = absurd (unlike not_scaled _ _ (all_within not_scaled (attributes_of types.Table) attributes.Info i refl lt) e refl)

which_is_scaled : (o : Option Attribute) → is_scaled_by o ≡ true → o ≡ Some attributes.Scaled
which_is_scaled (Some attributes.Scaled) e = refl
which_is_scaled o e = absurd (cc)

is_position : (slot : Slot) → IsSlot slot → is_scaled slot ≡ true → type_at slot ≡ types.PosOut
is_position slot s e =
    let w = which slot attributes.Scaled s (which_is_scaled (attribute_at slot) e) in
    scaled_type (type_at slot) (slot.attr - 1) w.0 w.1

-- a position has SCALE and OFFSET
pub decimal_there : (slot : Slot) (attr : ℕ) → IsSlot slot → is_scaled slot ≡ true → attr ≤ 4 → IsSlot (record slot { attr = attr })
decimal_there slot attr s e le =
    let six : length (attributes_at slot) ≡ 6 = ap (λ t. length (attributes_of t)) (is_position slot s e) in
    record {
      in_blocks = s.in_blocks;
      from_one = s.from_one;
      in_count = s.in_count;
      in_fields = s.in_fields;
      in_attributes = omega arith;
    }

-- and they are decimals

of_position : (t : FieldType) (attr raw : ℕ) → t ≡ types.PosOut → 3 ≤ attr → attr ≤ 4 → (is_kept_by t (attribute_by t attr) ≡ true → IsRaw (kind_by t (attribute_by t attr)) raw) → IsRaw kinds.Decimal raw
of_position t attr raw e low high h =
    let P : FieldType → ℕ → Type 0 = λ t a. is_kept_by t (attribute_by t a) ≡ true → IsRaw (kind_by t (attribute_by t a)) raw in
    let at : P types.PosOut attr = subst (λ t. P t attr) e h in
    elim (cases_eq attr 3) [
      | inl three ↦ subst (λ a. P types.PosOut a) three at refl
      | inr n ↦ let four : attr ≡ 4 = omega arith in subst (λ a. P types.PosOut a) four at refl
    ]

pub decimal_range : (slot : Slot) (attr raw : ℕ) → IsSlot slot → is_scaled slot ≡ true → 3 ≤ attr → attr ≤ 4 → CanBe (record slot { attr = attr }) raw → unsigned_abs (cast_signed w64 raw) < 10 ^ 18
decimal_range slot attr raw s e low high h = (of_position (type_at slot) attr raw (is_position slot s e) low high h).1

abs_within : (z : ℤ) → FitsSigned w32 z → unsigned_abs z ≤ 2 ^ 31
abs_within (pos n) f = omega (arith, f.sfits)
abs_within (negsuc n) f = omega (arith, f.sfits)

pub product_range : (value scale : ℤ) → FitsSigned w32 value → unsigned_abs scale < 10 ^ 18 → unsigned_abs (value *ℤ scale) ≤ 2 ^ 31 * 10 ^ 18
product_range value scale fits small =
    subst (λ n. n ≤ 2 ^ 31 * 10 ^ 18) (sym (unsigned_abs-mul value scale))
    (mul-le (unsigned_abs value) (unsigned_abs scale) (2 ^ 31) (10 ^ 18) (abs_within value fits) (omega (arith, small)))
