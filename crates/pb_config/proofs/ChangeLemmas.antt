-- What an assignment tells the box is a change that it takes.
use Rattle.std.proofs.Common.{◌≡◌, ℕ, ◌-◌, ◌<◌, Bool, true, false, length, Option, Some, None, slice_index_or, List, IfSome, if◌then◌else◌, refl, sym, subst}
use Rattle.pb_fields.specs.declared.Slot.{Slot}
use Rattle.pb_fields.specs.declared.FieldType.{FieldType}
use Rattle.pb_fields.specs.declared.FieldType.TheVariants as types
use Rattle.pb_fields.specs.declared.Attribute.{Attribute}
use Rattle.pb_fields.specs.declared.Attribute.TheVariants as attributes
use Rattle.pb_fields.specs.Types.{attributes_of, role_of}
use Rattle.pb_fields.specs.Slots.{IsSlot, type_at, attribute_at}
use Rattle.pb_fields.proofs.RowLemmas.{all_within}
use Rattle.pb_model.specs.declared.Change.{Change}
use Rattle.pb_model.specs.declared.Change.TheVariants as changes
use Rattle.pb_model.specs.declared.Block.{Block}
use Rattle.pb_model.specs.Changes.{is_taken, is_taken_by, is_taken_role, IsSet, IsChange}
use Rattle.pb_config.specs.Assigning.{is_assignable_by, is_assignable, target_by, target, changes_box, change_of}
use Rattle.pb_config.specs.Kept.{is_kept_by, CanBe}
use Rattle.pb_config.proofs.KindLemmas.{which, unlike, no_ticks}

time_by_ticks : (t : FieldType) (i : ℕ) → i < length (attributes_of t) → slice_index_or (attributes_of t) i attributes.Info ≡ attributes.TimeRaw → is_taken_role (role_of t) ≡ true
time_by_ticks (types.ParamUint limit) i lt e = absurd (unlike no_ticks _ _ (all_within no_ticks (attributes_of (types.ParamUint limit)) attributes.Info i refl lt) e refl)
time_by_ticks types.ParamInt i lt e = absurd (unlike no_ticks _ _ (all_within no_ticks (attributes_of types.ParamInt) attributes.Info i refl lt) e refl)
time_by_ticks types.ParamBit i lt e = absurd (unlike no_ticks _ _ (all_within no_ticks (attributes_of types.ParamBit) attributes.Info i refl lt) e refl)
time_by_ticks (types.ParamEnum labels) i lt e = absurd (unlike no_ticks _ _ (all_within no_ticks (attributes_of (types.ParamEnum labels)) attributes.Info i refl lt) e refl)
time_by_ticks types.ParamLut i lt e = absurd (unlike no_ticks _ _ (all_within no_ticks (attributes_of types.ParamLut) attributes.Info i refl lt) e refl)
time_by_ticks types.ReadUint i lt e = absurd (unlike no_ticks _ _ (all_within no_ticks (attributes_of types.ReadUint) attributes.Info i refl lt) e refl)
time_by_ticks (types.ReadEnum labels) i lt e = absurd (unlike no_ticks _ _ (all_within no_ticks (attributes_of (types.ReadEnum labels)) attributes.Info i refl lt) e refl)
time_by_ticks types.WriteAction i lt e = absurd (unlike no_ticks _ _ (all_within no_ticks (attributes_of types.WriteAction) attributes.Info i refl lt) e refl)
time_by_ticks (types.Time limit) i lt e = refl
time_by_ticks types.BitOut i lt e = absurd (unlike no_ticks _ _ (all_within no_ticks (attributes_of types.BitOut) attributes.Info i refl lt) e refl)
time_by_ticks types.PosOut i lt e = absurd (unlike no_ticks _ _ (all_within no_ticks (attributes_of types.PosOut) attributes.Info i refl lt) e refl)
time_by_ticks types.ExtOut i lt e = absurd (unlike no_ticks _ _ (all_within no_ticks (attributes_of types.ExtOut) attributes.Info i refl lt) e refl)
time_by_ticks types.BitWord i lt e = absurd (unlike no_ticks _ _ (all_within no_ticks (attributes_of types.BitWord) attributes.Info i refl lt) e refl)
time_by_ticks types.BitMux i lt e = absurd (unlike no_ticks _ _ (all_within no_ticks (attributes_of types.BitMux) attributes.Info i refl lt) e refl)
time_by_ticks types.PosMux i lt e = absurd (unlike no_ticks _ _ (all_within no_ticks (attributes_of types.PosMux) attributes.Info i refl lt) e refl)
time_by_ticks types.Table i lt e = absurd (unlike no_ticks _ _ (all_within no_ticks (attributes_of types.Table) attributes.Info i refl lt) e refl)

own_taken : (slot : Slot) (o : Option Attribute) → attribute_at slot ≡ o → is_taken_by (type_at slot) o ≡ true → is_taken slot ≡ true
own_taken slot o e h = subst (λ x. is_taken_by (type_at slot) x ≡ true) (sym e) h

taken_by : (slot : Slot) (o : Option Attribute) → IsSlot slot → attribute_at slot ≡ o → is_assignable_by (type_at slot) o ≡ true → changes_box o ≡ true → is_taken (target_by o slot) ≡ true
taken_by slot None s e k h = own_taken slot None e k
taken_by slot (Some attributes.TimeRaw) s e k h =
    let w = which slot attributes.TimeRaw s e in
    time_by_ticks (type_at slot) (slot.attr - 1) w.0 w.1
taken_by slot (Some attributes.Delay) s e k h = own_taken slot (Some attributes.Delay) e refl
taken_by slot o s e k h = absurd (cc)

kept_where_taken : (t : FieldType) (o : Option Attribute) → is_taken_by t o ≡ true → is_kept_by t o ≡ true
kept_where_taken t None h = h
kept_where_taken t (Some attributes.Delay) h = refl
kept_where_taken t o h = absurd (cc)

change_where : (blocks : List Block) (b : Bool) (slot : Slot) (raw : ℕ) → (b ≡ true → IsSet slot raw) → IfSome (if b then Some (changes.Set slot raw) else None) (λ change. IsChange blocks change)
change_where blocks true slot raw h = h refl
change_where blocks false slot raw h = tt

pub change_allowed : (blocks : List Block) (slot : Slot) (raw : ℕ) (told : Option Change) → told ≡ change_of slot raw → IsSlot slot → IsSlot (target slot) → is_assignable slot ≡ true → CanBe (target slot) raw → IfSome told (λ change. IsChange blocks change)
change_allowed blocks slot raw told e s it k r =
    subst (λ t. IfSome t (λ change. IsChange blocks change)) (sym e)
    (change_where blocks (changes_box (attribute_at slot)) (target slot) raw (λ h.
    let taken : is_taken (target slot) ≡ true = taken_by slot (attribute_at slot) s refl k h in
    record {
      in_catalogue = it;
      taken = taken;
      in_range = r (kept_where_taken (type_at (target slot)) (attribute_at (target slot)) taken);
    }))
