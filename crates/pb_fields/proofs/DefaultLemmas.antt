-- Where the catalogue has no field, there is no default but 0.
use Rattle.std.proofs.Common.{◌≡◌, ℕ, ◌-◌, ◌≤◌, Bool, true, false, cond, eqb, [], length, get_or, refl, ap, ◌∙◌, arith, Option, Some, None}
use Rattle.std.proofs.lemmas.Bool.{eqb-true}
use Rattle.std.proofs.lemmas.List.{get_or_past}
use Rattle.pb_fields.specs.declared.slots.Slot.{Slot}
use Rattle.pb_fields.specs.declared.types.FieldType.TheVariants as types
use Rattle.pb_fields.specs.declared.types.Attribute.{Attribute}
use Rattle.pb_fields.specs.declared.types.Attribute.TheVariants as attributes
use Rattle.pb_fields.specs.Types.{attributes_of, attribute_default}
use Rattle.pb_fields.specs.Catalogue.{FieldRow, block, field, catalogue}
use Rattle.pb_fields.specs.Places.{fields_of}
use Rattle.pb_fields.specs.Slots.{default_by, default_of}
use Rattle.pb_fields.proofs.RowLemmas.{all_at}

default_in : FieldRow → ℕ → ℕ
default_in row a =
    default_by row (cond {A = Option Attribute} (eqb a 0) None (Some (get_or (attributes_of row.holds) (a - 1) attributes.Info)))

empty_default : (a : ℕ) → default_in (field [] types.Table 0) a ≡ 0
unfolding default_in
empty_default a = by (eqb a 0)
  where
    by : (t : Bool) → default_by (field [] types.Table 0) (cond {A = Option Attribute} t None (Some (get_or (attributes_of types.Table) (a - 1) attributes.Info))) ≡ 0
    by true = refl
    by false =
        eqb-true _ 0 (all_at (λ x. eqb (attribute_default x) 0) (attributes_of types.Table) attributes.Info (a - 1) refl refl)

pub no_field_default : (slot : Slot) → length (fields_of slot.block) ≤ slot.field → default_of slot ≡ 0
unfolding default_in
no_field_default slot h =
    ap (λ row. default_in row slot.attr) (get_or_past (fields_of slot.block) slot.field (field [] types.Table 0) h)
    ∙ empty_default slot.attr

pub no_block_default : (slot : Slot) → 12 ≤ slot.block → default_of slot ≡ 0
unfolding catalogue
no_block_default slot h =
    no_field_default slot (omega (arith, ap (λ r. length r.fields) (get_or_past catalogue slot.block (block [] 0 []) h)))

pub ruleset defaults = (no_field_default, no_block_default)
