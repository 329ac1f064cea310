-- The read fields take the raw value 0.
use Rattle.std.proofs.Common.{◌≡◌, ℕ, Bool, true, false, cond, eqb, ltb, length, Option, Some, refl, arith}
use Rattle.std.proofs.lemmas.Bool.{ltb-true}
use Rattle.pb_fields.specs.declared.Slot.{Slot}
use Rattle.pb_fields.specs.declared.FieldKind.{FieldKind}
use Rattle.pb_fields.specs.declared.FieldKind.TheVariants as kinds
use Rattle.pb_fields.specs.Catalogue.{catalogue}
use Rattle.pb_fields.specs.Labels.{label_list}
use Rattle.pb_fields.specs.Places.{type_of}
use Rattle.pb_fields.specs.Slots.{IsSlot, type_at, kind_of}
use Rattle.pb_fields.specs.Types.{field_kind, role_of}
use Rattle.pb_fields.specs.Values.{IsRaw}
use Rattle.pb_fields.proofs.RunLemmas.{of_fields}
use Rattle.pb_fields.proofs.EntryLaws.{agree}
use Rattle.pb_changes.specs.declared.Group.TheVariants as groups
use Rattle.pb_changes.specs.Groups.{is_in, is_read}

-- the kind has the raw value 0, and is a number or a label
takes_zero : FieldKind → Bool
takes_zero (kinds.Uint limit) = true
takes_zero (kinds.Enum labels) = ltb 0 (length (label_list labels))
takes_zero kind = false

zero_raw : (kind : FieldKind) → takes_zero kind ≡ true → IsRaw kind 0
unfolding takes_zero
zero_raw (kinds.Uint limit) h = omega arith
zero_raw (kinds.Enum labels) h = ltb-true 0 (length (label_list labels)) h
zero_raw kinds.Int h = cc
zero_raw kinds.Bit h = cc
zero_raw kinds.BitMux h = cc
zero_raw kinds.PosMux h = cc
zero_raw kinds.Decimal h = cc
zero_raw (kinds.Time limit units) h = cc
zero_raw kinds.Lut h = cc
zero_raw kinds.Action h = cc
zero_raw kinds.Text h = cc

read_kind : ℕ → ℕ → ℕ → Option Bool
read_kind b i f = Some (cond (is_read (role_of (type_of b f))) (takes_zero (field_kind (type_of b f))) true)

yes : ℕ → ℕ → ℕ → Option Bool
yes b i f = Some true

all_zero : of_fields read_kind ≡ of_fields yes
unfolding read_kind yes takes_zero catalogue label_list
all_zero = refl

some_of : {X : Type 0} (x y : X) → Some x ≡ Some y → x ≡ y
some_of x y h = cc

pub reads_zero : (slot : Slot) → IsSlot slot → is_in groups.Read slot ≡ true → IsRaw (kind_of slot) 0
unfolding read_kind yes
reads_zero slot s read = by (eqb slot.attr 0) refl
  where
    by : (b : Bool) → eqb slot.attr 0 ≡ b → IsRaw (kind_of slot) 0
    by true e =
        let field : is_read (role_of (type_at slot)) ≡ true = rw e at read in
        let all = some_of _ _ (agree read_kind yes all_zero slot s) in
        let zero : takes_zero (field_kind (type_at slot)) ≡ true = rw field at all in
        rw e (zero_raw (field_kind (type_at slot)) zero)
    by false e =
        let none : false ≡ true = rw e at read in
        cc
