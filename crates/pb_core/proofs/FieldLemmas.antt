-- What a query rests on: where the words of the bit bus stand, and what a block reports.
use Rattle.std.proofs.Common.{◌≡◌, ℕ, ◌-◌, ◌<◌, ◌≤◌, ◌&&◌, ◌||◌, ◌==◌, Bool, true, false, List, length, slice_index_or, Option, Some, None, leb, refl, sym, ap, subst, ◌∙◌}
use Rattle.std.specs.Prelude.{if◌then◌else◌}
use Rattle.pb_names.specs.declared.TheConstants.{ITSELF}
use Rattle.pb_fields.specs.declared.Role.TheVariants as roles
use Rattle.std.specs.List.{list_all}
use Rattle.std.proofs.lemmas.Bool.{leb-true}
use Rattle.pb_names.specs.declared.pcap.TheConstants as pcap
use Rattle.pb_fields.specs.declared.Slot.{Slot}
use Rattle.pb_fields.specs.declared.FieldType.{FieldType}
use Rattle.pb_fields.specs.declared.FieldType.TheVariants as types
use Rattle.pb_fields.specs.declared.Attribute.{Attribute}
use Rattle.pb_fields.specs.declared.Attribute.TheVariants as attributes
use Rattle.pb_fields.specs.Types.{attributes_of, field_kind, role_of}
use Rattle.pb_fields.specs.Catalogue.{catalogue}
use Rattle.pb_fields.specs.Places.{type_of}
use Rattle.pb_fields.specs.Slots.{IsSlot, type_at, attributes_at, attribute_at, kind_by, kind_of, role_at}
use Rattle.pb_fields.specs.Values.{IsShownKind}
use Rattle.pb_fields.proofs.RowLemmas.{and_left, and_right, all_within}
use Rattle.pb_config.proofs.KindLemmas.{which, unlike}
use Rattle.pb_config.proofs.TextLemmas.{all_of, at_each}
use Rattle.pb_core.specs.Helpers.{is_reported}

-- BITS is an attribute of the words of the bit bus alone, which are fields of PCAP one after the other

abbrev no_bits : Attribute → Bool
no_bits attributes.Bits = false
no_bits _ = true

is_placed : ℕ → ℕ → ℕ → Bool
is_placed b f a = list_all no_bits (attributes_of (type_of b f)) || (leb pcap.BITS0 f && leb f pcap.BITS3)

all_placed : all_of is_placed ≡ true
unfolding is_placed catalogue
all_placed = refl

word_by : (b : Bool) (ts : List Attribute) (i f : ℕ) → list_all no_bits ts ≡ b → i < length ts → slice_index_or ts i attributes.Info ≡ attributes.Bits → (b || (leb pcap.BITS0 f && leb f pcap.BITS3)) ≡ true → (pcap.BITS0 ≤ f) × (f ≤ pcap.BITS3)
word_by true ts i f k lt e h = absurd (unlike no_bits _ _ (all_within no_bits ts attributes.Info i k lt) e refl)
word_by false ts i f k lt e h = (leb-true pcap.BITS0 f (and_left _ _ h), leb-true f pcap.BITS3 (and_right _ _ h))

pub word_within : (slot : Slot) → IsSlot slot → attribute_at slot ≡ Some attributes.Bits → (pcap.BITS0 ≤ slot.field) × (slot.field ≤ pcap.BITS3)
unfolding is_placed
word_within slot s e =
    let w = which slot attributes.Bits s e in
    word_by (list_all no_bits (attributes_of (type_at slot))) (attributes_of (type_at slot)) (slot.attr - 1) slot.field refl w.0 w.1 (at_each is_placed all_placed slot s)

-- what a block reports

role_by : (b : Bool) (t : FieldType) (a : Attribute) → (if b then None else Some a) ≡ None → (if b then role_of t else roles.Attr) ≡ role_of t
role_by true t a e = refl
role_by false t a e = absurd (cc)

field_role : (slot : Slot) → attribute_at slot ≡ None → role_at slot ≡ role_of (type_at slot)
field_role slot e = role_by (slot.attr == ITSELF) (type_at slot) (slice_index_or (attributes_at slot) (slot.attr - 1) attributes.Info) e

role_read : (t : FieldType) → is_reported t ≡ true → role_of t ≡ roles.Read
role_read types.ReadUint r = refl
role_read (types.ReadEnum labels) r = refl
role_read _ r = absurd (cc)

pub reported_read : (slot : Slot) → attribute_at slot ≡ None → is_reported (type_at slot) ≡ true → role_at slot ≡ roles.Read
reported_read slot e r = field_role slot e ∙ role_read (type_at slot) r

-- what outputs are

pub level_role : (slot : Slot) → attribute_at slot ≡ None → type_at slot ≡ types.BitOut → role_at slot ≡ roles.BitOut
level_role slot e t = field_role slot e ∙ ap role_of t

pub position_role : (slot : Slot) → attribute_at slot ≡ None → type_at slot ≡ types.PosOut → role_at slot ≡ roles.PosOut
position_role slot e t = field_role slot e ∙ ap role_of t

shown_by : (t : FieldType) → is_reported t ≡ true → IsShownKind (field_kind t)
shown_by types.ReadUint r = tt
shown_by (types.ReadEnum labels) r = tt
shown_by _ r = absurd (cc)

pub reported_shown : (slot : Slot) → attribute_at slot ≡ None → is_reported (type_at slot) ≡ true → IsShownKind (kind_of slot)
reported_shown slot e r =
    let P : Option Attribute → Type 0 = λ o. IsShownKind (kind_by (type_at slot) o) in
    subst P (sym e) (shown_by (type_at slot) r)
