-- What a report shows of a slot is what its query is answered.
use Rattle.std.proofs.Common.{◌≡◌, ℕ, ◌-◌, ◌==◌, ◌||◌, Bool, true, false, List, slice_index_or, Some, None, Ok, Err, refl, ap, ◌∙◌}
use Rattle.std.specs.Prelude.{if◌then◌else◌}
use Rattle.pb_words.specs.declared.Refusal.TheVariants as refusals
use Rattle.pb_names.specs.declared.TheConstants.{ITSELF}
use Rattle.pb_fields.specs.declared.Slot.{Slot}
use Rattle.pb_fields.specs.declared.Role.TheVariants as roles
use Rattle.pb_fields.specs.declared.FieldType.{FieldType}
use Rattle.pb_fields.specs.declared.FieldType.TheVariants as types
use Rattle.pb_fields.specs.declared.Attribute.{Attribute}
use Rattle.pb_fields.specs.declared.Attribute.TheVariants as attributes
use Rattle.pb_fields.specs.Types.{role_of}
use Rattle.pb_fields.specs.Slots.{type_at, attributes_at}
use Rattle.pb_model.specs.Tick.{Standing}
use Rattle.pb_config.specs.Settings.{Settings}
use Rattle.pb_config.specs.Showing.{is_readable_by, shown_at}
use Rattle.pb_replies.specs.Replies.{value_reply}
use Rattle.pb_changes.specs.declared.Group.TheVariants as groups
use Rattle.pb_changes.specs.Groups.{is_in, is_settled, is_setting, is_own, is_bit_out, is_pos_out, is_read}
use Rattle.pb_core.specs.Queries.{field_reply, attribute_reply, readable_reply, slot_reply}
use Rattle.pb_core.specs.Telling.{shown_as, shown_now}

-- the slot has a value in reports
abbrev has_value : Bool → FieldType → Attribute → Bool
has_value b t a =
    (is_setting (if b then role_of t else roles.Attr) || is_own (if b then None else Some a)
    || is_bit_out (if b then role_of t else roles.Attr) || is_pos_out (if b then role_of t else roles.Attr))
    || is_read (if b then role_of t else roles.Attr)

record IsAnswered (readable : Bool) (reply shown : List ℕ) : Type 0 where
  can : readable ≡ true
  same : reply ≡ value_reply shown

field_answered : (settings : Settings) (box : Standing) (slot : Slot) (t : FieldType) (a : Attribute) → has_value true t a ≡ true →
    IsAnswered (is_readable_by t None) (field_reply settings box slot t) (shown_as settings box slot (role_of t))
field_answered settings box slot (types.ParamUint limit) a e = record { can = refl; same = refl }
field_answered settings box slot types.ParamInt a e = record { can = refl; same = refl }
field_answered settings box slot types.ParamBit a e = record { can = refl; same = refl }
field_answered settings box slot (types.ParamEnum labels) a e = record { can = refl; same = refl }
field_answered settings box slot types.ParamLut a e = record { can = refl; same = refl }
field_answered settings box slot types.ReadUint a e = record { can = refl; same = refl }
field_answered settings box slot (types.ReadEnum labels) a e = record { can = refl; same = refl }
field_answered settings box slot (types.Time limit) a e = record { can = refl; same = refl }
field_answered settings box slot types.BitOut a e = record { can = refl; same = refl }
field_answered settings box slot types.PosOut a e = record { can = refl; same = refl }
field_answered settings box slot types.BitMux a e = record { can = refl; same = refl }
field_answered settings box slot types.PosMux a e = record { can = refl; same = refl }
field_answered settings box slot _ a e = absurd (cc)

attribute_answered : (settings : Settings) (box : Standing) (slot : Slot) (t : FieldType) (a : Attribute) → has_value false t a ≡ true →
    attribute_reply settings box slot a ≡ value_reply (shown_at settings slot)
attribute_answered settings box slot t attributes.TimeUnits e = refl
attribute_answered settings box slot t attributes.PosCapture e = refl
attribute_answered settings box slot t attributes.Offset e = refl
attribute_answered settings box slot t attributes.Scale e = refl
attribute_answered settings box slot t attributes.Units e = refl
attribute_answered settings box slot t attributes.ExtCapture e = refl
attribute_answered settings box slot t attributes.Delay e = refl
attribute_answered settings box slot t _ e = absurd (cc)

answered_by : (settings : Settings) (box : Standing) (slot : Slot) (b : Bool) (a : Attribute) → has_value b (type_at slot) a ≡ true →
    (if is_readable_by (type_at slot) (if b then None else Some a) then Ok (readable_reply settings box slot (if b then None else Some a)) else Err refusals.NotReadable)
    ≡ Ok (value_reply (shown_as settings box slot (if b then role_of (type_at slot) else roles.Attr)))
answered_by settings box slot true a e =
    let f : IsAnswered (is_readable_by (type_at slot) None) (field_reply settings box slot (type_at slot)) (shown_as settings box slot (role_of (type_at slot))) =
    field_answered settings box slot (type_at slot) a e in
    ap (λ b. if b then Ok (field_reply settings box slot (type_at slot)) else Err refusals.NotReadable) f.can ∙ ap (λ (x : List ℕ). Ok x) f.same
answered_by settings box slot false a e = ap (λ (x : List ℕ). Ok x) (attribute_answered settings box slot (type_at slot) a e)

pub shown_is_answered : (settings : Settings) (box : Standing) (slot : Slot) → (is_settled slot || is_in groups.Read slot) ≡ true →
    slot_reply settings box slot ≡ Ok (value_reply (shown_now settings box slot))
shown_is_answered settings box slot e =
    answered_by settings box slot (slot.attr == ITSELF) (slice_index_or (attributes_at slot) (slot.attr - 1) attributes.Info) e
