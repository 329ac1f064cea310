-- What a report sees of what is kept: it agrees with the past of the core, and shows what the core shows.
use Rattle.std.proofs.Common.{◌≡◌, ◌-◌, ◌==◌, ◌||◌, Bool, true, false, ◌∷◌, slice_index_or, Some, None, refl, ap, ◌∙◌, arith}
use Rattle.std.specs.Prelude.{if◌then◌else◌}
use Rattle.pb_names.specs.declared.TheConstants.{ITSELF}
use Rattle.pb_fields.specs.declared.Slot.{Slot}
use Rattle.pb_fields.specs.declared.Role.{Role}
use Rattle.pb_fields.specs.declared.Role.TheVariants as roles
use Rattle.pb_fields.specs.declared.FieldKind.TheVariants as kinds
use Rattle.pb_fields.specs.declared.FieldType.{FieldType}
use Rattle.pb_fields.specs.declared.FieldType.TheVariants as types
use Rattle.pb_fields.specs.declared.Attribute.{Attribute}
use Rattle.pb_fields.specs.declared.Attribute.TheVariants as attributes
use Rattle.pb_fields.specs.Types.{role_of}
use Rattle.pb_fields.specs.Slots.{type_at, attributes_at, kind_by, kind_of, role_at}
use Rattle.pb_buses.specs.Buses.{last_change}
use Rattle.pb_buses.specs.declared.Bus.{Bus}
use Rattle.pb_model.specs.Tick.{Standing}
use Rattle.pb_model.specs.Kept.{stands_of}
use Rattle.pb_config.specs.Settings.{Settings}
use Rattle.pb_config.specs.Showing.{is_line, is_line_by, is_readable, is_readable_by, shown_at}
use Rattle.pb_changes.specs.declared.Group.TheVariants as groups
use Rattle.pb_changes.specs.Groups.{is_in, is_settled, is_setting, is_own, is_bit_out, is_pos_out, is_read}
use Rattle.pb_changes.specs.Past.{AgreesWithPast}
use Rattle.pb_core.specs.Core.{CoreState}
use Rattle.pb_core.specs.Kept.{KeptCore, box_of, Agrees}
use Rattle.pb_core.specs.Telling.{past_of, shown_as, shown_now, shows_of}
use Rattle.pb_core.specs.Helpers.{told_of}

pub face_agrees : (kept : KeptCore) (core : CoreState) → Agrees kept core → AgreesWithPast (told_of kept.config (box_of kept)) (past_of core)
face_agrees kept core h =
    let bus : (box_of kept).buses.bus ≡ core.box.stands.bus = ap (λ (s : Standing). s.bus) h.run.box.stands in
    record {
      assignments = h.assigned.total;
      assigned = h.assigned.each;
      states = omega (arith, h.run.box.ticks);
      changed = λ entry within. h.run.box.changes.changes entry within ∙ ap (λ (b : Bus). last_change entry (b ∷ core.box.past)) bus;
    }

pub shows_same : (kept : KeptCore) (core : CoreState) → Agrees kept core → shown_now kept.config.settings (stands_of (box_of kept)) ≡ shows_of core
shows_same kept core h =
    ap (λ (s : Settings). shown_now s (stands_of (box_of kept))) h.settings ∙ ap (λ (b : Standing). shown_now core.settings b) h.run.box.stands

-- Which slots a report asks for.

read_by : (role : Role) → is_read role ≡ true → role ≡ roles.Read
read_by roles.Read e = refl
read_by _ e = absurd (cc)

-- a read field
pub read_role : (slot : Slot) → is_in groups.Read slot ≡ true → role_at slot ≡ roles.Read
read_role slot e = read_by (role_at slot) e

-- A setting or an attribute is a line that can be read.

line_of_role : (t : FieldType) → is_setting (role_of t) ≡ true → (is_line_by t None ≡ true) × (is_readable_by t None ≡ true)
line_of_role (types.ParamUint limit) e = (refl, refl)
line_of_role types.ParamInt e = (refl, refl)
line_of_role types.ParamBit e = (refl, refl)
line_of_role (types.ParamEnum labels) e = (refl, refl)
line_of_role types.ParamLut e = (refl, refl)
line_of_role (types.Time limit) e = (refl, refl)
line_of_role types.BitMux e = (refl, refl)
line_of_role types.PosMux e = (refl, refl)
line_of_role _ e = absurd (cc)

line_of_own : (t : FieldType) (a : Attribute) → is_own (Some a) ≡ true → (is_line_by t (Some a) ≡ true) × (is_readable_by t (Some a) ≡ true)
line_of_own t attributes.TimeUnits e = (refl, refl)
line_of_own t attributes.PosCapture e = (refl, refl)
line_of_own t attributes.Offset e = (refl, refl)
line_of_own t attributes.Scale e = (refl, refl)
line_of_own t attributes.Units e = (refl, refl)
line_of_own t attributes.ExtCapture e = (refl, refl)
line_of_own t attributes.Delay e = (refl, refl)
line_of_own t _ e = absurd (cc)

abbrev settled_by : Bool → FieldType → Attribute → Bool
settled_by b t a =
    is_setting (if b then role_of t else roles.Attr) || is_own (if b then None else Some a)
    || is_bit_out (if b then role_of t else roles.Attr) || is_pos_out (if b then role_of t else roles.Attr)

or_first : (a b c d : Bool) → c ≡ false → d ≡ false → (a || b || c || d) ≡ true → (a || b) ≡ true
or_first true b c d e f h = refl
or_first false true c d e f h = refl
or_first false false c d e f h = absurd (rest c d e f h)
  where
    rest : (c d : Bool) → c ≡ false → d ≡ false → (c || d) ≡ true → ⊥
    rest true d e f h = cc
    rest false true e f h = cc
    rest false false e f h = cc

line_by : (b : Bool) (t : FieldType) (a : Attribute) → settled_by b t a ≡ true →
    is_bit_out (if b then role_of t else roles.Attr) ≡ false → is_pos_out (if b then role_of t else roles.Attr) ≡ false →
    (is_line_by t (if b then None else Some a) ≡ true) × (is_readable_by t (if b then None else Some a) ≡ true)
line_by true t a e n m = line_of_role t (first (is_setting (role_of t)) (or_first (is_setting (role_of t)) false _ _ n m e))
  where
    first : (x : Bool) → (x || false) ≡ true → x ≡ true
    first true h = refl
    first false h = cc
line_by false t a e n m = line_of_own t a (or_first false (is_own (Some a)) false false refl refl e)

pub setting_line : (slot : Slot) → is_settled slot ≡ true → is_bit_out (role_at slot) ≡ false → is_pos_out (role_at slot) ≡ false →
    (is_line slot ≡ true) × (is_readable slot ≡ true)
setting_line slot e n m =
    line_by (slot.attr == ITSELF) (type_at slot) (slice_index_or (attributes_at slot) (slot.attr - 1) attributes.Info) e n m

-- which is shown by the settings
pub setting_shown : (settings : Settings) (box : Standing) (slot : Slot) (role : Role) → is_read role ≡ false → is_bit_out role ≡ false → is_pos_out role ≡ false →
    shown_as settings box slot role ≡ shown_at settings slot
setting_shown settings box slot roles.Read r n m = absurd (cc)
setting_shown settings box slot roles.BitOut r n m = absurd (cc)
setting_shown settings box slot roles.PosOut r n m = absurd (cc)
setting_shown settings box slot role r n m = refl

-- a settled slot is no read field
unread_by : (b : Bool) (t : FieldType) (a : Attribute) → settled_by b t a ≡ true → is_read (if b then role_of t else roles.Attr) ≡ false
unread_by true types.ReadUint a e = absurd (cc)
unread_by true (types.ReadEnum labels) a e = absurd (cc)
unread_by true _ a e = refl
unread_by false t a e = refl

pub settled_unread : (slot : Slot) → is_settled slot ≡ true → is_read (role_at slot) ≡ false
settled_unread slot e =
    unread_by (slot.attr == ITSELF) (type_at slot) (slice_index_or (attributes_at slot) (slot.attr - 1) attributes.Info) e

-- What outputs are.

level_by : (b : Bool) (t : FieldType) (a : Attribute) → (if b then role_of t else roles.Attr) ≡ roles.BitOut → kind_by t (if b then None else Some a) ≡ kinds.Bit
level_by true types.BitOut a e = refl
level_by true _ a e = absurd (cc)
level_by false t a e = absurd (cc)

pub level_kind : (slot : Slot) → role_at slot ≡ roles.BitOut → kind_of slot ≡ kinds.Bit
level_kind slot e = level_by (slot.attr == ITSELF) (type_at slot) (slice_index_or (attributes_at slot) (slot.attr - 1) attributes.Info) e

position_by : (b : Bool) (t : FieldType) (a : Attribute) → (if b then role_of t else roles.Attr) ≡ roles.PosOut → kind_by t (if b then None else Some a) ≡ kinds.Int
position_by true types.PosOut a e = refl
position_by true _ a e = absurd (cc)
position_by false t a e = absurd (cc)

pub position_kind : (slot : Slot) → role_at slot ≡ roles.PosOut → kind_of slot ≡ kinds.Int
position_kind slot e = position_by (slot.attr == ITSELF) (type_at slot) (slice_index_or (attributes_at slot) (slot.attr - 1) attributes.Info) e
