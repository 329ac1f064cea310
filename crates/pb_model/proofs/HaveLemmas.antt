-- A box keeps what is set in it.
use Rattle.std.proofs.Common.{◌≡◌, ◌≢◌, ℕ, zero, suc, ◌-◌, ◌==◌, ◌&&◌, Bool, true, false, not, List, get_or, Option, Some, None, refl, sym, ap, subst, ◌∙◌, arith, if◌then◌else◌}
use Rattle.std.proofs.lemmas.Bool.{eqb-true}
use Rattle.pb_names.specs.declared.TheConstants.{ITSELF}
use Rattle.pb_names.specs.declared.srgate.TheConstants as srgate
use Rattle.pb_names.specs.declared.bit_mux.TheConstants as bit_mux
use Rattle.pb_fields.specs.declared.Slot.{Slot}
use Rattle.pb_fields.specs.declared.FieldType.{FieldType}
use Rattle.pb_fields.specs.declared.FieldType.TheVariants as types
use Rattle.pb_fields.specs.declared.Attribute.TheVariants as attributes
use Rattle.pb_fields.specs.Types.{attributes_of, role_of}
use Rattle.pb_fields.specs.Catalogue.{catalogue}
use Rattle.pb_fields.specs.Places.{field_of, type_of}
use Rattle.pb_fields.specs.Slots.{IsSlot, type_at, default_of}
use Rattle.pb_fields.specs.Order.{slot_at}
use Rattle.pb_fields.proofs.RunLemmas.{of_fields}
use Rattle.pb_fields.proofs.EntryLaws.{agree}
use Rattle.pb_buses.specs.declared.Bus.{Bus}
use Rattle.pb_buses.specs.Delay.{BitInput, wired, delayed, opening_input}
use Rattle.pb_logic.specs.declared.SrgateRegisters.{SrgateRegisters}
use Rattle.pb_logic.specs.Srgate as gates
use Rattle.pb_model.specs.declared.units.Unit.{Unit as AnyUnit}
use Rattle.pb_model.specs.declared.units.Unit.TheVariants as units
use Rattle.pb_model.specs.declared.blocks.Block.{Block}
use Rattle.pb_model.specs.Units.{place_of, armed, disarmed}
use Rattle.pb_model.specs.Arming.{with_unit as unit_changed}
use Rattle.pb_model.specs.Changes.{is_taken, is_taken_role}
use Rattle.pb_model.specs.Tick.{is_bit_mux, kind_of, inputs_of, input_after, block_after, opening_block, opening_selections}
use Rattle.pb_model.specs.Settings.{so_many_before, bit_place, position_place, with_input, with_field_value, with_value}
use Rattle.pb_model.specs.Staying.{is_action, IsKept}
use Rattle.pb_model.proofs.PickLemmas.{touch_again, touch_apart, touch_map}
use Rattle.pb_model.specs.Tables.{block_with_words}
use Rattle.pb_model.proofs.StayLemmas.{Sets, unit_again, unit_apart, unit_ticks, unit_words, unit_arms, unit_disarms}
use Rattle.pb_model.proofs.SettingLemmas.{delay_only, bit_mux_place, position_mux_place, position_mux_few, first_position, is_bit_mux_at, is_pos_mux_at}

tf : true ≡ false → ⊥
tf h = cc

-- Fields that only set.

forces_set : is_action (type_of srgate.BLOCK srgate.FORCE_SET) ≡ true
unfolding catalogue
forces_set = refl

forces_reset : is_action (type_of srgate.BLOCK srgate.FORCE_RST) ≡ true
unfolding catalogue
forces_reset = refl

no_action : (n : ℕ) (slot : Slot) → is_action (type_of srgate.BLOCK n) ≡ true → srgate.BLOCK ≡ slot.block → is_action (type_at slot) ≡ false → slot.field ≢ n
no_action n slot a e h same =
    tf (sym a ∙ (ap (λ b. is_action (type_of b n)) e ∙ (ap (λ f. is_action (type_of slot.block f)) (sym same) ∙ h)))

sets : (u : AnyUnit) (slot : Slot) → place_of u ≡ slot.block → is_action (type_at slot) ≡ false → Sets u slot.field
sets (units.Srgate b) slot e h =
    by (no_action srgate.FORCE_SET slot forces_set e h) (no_action srgate.FORCE_RST slot forces_reset e h)
    (slot.field == srgate.FORCE_SET) (slot.field == srgate.FORCE_RST) refl refl
  where
    by : slot.field ≢ srgate.FORCE_SET → slot.field ≢ srgate.FORCE_RST → (c d : Bool) →
        (slot.field == srgate.FORCE_SET) ≡ c → (slot.field == srgate.FORCE_RST) ≡ d →
        (r : SrgateRegisters) → gates.with_force r slot.field ≡ r
    by n m true d e k r = absurd (n (eqb-true slot.field srgate.FORCE_SET e))
    by n m false true e k r = absurd (m (eqb-true slot.field srgate.FORCE_RST k))
    by n m false false e k r = rw (e, k) refl
sets _ slot e h = tt

-- Blocks.

abbrev value_by : Bool → FieldType → Slot → ℕ → Block → Block
value_by a ty t x b = if a then with_field_value ty t x b else with_input (bit_place t) (λ i. delayed i x) b

abbrev with_bits : Block → List BitInput → Block
with_bits b l = record { unit = b.unit; bits = l; positions = b.positions }

abbrev with_positions : Block → List ℕ → Block
with_positions b l = record { unit = b.unit; bits = b.bits; positions = l }

abbrev with_unit : Block → AnyUnit → Block
with_unit b u = record { unit = u; bits = b.bits; positions = b.positions }

again_by : (a : Bool) (ty : FieldType) (t : Slot) (x : ℕ) (b : Block) → Sets b.unit t.field →
    value_by a ty t x (value_by a ty t x b) ≡ value_by a ty t x b
again_by false ty t x b s = ap (with_bits b) (touch_again opening_input b.bits (bit_place t) (λ i. delayed i x) (λ i. refl))
again_by true types.BitMux t x b s = ap (with_bits b) (touch_again opening_input b.bits (bit_place t) (λ i. wired i x) (λ i. refl))
again_by true types.PosMux t x b s = ap (with_positions b) (touch_again 0 b.positions (position_place t) (λ i. x) (λ i. refl))
again_by true _ t x b s = ap (with_unit b) (unit_again b.unit t.field x s)

pub value_again : (t : Slot) (x : ℕ) (b : Block) → IsKept t → kind_of b ≡ t.block → with_value t x (with_value t x b) ≡ with_value t x b
value_again t x b k e = again_by (t.attr == ITSELF) (type_at t) t x b (sets b.unit t e k.lasting)

-- what tells two slots of a block apart
record Differ (a c : Bool) (ty uy : FieldType) (t u : Slot) : Type 0 where
  bits : a ≡ true → c ≡ true → ty ≡ types.BitMux → uy ≡ types.BitMux → bit_place t ≢ bit_place u
  delays : a ≡ false → c ≡ false → bit_place t ≢ bit_place u
  positions : a ≡ true → c ≡ true → ty ≡ types.PosMux → uy ≡ types.PosMux → position_place t ≢ position_place u
  fields : a ≡ true → c ≡ true → t.field ≢ u.field

apart_by : (a c : Bool) (ty uy : FieldType) (t u : Slot) (x y : ℕ) (b : Block) → Sets b.unit u.field → Differ a c ty uy t u →
    value_by c uy u y (value_by a ty t x b) ≡ value_by a ty t x (value_by c uy u y b)
apart_by false false ty uy t u x y b s d =
    ap (with_bits b) (touch_apart opening_input b.bits (bit_place t) (bit_place u) (λ i. delayed i x) (λ i. delayed i y) (λ e i. absurd (d.delays refl refl e)))
apart_by false true ty types.BitMux t u x y b s d =
    ap (with_bits b) (touch_apart opening_input b.bits (bit_place t) (bit_place u) (λ i. delayed i x) (λ i. wired i y) (λ e i. refl))
apart_by false true ty types.PosMux t u x y b s d = refl
apart_by false true ty _ t u x y b s d = refl
apart_by true false types.BitMux uy t u x y b s d =
    ap (with_bits b) (touch_apart opening_input b.bits (bit_place t) (bit_place u) (λ i. wired i x) (λ i. delayed i y) (λ e i. refl))
apart_by true false types.PosMux uy t u x y b s d = refl
apart_by true false _ uy t u x y b s d = refl
apart_by true true types.BitMux types.BitMux t u x y b s d =
    ap (with_bits b) (touch_apart opening_input b.bits (bit_place t) (bit_place u) (λ i. wired i x) (λ i. wired i y) (λ e i. absurd (d.bits refl refl refl refl e)))
apart_by true true types.BitMux types.PosMux t u x y b s d = refl
apart_by true true types.BitMux _ t u x y b s d = refl
apart_by true true types.PosMux types.BitMux t u x y b s d = refl
apart_by true true types.PosMux types.PosMux t u x y b s d =
    ap (with_positions b) (touch_apart 0 b.positions (position_place t) (position_place u) (λ i. x) (λ i. y) (λ e i. absurd (d.positions refl refl refl refl e)))
apart_by true true types.PosMux _ t u x y b s d = refl
apart_by true true _ types.BitMux t u x y b s d = refl
apart_by true true _ types.PosMux t u x y b s d = refl
apart_by true true _ _ t u x y b s d = ap (with_unit b) (unit_apart b.unit t.field u.field x y (d.fields refl refl) s)

-- the only attribute that is taken is the DELAY of a mux
delay_place : (i : ℕ) → get_or (attributes_of types.BitMux) i attributes.Info ≡ attributes.Delay → i ≡ 1
delay_place zero h = cc
delay_place (suc zero) h = refl
delay_place (suc (suc zero)) h = cc
delay_place (suc (suc (suc i))) h = cc

pub taken_delay : (t : Slot) → is_taken t ≡ true → (t.attr == ITSELF) ≡ false → (type_at t ≡ types.BitMux) × (t.attr ≡ bit_mux.DELAY)
taken_delay t taken e =
    let d = delay_only (type_at t) (t.attr - 1) (rw e at taken) in
    let p : t.attr - 1 ≡ 1 = delay_place (t.attr - 1) (subst (λ y. get_or (attributes_of y) (t.attr - 1) attributes.Info ≡ attributes.Delay) d.0 d.1) in
    (d.0, omega (arith, p))

pub one_slot : (t u : Slot) → t.block ≡ u.block → t.instance ≡ u.instance → t.field ≡ u.field → t.attr ≡ u.attr → t ≡ u
one_slot t u b i f a =
    ap (λ x. record { block = x; instance = t.instance; field = t.field; attr = t.attr }) b
    ∙ (ap (λ x. record { block = u.block; instance = x; field = t.field; attr = t.attr }) i
    ∙ (ap (λ x. record { block = u.block; instance = u.instance; field = x; attr = t.attr }) f
    ∙ ap (λ x. record { block = u.block; instance = u.instance; field = u.field; attr = x }) a))

differ : (t u : Slot) → IsSlot t → IsSlot u → is_taken t ≡ true → is_taken u ≡ true → t.block ≡ u.block → t.instance ≡ u.instance → t ≢ u →
    Differ (t.attr == ITSELF) (u.attr == ITSELF) (type_at t) (type_at u) t u
differ t u s r taken kept b i ne =
    record {
      bits = λ a c ty uy e.
          ne (one_slot t u b i
          (sym (bit_mux_place t s (is_bit_mux_at (type_at t) ty)) ∙ (e ∙ bit_mux_place u r (is_bit_mux_at (type_at u) uy)))
          (eqb-true t.attr ITSELF a ∙ sym (eqb-true u.attr ITSELF c)));
      delays = λ a c e.
          let d = taken_delay t taken a in
          let f = taken_delay u kept c in
          ne (one_slot t u b i
          (sym (bit_mux_place t s (is_bit_mux_at (type_at t) d.0)) ∙ (e ∙ bit_mux_place u r (is_bit_mux_at (type_at u) f.0)))
          (d.1 ∙ sym f.1));
      positions = λ a c ty uy e.
          let p = position_mux_place t s (is_pos_mux_at (type_at t) ty) in
          let q = position_mux_place u r (is_pos_mux_at (type_at u) uy) in
          let m = position_mux_few t s (is_pos_mux_at (type_at t) ty) in
          let n = position_mux_few u r (is_pos_mux_at (type_at u) uy) in
          let o : first_position t.block ≡ first_position u.block = ap first_position b in
          ne (one_slot t u b i (omega (arith, p, q, m.0, n.0, o, e)) (eqb-true t.attr ITSELF a ∙ sym (eqb-true u.attr ITSELF c)));
      fields = λ a c e. ne (one_slot t u b i e (eqb-true t.attr ITSELF a ∙ sym (eqb-true u.attr ITSELF c)));
    }

pub value_apart : (t u : Slot) (x y : ℕ) (b : Block) → IsSlot t → is_taken t ≡ true → IsKept u → t.block ≡ u.block → t.instance ≡ u.instance → t ≢ u →
    kind_of b ≡ u.block → with_value u y (with_value t x b) ≡ with_value t x (with_value u y b)
value_apart t u x y b s taken k e i ne is =
    apart_by (t.attr == ITSELF) (u.attr == ITSELF) (type_at t) (type_at u) t u x y b (sets b.unit u is k.lasting)
    (differ t u s k.in_catalogue taken k.taken e i ne)

abbrev input_with : BitInput → ℕ → ℕ → List Bool → BitInput
input_with i select delay line = record { select = select; delay = delay; line = line }

ticks_by : (a : Bool) (ty : FieldType) (t : Slot) (x : ℕ) (b : Block) (bus : Bus) (now : ℕ) → Sets b.unit t.field →
    value_by a ty t x b ≡ b → value_by a ty t x (block_after bus now b) ≡ block_after bus now b
ticks_by false ty t x b bus now s e =
    ap (with_bits (block_after bus now b))
    (touch_map opening_input b.bits (bit_place t) (λ i. delayed i x) (input_after bus)
    (λ i g. ap (λ d. record (input_after bus i) { delay = d }) (ap (λ (j : BitInput). j.delay) g))
    (ap (λ (c : Block). c.bits) e))
ticks_by true types.BitMux t x b bus now s e =
    ap (with_bits (block_after bus now b))
    (touch_map opening_input b.bits (bit_place t) (λ i. wired i x) (input_after bus)
    (λ i g. ap (λ d. record (input_after bus i) { select = d }) (ap (λ (j : BitInput). j.select) g))
    (ap (λ (c : Block). c.bits) e))
ticks_by true types.PosMux t x b bus now s e =
    ap (with_positions (block_after bus now b)) (ap (λ (c : Block). c.positions) e)
ticks_by true _ t x b bus now s e =
    ap (with_unit (block_after bus now b)) (unit_ticks b.unit t.field x (inputs_of bus b) now s (ap (λ (c : Block). c.unit) e))

pub value_ticks : (t : Slot) (x : ℕ) (b : Block) (bus : Bus) (now : ℕ) → IsKept t → kind_of b ≡ t.block → with_value t x b ≡ b →
    with_value t x (block_after bus now b) ≡ block_after bus now b
value_ticks t x b bus now k is e = ticks_by (t.attr == ITSELF) (type_at t) t x b bus now (sets b.unit t is k.lasting) e

words_by : (a : Bool) (ty : FieldType) (t : Slot) (x : ℕ) (b : Block) (words : List ℕ) →
    value_by a ty t x (block_with_words words b) ≡ block_with_words words (value_by a ty t x b)
words_by false ty t x b words = refl
words_by true types.BitMux t x b words = refl
words_by true types.PosMux t x b words = refl
words_by true _ t x b words = ap (with_unit b) (unit_words b.unit t.field x words)

pub value_words : (t : Slot) (x : ℕ) (b : Block) (words : List ℕ) →
    with_value t x (block_with_words words b) ≡ block_with_words words (with_value t x b)
value_words t x b words = words_by (t.attr == ITSELF) (type_at t) t x b words

arms_by : (a : Bool) (ty : FieldType) (t : Slot) (x : ℕ) (b : Block) (room : ℕ) →
    value_by a ty t x (unit_changed (armed room) b) ≡ unit_changed (armed room) (value_by a ty t x b)
arms_by false ty t x b room = refl
arms_by true types.BitMux t x b room = refl
arms_by true types.PosMux t x b room = refl
arms_by true _ t x b room = ap (with_unit b) (unit_arms b.unit t.field x room)

pub value_arms : (t : Slot) (x : ℕ) (b : Block) (room : ℕ) →
    with_value t x (unit_changed (armed room) b) ≡ unit_changed (armed room) (with_value t x b)
value_arms t x b room = arms_by (t.attr == ITSELF) (type_at t) t x b room

disarms_by : (a : Bool) (ty : FieldType) (t : Slot) (x : ℕ) (b : Block) →
    value_by a ty t x (unit_changed disarmed b) ≡ unit_changed disarmed (value_by a ty t x b)
disarms_by false ty t x b = refl
disarms_by true types.BitMux t x b = refl
disarms_by true types.PosMux t x b = refl
disarms_by true _ t x b = ap (with_unit b) (unit_disarms b.unit t.field x)

pub value_disarms : (t : Slot) (x : ℕ) (b : Block) →
    with_value t x (unit_changed disarmed b) ≡ unit_changed disarmed (with_value t x b)
value_disarms t x b = disarms_by (t.attr == ITSELF) (type_at t) t x b

-- As the box opens.

lasts : ℕ → ℕ → Bool
lasts b f = is_taken_role (role_of (type_of b f)) && not (is_action (type_of b f))

given_first : ℕ → ℕ → ℕ → Option Block
given_first b i f =
    if lasts b f then Some (with_value (slot_at b i f ITSELF) (field_of b f).default (opening_block b)) else None

opened : ℕ → ℕ → ℕ → Option Block
opened b i f = if lasts b f then Some (opening_block b) else None

all_given : of_fields given_first ≡ of_fields opened
unfolding given_first opened lasts catalogue opening_block opening_selections so_many_before
all_given = refl

delay_first : ℕ → ℕ → ℕ → Option Block
delay_first b i f =
    if is_bit_mux (type_of b f) then Some (with_value (slot_at b i f bit_mux.DELAY) 0 (opening_block b)) else None

delays_opened : ℕ → ℕ → ℕ → Option Block
delays_opened b i f = if is_bit_mux (type_of b f) then Some (opening_block b) else None

all_delayed : of_fields delay_first ≡ of_fields delays_opened
unfolding delay_first delays_opened catalogue opening_block opening_selections so_many_before
all_delayed = refl

told : (c : Bool) (x y : Block) → c ≡ true → (if c then Some x else None) ≡ (if c then Some y else None) → x ≡ y
told true x y h e = cc
told false x y h e = cc

lasts_itself : (t : Slot) → IsKept t → (t.attr == ITSELF) ≡ true → lasts t.block t.field ≡ true
unfolding lasts
lasts_itself t k e =
    let a : is_taken_role (role_of (type_at t)) ≡ true = rw e at k.taken in
    rw (a, k.lasting) refl

pub value_first : (t : Slot) → IsKept t → with_value t (default_of t) (opening_block t.block) ≡ opening_block t.block
unfolding given_first opened delay_first delays_opened
value_first t k = by (t.attr == ITSELF) refl
  where
    by : (c : Bool) → (t.attr == ITSELF) ≡ c → with_value t (default_of t) (opening_block t.block) ≡ opening_block t.block
    by true e =
        let i : t.attr ≡ ITSELF = eqb-true t.attr ITSELF e in
        let same : slot_at t.block t.instance t.field ITSELF ≡ t = ap (λ a. slot_at t.block t.instance t.field a) (sym i) in
        subst (λ (s : Slot). with_value s (default_of s) (opening_block s.block) ≡ opening_block s.block) same
        (told (lasts t.block t.field) _ _ (lasts_itself t k e) (agree given_first opened all_given t k.in_catalogue))
    by false e =
        let d = taken_delay t k.taken e in
        let same : slot_at t.block t.instance t.field bit_mux.DELAY ≡ t = ap (λ a. slot_at t.block t.instance t.field a) (sym d.1) in
        let first = told (is_bit_mux (type_at t)) _ _ (is_bit_mux_at (type_at t) d.0) (agree delay_first delays_opened all_delayed t k.in_catalogue) in
        let none : default_of (slot_at t.block t.instance t.field bit_mux.DELAY) ≡ 0 = rw d.0 refl in
        subst (λ (s : Slot). with_value s (default_of s) (opening_block s.block) ≡ opening_block s.block) same
        (ap (λ n. with_value (slot_at t.block t.instance t.field bit_mux.DELAY) n (opening_block t.block)) none ∙ first)
