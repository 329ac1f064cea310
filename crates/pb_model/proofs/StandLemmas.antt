-- What is set in a box, over changes, ticks and puts.
use Rattle.std.proofs.Common.{◌≡◌, ◌≢◌, ℕ, ◌≤◌, ◌==◌, ◌&&◌, Bool, true, false, leb, List, length, set, map, Option, Some, None, refl, sym, ap, subst, ◌∙◌, arith, if◌then◌else◌}
use Rattle.std.proofs.lemmas.Bool.{leb-true, eqb-true}
use Rattle.std.proofs.lemmas.List.{length-set}
use Rattle.pb_names.specs.declared.TheConstants.{ITSELF}
use Rattle.pb_names.specs.declared.bits.TheConstants as bits
use Rattle.pb_names.specs.declared.lut.TheConstants as lut
use Rattle.pb_fields.specs.declared.Slot.{Slot}
use Rattle.pb_fields.specs.Types.{role_of}
use Rattle.pb_fields.specs.Catalogue.{catalogue}
use Rattle.pb_fields.specs.Places.{field_of, type_of, count_of}
use Rattle.pb_fields.specs.Slots.{IsSlot, type_at, default_of}
use Rattle.pb_buses.specs.declared.Bus.{Bus}
use Rattle.pb_model.specs.declared.units.Unit.{Unit as AnyUnit}
use Rattle.pb_model.specs.declared.units.Unit.TheVariants as units
use Rattle.pb_model.specs.Units.{place_of, with_words, armed, disarmed}
use Rattle.pb_model.specs.declared.blocks.Block.{Block}
use Rattle.pb_model.specs.declared.changes.Change.TheVariants as changes
use Rattle.pb_model.specs.Machines.{machines, machine_kinds, with_named}
use Rattle.pb_model.specs.Changes.{is_taken, is_taken_role}
use Rattle.pb_model.specs.Tick.{Box, is_bit_mux, kind_of, block_after, opening_block, opening_box, tick, with_bus}
use Rattle.pb_model.specs.Kept.{IsWhole}
use Rattle.pb_model.specs.Settings.{with_value, block_of_slot, settings_with, blocks_with, changed_box}
use Rattle.pb_model.specs.Arming.{capture, with_unit, box_with_blocks}
use Rattle.pb_model.specs.Staying.{IsKept, HasValue}
use Rattle.pb_model.specs.Tables.{sequencer, block_with_words, blocks_with_table, box_with_table}
use Rattle.pb_model.proofs.PickLemmas.{touch_again, touch_apart}
use Rattle.pb_model.proofs.NamedLemmas.{Fits, named_again, named_apart, named_map, named_first, named_kinds}
use Rattle.pb_model.proofs.UnitLemmas.{value_stays}
use Rattle.pb_model.proofs.ArmLemmas.{arming_keeps, disarming_keeps}
use Rattle.pb_model.proofs.TickLemmas.{kinds_stay, opening_whole}
use Rattle.pb_model.proofs.HaveLemmas.{value_again, value_apart, value_ticks, value_words, value_arms, value_disarms, value_first, taken_delay, one_slot}
use Rattle.pb_model.proofs.SettingLemmas.{holds_by, always, implied, is_bit_mux_at}
use Rattle.pb_fields.specs.Order.{slot_at}
use Rattle.pb_fields.proofs.RunLemmas.{of_fields}
use Rattle.pb_fields.proofs.EntryLaws.{agree}

-- the box with other settings and blocks
abbrev standing_with : Box → List Bool → List Block → Box
standing_with box settings blocks =
    record {
      stands = record { tick = box.stands.tick; bus = box.stands.bus; settings = settings; blocks = blocks };
      past = box.past;
    }

both : (box : Box) (s t : List Bool) (b c : List Block) → s ≡ t → b ≡ c → standing_with box s b ≡ standing_with box t c
both box s t b c e f = ap (λ x. standing_with box x b) e ∙ ap (λ x. standing_with box t x) f

settings_of : (box other : Box) → box ≡ other → box.stands.settings ≡ other.stands.settings
settings_of box other e = ap (λ (b : Box). b.stands.settings) e

blocks_of : (box other : Box) → box ≡ other → box.stands.blocks ≡ other.stands.blocks
blocks_of box other e = ap (λ (b : Box). b.stands.blocks) e

fits : (blocks : List Block) → map kind_of blocks ≡ machine_kinds → Fits kind_of machines blocks
unfolding machine_kinds
fits blocks h = h

-- A change that is made again changes nothing.

module _ (box : Box) (t : Slot) (x : ℕ) (w : IsWhole box.stands.blocks box.stands.settings) (k : IsKept t) where
  pub has_it : HasValue (changed_box box (changes.Set t x)) t x
  has_it =
      both box (settings_with t x (settings_with t x box.stands.settings)) (settings_with t x box.stands.settings)
      (blocks_with t x (blocks_with t x box.stands.blocks)) (blocks_with t x box.stands.blocks)
      (in_settings (t.block == bits.BLOCK)) (in_blocks (t.block == bits.BLOCK))
    where
      in_settings : (c : Bool) →
          (if c then set (if c then set box.stands.settings t.field (x == 1) else box.stands.settings) t.field (x == 1)
          else (if c then set box.stands.settings t.field (x == 1) else box.stands.settings))
          ≡ (if c then set box.stands.settings t.field (x == 1) else box.stands.settings)
      in_settings true = touch_again false box.stands.settings t.field (λ b. x == 1) (λ b. refl)
      in_settings false = refl

      in_blocks : (c : Bool) →
          (if c then (if c then box.stands.blocks else with_named machines (block_of_slot t) (with_value t x) box.stands.blocks)
          else with_named machines (block_of_slot t) (with_value t x)
          (if c then box.stands.blocks else with_named machines (block_of_slot t) (with_value t x) box.stands.blocks))
          ≡ (if c then box.stands.blocks else with_named machines (block_of_slot t) (with_value t x) box.stands.blocks)
      in_blocks true = refl
      in_blocks false =
          named_again kind_of machines (block_of_slot t) (with_value t x) box.stands.blocks (fits box.stands.blocks w.kinds)
          (λ b e. value_again t x b k e)

-- Changes of two slots can be made in any order.

-- BITS has no mux
is_after : ℕ → ℕ → ℕ → Bool
is_after b i f = if is_bit_mux (type_of b f) then leb lut.BLOCK b else true

after-rows : of_fields (λ b i f. Some (is_after b i f)) ≡ of_fields always
unfolding is_after always catalogue
after-rows = refl

after-all : (slot : Slot) → IsSlot slot → (if is_bit_mux (type_at slot) then leb lut.BLOCK slot.block else true) ≡ true
unfolding is_after
after-all slot s = holds_by is_after after-rows slot s

itself_in_bits : (t : Slot) → IsSlot t → is_taken t ≡ true → t.block ≡ bits.BLOCK → t.attr ≡ ITSELF
itself_in_bits t s taken e = by (t.attr == ITSELF) refl
  where
    by : (c : Bool) → (t.attr == ITSELF) ≡ c → t.attr ≡ ITSELF
    by true h = eqb-true t.attr ITSELF h
    by false h =
        let d = taken_delay t taken h in
        let late : lut.BLOCK ≤ t.block =
        leb-true lut.BLOCK t.block (implied (is_bit_mux (type_at t)) (leb lut.BLOCK t.block) (after-all t s) (is_bit_mux_at (type_at t) d.0)) in
        absurd (omega (arith, late, e))

one_bits : count_of bits.BLOCK ≡ 1
unfolding catalogue
one_bits = refl

first_of_bits : (t : Slot) → IsSlot t → t.block ≡ bits.BLOCK → t.instance ≡ 1
first_of_bits t s e = omega (arith, s.from_one, s.in_count, ap count_of e, one_bits)

module _ (box : Box) (t u : Slot) (x y : ℕ) (w : IsWhole box.stands.blocks box.stands.settings)
    (s : IsSlot t) (taken : is_taken t ≡ true) (k : IsKept u) (ne : t ≢ u) where
  fields_differ : t.block ≡ bits.BLOCK → u.block ≡ bits.BLOCK → t.field ≢ u.field
  fields_differ a b e =
      ne (one_slot t u (a ∙ sym b) (first_of_bits t s a ∙ sym (first_of_bits u k.in_catalogue b)) e
      (itself_in_bits t s taken a ∙ sym (itself_in_bits u k.in_catalogue k.taken b)))

  abbrev settings_by : Bool → Slot → ℕ → List Bool → List Bool
  settings_by c slot raw settings = if c then set settings slot.field (raw == 1) else settings

  abbrev blocks_by : Bool → Slot → ℕ → List Block → List Block
  blocks_by c slot raw blocks = if c then blocks else with_named machines (block_of_slot slot) (with_value slot raw) blocks

  any_order : changed_box (changed_box box (changes.Set t x)) (changes.Set u y) ≡ changed_box (changed_box box (changes.Set u y)) (changes.Set t x)
  any_order =
      both box (settings_with u y (settings_with t x box.stands.settings)) (settings_with t x (settings_with u y box.stands.settings))
      (blocks_with u y (blocks_with t x box.stands.blocks)) (blocks_with t x (blocks_with u y box.stands.blocks))
      (in_settings (t.block == bits.BLOCK) (u.block == bits.BLOCK) refl refl) (in_blocks (t.block == bits.BLOCK) (u.block == bits.BLOCK))
    where
      in_settings : (c d : Bool) → (t.block == bits.BLOCK) ≡ c → (u.block == bits.BLOCK) ≡ d →
          settings_by d u y (settings_by c t x box.stands.settings) ≡ settings_by c t x (settings_by d u y box.stands.settings)
      in_settings true true e f =
          touch_apart false box.stands.settings t.field u.field (λ b. x == 1) (λ b. y == 1)
          (λ same b. absurd (fields_differ (eqb-true t.block bits.BLOCK e) (eqb-true u.block bits.BLOCK f) same))
      in_settings true false e f = refl
      in_settings false true e f = refl
      in_settings false false e f = refl

      in_blocks : (c d : Bool) →
          blocks_by d u y (blocks_by c t x box.stands.blocks) ≡ blocks_by c t x (blocks_by d u y box.stands.blocks)
      in_blocks true true = refl
      in_blocks true false = refl
      in_blocks false true = refl
      in_blocks false false =
          named_apart kind_of machines (block_of_slot t) (block_of_slot u) (with_value t x) (with_value u y) box.stands.blocks
          (fits box.stands.blocks w.kinds)
          (λ b i z e. value_apart t u x y z s taken k b i ne (e ∙ b))

  pub still_has : HasValue box u y → HasValue (changed_box box (changes.Set t x)) u y
  still_has h = any_order ∙ ap (λ b. changed_box b (changes.Set t x)) h

-- A tick, and a put on the bus.

module _ (box : Box) (u : Slot) (y : ℕ) (h : HasValue box u y) where
  pub has_after : IsKept u → IsWhole box.stands.blocks box.stands.settings → HasValue (tick box) u y
  has_after k w =
      both (tick box) (settings_with u y box.stands.settings) box.stands.settings
      (blocks_with u y (map (block_after box.stands.bus box.stands.tick) box.stands.blocks)) (map (block_after box.stands.bus box.stands.tick) box.stands.blocks)
      (settings_of (changed_box box (changes.Set u y)) box h)
      (in_blocks (u.block == bits.BLOCK) (blocks_of (changed_box box (changes.Set u y)) box h))
    where
      in_blocks : (c : Bool) →
          (if c then box.stands.blocks else with_named machines (block_of_slot u) (with_value u y) box.stands.blocks) ≡ box.stands.blocks →
          (if c then map (block_after box.stands.bus box.stands.tick) box.stands.blocks
          else with_named machines (block_of_slot u) (with_value u y) (map (block_after box.stands.bus box.stands.tick) box.stands.blocks))
          ≡ map (block_after box.stands.bus box.stands.tick) box.stands.blocks
      in_blocks true e = refl
      in_blocks false e =
          named_map kind_of machines (block_of_slot u) (with_value u y) (block_after box.stands.bus box.stands.tick) box.stands.blocks
          (fits box.stands.blocks w.kinds)
          (λ b is same. value_ticks u y b box.stands.bus box.stands.tick k is same) e

  pub has_put : (bus : Bus) → HasValue (with_bus box bus) u y
  has_put bus = ap (λ b. with_bus b bus) h

  pub has_written : IsWhole box.stands.blocks box.stands.settings → (number : ℕ) (words : List ℕ) → HasValue (box_with_table box number words) u y
  has_written w number words =
      both (box_with_table box number words) (settings_with u y box.stands.settings) box.stands.settings
      (blocks_with u y (blocks_with_table number words box.stands.blocks)) (blocks_with_table number words box.stands.blocks)
      (settings_of (changed_box box (changes.Set u y)) box h)
      (in_blocks (u.block == bits.BLOCK) (blocks_of (changed_box box (changes.Set u y)) box h))
    where
      in_blocks : (c : Bool) →
          (if c then box.stands.blocks else with_named machines (block_of_slot u) (with_value u y) box.stands.blocks) ≡ box.stands.blocks →
          (if c then blocks_with_table number words box.stands.blocks
          else with_named machines (block_of_slot u) (with_value u y) (blocks_with_table number words box.stands.blocks))
          ≡ blocks_with_table number words box.stands.blocks
      in_blocks true e = refl
      in_blocks false e =
          named_apart kind_of machines (sequencer number) (block_of_slot u) (block_with_words words) (with_value u y) box.stands.blocks
          (fits box.stands.blocks w.kinds) (λ a n b is. value_words u y b words)
          ∙ ap (blocks_with_table number words) e

-- PCAP is armed or disarmed.

module _ (box : Box) (u : Slot) (y : ℕ) (h : HasValue box u y) (w : IsWhole box.stands.blocks box.stands.settings) where
  has_changed : (change : AnyUnit → AnyUnit) → ((b : Block) → with_value u y (with_unit change b) ≡ with_unit change (with_value u y b)) →
      HasValue (box_with_blocks box (with_named machines capture (with_unit change) box.stands.blocks)) u y
  has_changed change k =
      let changed : List Block = with_named machines capture (with_unit change) box.stands.blocks in
      both (box_with_blocks box changed) (settings_with u y box.stands.settings) box.stands.settings
      (blocks_with u y changed) changed
      (settings_of (changed_box box (changes.Set u y)) box h)
      (in_blocks (u.block == bits.BLOCK) (blocks_of (changed_box box (changes.Set u y)) box h))
    where
      in_blocks : (c : Bool) →
          (if c then box.stands.blocks else with_named machines (block_of_slot u) (with_value u y) box.stands.blocks) ≡ box.stands.blocks →
          (if c then with_named machines capture (with_unit change) box.stands.blocks
          else with_named machines (block_of_slot u) (with_value u y) (with_named machines capture (with_unit change) box.stands.blocks))
          ≡ with_named machines capture (with_unit change) box.stands.blocks
      in_blocks true e = refl
      in_blocks false e =
          named_apart kind_of machines capture (block_of_slot u) (with_unit change) (with_value u y) box.stands.blocks
          (fits box.stands.blocks w.kinds) (λ a n b is. k b)
          ∙ ap (with_named machines capture (with_unit change)) e

  pub has_armed : (room : ℕ) → HasValue (changed_box box (changes.Arm room)) u y
  has_armed room = has_changed (armed room) (λ b. value_arms u y b room)

  pub has_disarmed : HasValue (changed_box box changes.Disarm) u y
  has_disarmed = has_changed disarmed (λ b. value_disarms u y b)

-- As the box opens.

-- the settings of BITS are 0
zero_given : ℕ → ℕ → ℕ → Option (List Bool)
zero_given b i f =
    if b == bits.BLOCK && is_taken_role (role_of (type_of b f))
    then Some (settings_with (slot_at b i f ITSELF) (field_of b f).default opening_box.stands.settings) else None

zero_opened : ℕ → ℕ → ℕ → Option (List Bool)
zero_opened b i f = if b == bits.BLOCK && is_taken_role (role_of (type_of b f)) then Some opening_box.stands.settings else None

zeros : of_fields zero_given ≡ of_fields zero_opened
unfolding zero_given zero_opened catalogue
zeros = refl

told : (c : Bool) (x y : List Bool) → c ≡ true → (if c then Some x else None) ≡ (if c then Some y else None) → x ≡ y
told true x y h e = cc
told false x y h e = cc

first_settings : (u : Slot) → IsKept u → settings_with u (default_of u) opening_box.stands.settings ≡ opening_box.stands.settings
unfolding zero_given zero_opened
first_settings u k = by (u.block == bits.BLOCK) refl
  where
    by : (c : Bool) → (u.block == bits.BLOCK) ≡ c →
        (if u.block == bits.BLOCK then set opening_box.stands.settings u.field (default_of u == 1) else opening_box.stands.settings) ≡ opening_box.stands.settings
    by true e =
        let i : u.attr ≡ ITSELF = itself_in_bits u k.in_catalogue k.taken (eqb-true u.block bits.BLOCK e) in
        let a : is_taken_role (role_of (type_at u)) ≡ true = rw i at k.taken in
        let same : slot_at u.block u.instance u.field ITSELF ≡ u = ap (λ n. slot_at u.block u.instance u.field n) (sym i) in
        subst (λ (s : Slot). settings_with s (default_of s) opening_box.stands.settings ≡ opening_box.stands.settings) same
        (told (u.block == bits.BLOCK && is_taken_role (role_of (type_at u))) _ _ (rw (e, a) refl) (agree zero_given zero_opened zeros u k.in_catalogue))
    by false e = rw e refl

pub has_first : (u : Slot) → IsKept u → HasValue opening_box u (default_of u)
unfolding machine_kinds
has_first u k =
    both opening_box (settings_with u (default_of u) opening_box.stands.settings) opening_box.stands.settings
    (blocks_with u (default_of u) opening_box.stands.blocks) opening_box.stands.blocks
    (first_settings u k) (in_blocks (u.block == bits.BLOCK) u (value_first u k))
  where
    in_blocks : (c : Bool) (u : Slot) → with_value u (default_of u) (opening_block u.block) ≡ opening_block u.block →
        (if c then opening_box.stands.blocks else with_named machines (block_of_slot u) (with_value u (default_of u)) opening_box.stands.blocks)
        ≡ opening_box.stands.blocks
    in_blocks true u e = refl
    in_blocks false u e = named_first machines (block_of_slot u) (with_value u (default_of u)) opening_block e

-- The blocks stay those of the catalogue, and BITS keeps four settings.

words_stay : (words : List ℕ) (u : AnyUnit) → place_of (with_words words u) ≡ place_of u
words_stay words (units.Seq b) = refl
words_stay words _ = refl

pub whole_set : (box : Box) (t : Slot) (x : ℕ) → IsWhole box.stands.blocks box.stands.settings →
    IsWhole (changed_box box (changes.Set t x)).stands.blocks (changed_box box (changes.Set t x)).stands.settings
whole_set box t x w = record { kinds = kinds (t.block == bits.BLOCK); four = four (t.block == bits.BLOCK) }
  where
    kinds : (c : Bool) →
        map kind_of (if c then box.stands.blocks else with_named machines (block_of_slot t) (with_value t x) box.stands.blocks) ≡ machine_kinds
    kinds true = w.kinds
    kinds false = named_kinds kind_of machines (block_of_slot t) (with_value t x) box.stands.blocks (value_stays t x) ∙ w.kinds

    four : (c : Bool) → length (if c then set box.stands.settings t.field (x == 1) else box.stands.settings) ≡ 4
    four true = length-set box.stands.settings t.field (x == 1) ∙ w.four
    four false = w.four

pub whole_after : (box : Box) → IsWhole box.stands.blocks box.stands.settings → IsWhole (tick box).stands.blocks (tick box).stands.settings
whole_after box w =
    record { kinds = kinds_stay box.stands.bus box.stands.tick box.stands.blocks ∙ w.kinds; four = w.four }

pub whole_written : (box : Box) (number : ℕ) (words : List ℕ) → IsWhole box.stands.blocks box.stands.settings →
    IsWhole (box_with_table box number words).stands.blocks (box_with_table box number words).stands.settings
whole_written box number words w =
    record {
      kinds =
          named_kinds kind_of machines (sequencer number) (block_with_words words) box.stands.blocks (λ b. words_stay words b.unit)
          ∙ w.kinds;
      four = w.four;
    }

pub whole_armed : (box : Box) (room : ℕ) → IsWhole box.stands.blocks box.stands.settings →
    IsWhole (changed_box box (changes.Arm room)).stands.blocks (changed_box box (changes.Arm room)).stands.settings
whole_armed box room w =
    record {
      kinds = named_kinds kind_of machines capture (with_unit (armed room)) box.stands.blocks (λ b. arming_keeps room b.unit) ∙ w.kinds;
      four = w.four;
    }

pub whole_disarmed : (box : Box) → IsWhole box.stands.blocks box.stands.settings →
    IsWhole (changed_box box changes.Disarm).stands.blocks (changed_box box changes.Disarm).stands.settings
whole_disarmed box w =
    record {
      kinds = named_kinds kind_of machines capture (with_unit disarmed) box.stands.blocks (λ b. disarming_keeps b.unit) ∙ w.kinds;
      four = w.four;
    }

pub whole_first : IsWhole opening_box.stands.blocks opening_box.stands.settings
whole_first = opening_whole opening_box.stands.blocks opening_box.stands.settings refl refl
