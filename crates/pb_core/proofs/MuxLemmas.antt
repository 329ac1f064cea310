-- The bit inputs of the box are those of the settings.
use Rattle.std.proofs.Common.{◌≡◌, ◌≢◌, ℕ, zero, suc, ◌+◌, ◌-◌, ◌<◌, ◌≤◌, ◌==◌, ◌&&◌, ◌||◌, Bool, true, false, not, leb, List, [], ◌∷◌, ◌++◌, length, get_or, set, take, map, refl, sym, ap, subst, ◌∙◌, arith, eq-eqb, if◌then◌else◌}
use Rattle.std.specs.List.{AllByRecursion}
use Rattle.std.proofs.lemmas.Bool.{leb-true, eqb-true, eqb-false}
use Rattle.std.proofs.lemmas.List.{get_or-map, get_or-set_same, get_or-set_other, length-set, length-map, length-take-le, length-append}
use Rattle.pb_names.specs.declared.TheConstants.{ITSELF}
use Rattle.pb_names.specs.declared.bit_mux.TheConstants as bit_mux
use Rattle.pb_names.specs.declared.bits.TheConstants as bits
use Rattle.pb_names.specs.declared.lut.TheConstants as lut
use Rattle.pb_fields.specs.declared.Slot.{Slot}
use Rattle.pb_fields.specs.declared.FieldType.{FieldType}
use Rattle.pb_fields.specs.declared.FieldType.TheVariants as types
use Rattle.pb_fields.specs.Types.{attributes_of}
use Rattle.pb_fields.specs.Catalogue.{catalogue}
use Rattle.pb_fields.specs.Places.{field_of, type_of}
use Rattle.pb_fields.specs.Slots.{IsSlot, type_at, default_of}
use Rattle.pb_fields.proofs.RowLemmas.{and_left, and_right}
use Rattle.pb_buses.specs.declared.Bus.{Bus}
use Rattle.pb_buses.specs.Delay.{BitInput, wired, delayed, opening_input}
use Rattle.pb_model.specs.declared.Block.{Block}
use Rattle.pb_model.specs.Machines.{machines, machine_kinds, name, place_in, with_named}
use Rattle.pb_model.specs.Tick.{is_bit_mux, input_after, block_after, opening_selections, opening_block}
use Rattle.pb_model.specs.Settings.{bit_place, with_input, with_field_value, with_value, block_of_slot, blocks_with}
use Rattle.pb_model.proofs.PlaceLemmas.{in_turn, in_few, kind_at, named_is_set, named_is_got, machines_are_many}
use Rattle.pb_model.proofs.SettingLemmas.{bit_mux_place, bit_mux_few, is_bit_mux_at}
use Rattle.pb_model.proofs.TickLemmas.{length-machine_kinds}
use Rattle.pb_config.specs.Settings.{Settings, raw_of, place}
use Rattle.pb_config.specs.Defaults.{fresh}
use Rattle.pb_config.proofs.PlaceLemmas.{one_place}
use Rattle.pb_config.proofs.KeptLemmas.{fresh_value}
use Rattle.pb_config.proofs.TextLemmas.{all_of, at_each, where_so}
use Rattle.pb_core.specs.Muxes.{IsMux, delay_of, input_of}

-- Facts of the catalogue.

mux_true : (slot : Slot) → IsMux slot → is_bit_mux (type_at slot) ≡ true
mux_true slot m = is_bit_mux_at (type_at slot) m.mux

is_late : ℕ → ℕ → ℕ → Bool
is_late b f a = not (is_bit_mux (type_of b f)) || leb lut.BLOCK b

all_late : all_of is_late ≡ true
unfolding is_late catalogue
all_late = refl

from_lut : (slot : Slot) → IsMux slot → lut.BLOCK ≤ slot.block
unfolding is_late
from_lut slot m = leb-true lut.BLOCK slot.block (where_so _ _ (at_each is_late all_late slot m.in_catalogue) (mux_true slot m))

is_first : ℕ → ℕ → ℕ → Bool
is_first b f a =
    not (is_bit_mux (type_of b f))
    || ((get_or (opening_block b).bits f opening_input).select == (field_of b f).default
    && (get_or (opening_block b).bits f opening_input).delay == 0)

all_first : all_of is_first ≡ true
unfolding is_first catalogue opening_block opening_selections
all_first = refl

first : (slot : Slot) → IsMux slot →
    ((get_or (opening_block slot.block).bits slot.field opening_input).select == (field_of slot.block slot.field).default
    && (get_or (opening_block slot.block).bits slot.field opening_input).delay == 0) ≡ true
unfolding is_first
first slot m = where_so _ _ (at_each is_first all_first slot m.in_catalogue) (mux_true slot m)

-- Places.

place_of : Slot → ℕ
place_of slot = place_in machines (block_of_slot slot)

inside : (slot : Slot) → IsMux slot → place_in machines (block_of_slot slot) < 35
inside slot m =
    let s : IsSlot slot = m.in_catalogue in
    let from : lut.BLOCK ≤ slot.block = from_lut slot m in
    omega (
      arith,
      in_turn slot.block slot.instance from (omega (arith, s.in_blocks)) s.from_one s.in_count,
      in_few slot.block slot.instance from (omega (arith, s.in_blocks)) s.from_one s.in_count,
    )

kind_there : (slot : Slot) → IsMux slot → get_or machine_kinds (place_in machines (block_of_slot slot)) 0 ≡ slot.block
kind_there slot m =
    let s : IsSlot slot = m.in_catalogue in
    kind_at slot.block slot.instance (from_lut slot m) (omega (arith, s.in_blocks)) s.from_one s.in_count

turn : (slot : Slot) → IsMux slot → place_in machines (block_of_slot slot) ≡ place_in machines (name slot.block 1) + slot.instance - 1
turn slot m =
    let s : IsSlot slot = m.in_catalogue in
    in_turn slot.block slot.instance (from_lut slot m) (omega (arith, s.in_blocks)) s.from_one s.in_count

-- two muxes at one place of one block are one
one_mux : (u t : Slot) → IsMux u → IsMux t → place_in machines (block_of_slot u) ≡ place_in machines (block_of_slot t) → u.field ≡ t.field → u ≡ t
one_mux u t m n e f =
    let b : u.block ≡ t.block =
    sym (kind_there u m) ∙ (ap (λ k. get_or machine_kinds k 0) e ∙ kind_there t n) in
    let first : place_in machines (name u.block 1) ≡ place_in machines (name t.block 1) = ap (λ k. place_in machines (name k 1)) b in
    let i : u.instance ≡ t.instance =
    omega (arith, turn u m, turn t n, e, first, m.in_catalogue.from_one, n.in_catalogue.from_one) in
    let a : u.attr ≡ t.attr = m.itself ∙ sym n.itself in
    ap (λ x. record { block = x; instance = u.instance; field = u.field; attr = u.attr }) b
    ∙ (ap (λ x. record { block = t.block; instance = x; field = u.field; attr = u.attr }) i
    ∙ (ap (λ x. record { block = t.block; instance = t.instance; field = x; attr = u.attr }) f
    ∙ ap (λ x. record { block = t.block; instance = t.instance; field = t.field; attr = x }) a))

-- The input at its places.

abbrev pub at : List Block → Slot → BitInput
at blocks slot = get_or (get_or blocks (place_in machines (block_of_slot slot)) (opening_block slot.block)).bits slot.field opening_input

pub input_is : (blocks : List Block) (slot : Slot) → length blocks ≡ 35 → IsMux slot → input_of blocks slot ≡ at blocks slot
input_is blocks slot many m =
    ap (λ (b : Block). get_or b.bits (bit_place slot) opening_input)
    (named_is_got machines (block_of_slot slot) blocks (opening_block slot.block) (many ∙ sym machines_are_many))
    ∙ ap (λ p. get_or (get_or blocks (place_in machines (block_of_slot slot)) (opening_block slot.block)).bits p opening_input)
    (bit_mux_place slot m.in_catalogue (mux_true slot m))

-- what is kept of the blocks: 35 of them, with five inputs each, which are those of the settings
pub record Holds (settings : Settings) (blocks : List Block) : Type 0 where
  pub many : length blocks ≡ 35
  pub full : AllByRecursion (λ (b : Block). length b.bits ≡ 5) blocks
  pub selections : (slot : Slot) → IsMux slot → (at blocks slot).select ≡ raw_of settings slot
  pub delays : (slot : Slot) → IsMux slot → (at blocks slot).delay ≡ raw_of settings (delay_of slot)

-- Lists.

all_map : {X Y : Type 0} (P : Y → Type 0) (f : X → Y) (xs : List X) → ((x : X) → P (f x)) → AllByRecursion P (map f xs)
all_map P f [] h = tt
all_map P f (x ∷ xs) h = (h x, all_map P f xs h)

all_after : (f : Block → Block) (xs : List Block) → ((b : Block) → length (f b).bits ≡ length b.bits) → AllByRecursion (λ (b : Block). length b.bits ≡ 5) xs → AllByRecursion (λ (b : Block). length b.bits ≡ 5) (map f xs)
all_after f [] h all = tt
all_after f (x ∷ xs) h all = (h x ∙ all.0, all_after f xs h all.1)

all_got : (xs : List Block) (i : ℕ) (d : Block) → AllByRecursion (λ (b : Block). length b.bits ≡ 5) xs → i < length xs → length (get_or xs i d).bits ≡ 5
all_got [] i d all h = absurd (omega arith)
all_got (x ∷ xs) zero d all h = all.0
all_got (x ∷ xs) (suc i) d all h = all_got xs i d all.1 (omega arith)

pub all_set : (xs : List Block) (i : ℕ) (f : Block → Block) (d : Block) → ((b : Block) → length (f b).bits ≡ length b.bits) → AllByRecursion (λ (b : Block). length b.bits ≡ 5) xs → AllByRecursion (λ (b : Block). length b.bits ≡ 5) (set xs i (f (get_or xs i d)))
all_set [] zero f d h all = tt
all_set [] (suc i) f d h all = tt
all_set (x ∷ xs) zero f d h all = (h x ∙ all.0, all.1)
all_set (x ∷ xs) (suc i) f d h all = (all.0, all_set xs i f d h all.1)

-- a change of one input that leaves what is read of it leaves what is read of all
set_keeps : (h : BitInput → ℕ) (f : BitInput → BitInput) → ((x : BitInput) → h (f x) ≡ h x) → (xs : List BitInput) (p q : ℕ) →
    h (get_or (set xs p (f (get_or xs p opening_input))) q opening_input) ≡ h (get_or xs q opening_input)
set_keeps h f e [] zero q = refl
set_keeps h f e [] (suc p) q = refl
set_keeps h f e (x ∷ xs) zero zero = e x
set_keeps h f e (x ∷ xs) zero (suc q) = refl
set_keeps h f e (x ∷ xs) (suc p) zero = refl
set_keeps h f e (x ∷ xs) (suc p) (suc q) = set_keeps h f e xs p q

-- one input of one block, and all others
apart_list : (xs : List Block) (k j p q : ℕ) (d e : Block) (g : BitInput → BitInput) → (j ≡ k → q ≢ p) →
    get_or (get_or (set xs k (with_input p g (get_or xs k d))) j e).bits q opening_input ≡ get_or (get_or xs j e).bits q opening_input
apart_list [] zero j p q d e g h = refl
apart_list [] (suc k) j p q d e g h = refl
apart_list (x ∷ xs) zero zero p q d e g h = get_or-set_other x.bits p q (g (get_or x.bits p opening_input)) opening_input (h refl)
apart_list (x ∷ xs) zero (suc j) p q d e g h = refl
apart_list (x ∷ xs) (suc k) zero p q d e g h = refl
apart_list (x ∷ xs) (suc k) (suc j) p q d e g h = apart_list xs k j p q d e g (λ same. h (ap suc same))

here_list : (xs : List Block) (k p : ℕ) (d e : Block) (g : BitInput → BitInput) → k < length xs → AllByRecursion (λ (b : Block). length b.bits ≡ 5) xs → p < 5 →
    get_or (get_or (set xs k (with_input p g (get_or xs k d))) k e).bits p opening_input ≡ g (get_or (get_or xs k e).bits p opening_input)
here_list [] k p d e g h all few = absurd (omega arith)
here_list (x ∷ xs) zero p d e g h all few =
    get_or-set_same x.bits p (g (get_or x.bits p opening_input)) opening_input (omega (arith, all.0, few))
here_list (x ∷ xs) (suc k) p d e g h all few = here_list xs k p d e g (omega arith) all.1 few

pub keeps_list : (h : BitInput → ℕ) (f : Block → Block) → ((b : Block) (q : ℕ) → h (get_or (f b).bits q opening_input) ≡ h (get_or b.bits q opening_input)) →
    (xs : List Block) (k j q : ℕ) (d e : Block) →
    h (get_or (get_or (set xs k (f (get_or xs k d))) j e).bits q opening_input) ≡ h (get_or (get_or xs j e).bits q opening_input)
keeps_list h f same [] zero j q d e = refl
keeps_list h f same [] (suc k) j q d e = refl
keeps_list h f same (x ∷ xs) zero zero q d e = same x q
keeps_list h f same (x ∷ xs) zero (suc j) q d e = refl
keeps_list h f same (x ∷ xs) (suc k) zero q d e = refl
keeps_list h f same (x ∷ xs) (suc k) (suc j) q d e = keeps_list h f same xs k j q d e

-- As the box opens.

five_taken : (xs : List ℕ) → length (take 5 (xs ++ 128 ∷ 128 ∷ 128 ∷ 128 ∷ 128 ∷ [])) ≡ 5
five_taken xs =
    let long : length (xs ++ 128 ∷ 128 ∷ 128 ∷ 128 ∷ 128 ∷ []) ≡ length xs + 5 = length-append xs (128 ∷ 128 ∷ 128 ∷ 128 ∷ 128 ∷ []) in
    length-take-le 5 (xs ++ 128 ∷ 128 ∷ 128 ∷ 128 ∷ 128 ∷ []) (omega (arith, long))

opening_five : (kind : ℕ) → length (opening_block kind).bits ≡ 5
unfolding opening_block opening_selections
opening_five kind = length-map (opening_selections kind) (wired opening_input) ∙ five_taken _

delay_slot : (slot : Slot) → IsMux slot → IsSlot (delay_of slot)
delay_slot slot m =
    let s : IsSlot slot = m.in_catalogue in
    record {
      in_blocks = s.in_blocks;
      from_one = s.from_one;
      in_count = s.in_count;
      in_fields = s.in_fields;
      in_attributes = subst (λ (t : FieldType). 2 ≤ length (attributes_of t)) (sym m.mux) (omega arith);
    }

default_here : (slot : Slot) → IsMux slot → default_of slot ≡ (field_of slot.block slot.field).default
default_here slot m = rw m.itself refl

default_delay : (slot : Slot) → IsMux slot → default_of (delay_of slot) ≡ 0
default_delay slot m = rw m.mux refl

at_first : (slot : Slot) → IsMux slot → at (map opening_block machine_kinds) slot ≡ get_or (opening_block slot.block).bits slot.field opening_input
at_first slot m =
    ap (λ (b : Block). get_or b.bits slot.field opening_input)
    (get_or-map opening_block machine_kinds (place_in machines (block_of_slot slot)) 0 (opening_block slot.block) (omega (arith, inside slot m, length-machine_kinds))
    ∙ ap opening_block (kind_there slot m))

pub holds_first : Holds fresh (map opening_block machine_kinds)
holds_first =
    record {
      many = length-map machine_kinds opening_block ∙ length-machine_kinds;
      full = all_map (λ (b : Block). length b.bits ≡ 5) opening_block machine_kinds opening_five;
      selections = λ slot m.
          ap (λ (x : BitInput). x.select) (at_first slot m)
          ∙ (eqb-true _ _ (and_left _ _ (first slot m))
          ∙ sym (fresh_value slot m.in_catalogue ∙ default_here slot m));
      delays = λ slot m.
          ap (λ (x : BitInput). x.delay) (at_first slot m)
          ∙ (eqb-true _ _ (and_right _ _ (first slot m))
          ∙ sym (fresh_value (delay_of slot) (delay_slot slot m) ∙ default_delay slot m));
    }

-- A tick.

at_tick : (bus : Bus) (tick : ℕ) (settings : Settings) (blocks : List Block) (slot : Slot) → Holds settings blocks → IsMux slot →
    at (map (block_after bus tick) blocks) slot ≡ input_after bus (at blocks slot)
at_tick bus tick settings blocks slot h m =
    let k : ℕ = place_in machines (block_of_slot slot) in
    let d : Block = opening_block slot.block in
    let within : k < length blocks = omega (arith, inside slot m, h.many) in
    ap (λ (b : Block). get_or b.bits slot.field opening_input) (get_or-map (block_after bus tick) blocks k d d within)
    ∙ get_or-map (input_after bus) (get_or blocks k d).bits slot.field opening_input opening_input
    (omega (arith, all_got blocks k d h.full within, bit_mux_few slot m.in_catalogue (mux_true slot m)))

pub holds_tick : (bus : Bus) (tick : ℕ) (settings : Settings) (blocks : List Block) → Holds settings blocks → Holds settings (map (block_after bus tick) blocks)
holds_tick bus tick settings blocks h =
    record {
      many = length-map blocks (block_after bus tick) ∙ h.many;
      full = all_after (block_after bus tick) blocks (λ b. length-map b.bits (input_after bus)) h.full;
      selections = λ slot m. ap (λ (x : BitInput). x.select) (at_tick bus tick settings blocks slot h m) ∙ h.selections slot m;
      delays = λ slot m. ap (λ (x : BitInput). x.delay) (at_tick bus tick settings blocks slot h m) ∙ h.delays slot m;
    }

-- A value of a setting.

select_kept : (a : Bool) (ty : FieldType) (t : Slot) (raw : ℕ) (b : Block) (q : ℕ) → (a && is_bit_mux ty) ≡ false →
    (get_or (if a then with_field_value ty t raw b else with_input (bit_place t) (λ x. delayed x raw) b).bits q opening_input).select
    ≡ (get_or b.bits q opening_input).select
select_kept false ty t raw b q h = set_keeps (λ x. x.select) (λ x. delayed x raw) (λ x. refl) b.bits (bit_place t) q
select_kept true types.BitMux t raw b q h = absurd (cc)
select_kept true _ t raw b q h = refl

delay_kept : (ty : FieldType) (t : Slot) (raw : ℕ) (b : Block) (q : ℕ) →
    (get_or (with_field_value ty t raw b).bits q opening_input).delay ≡ (get_or b.bits q opening_input).delay
delay_kept types.BitMux t raw b q = set_keeps (λ x. x.delay) (λ x. wired x raw) (λ x. refl) b.bits (bit_place t) q
delay_kept _ t raw b q = refl

own_delay : (a : Bool) (ty : FieldType) (t : Slot) (raw : ℕ) (b : Block) (q : ℕ) → a ≡ true →
    (get_or (if a then with_field_value ty t raw b else with_input (bit_place t) (λ x. delayed x raw) b).bits q opening_input).delay
    ≡ (get_or b.bits q opening_input).delay
own_delay true ty t raw b q h = delay_kept ty t raw b q
own_delay false ty t raw b q h = absurd (cc)

field_long : (ty : FieldType) (t : Slot) (raw : ℕ) (b : Block) → length (with_field_value ty t raw b).bits ≡ length b.bits
field_long types.BitMux t raw b = length-set b.bits (bit_place t) (wired (get_or b.bits (bit_place t) opening_input) raw)
field_long _ t raw b = refl

value_long : (a : Bool) (ty : FieldType) (t : Slot) (raw : ℕ) (b : Block) →
    length (if a then with_field_value ty t raw b else with_input (bit_place t) (λ x. delayed x raw) b).bits ≡ length b.bits
value_long true ty t raw b = field_long ty t raw b
value_long false ty t raw b = length-set b.bits (bit_place t) (delayed (get_or b.bits (bit_place t) opening_input) raw)

blocks_kept : (h : BitInput → ℕ) (t : Slot) (raw : ℕ) (blocks : List Block) (u : Slot) → length blocks ≡ 35 →
    ((b : Block) (q : ℕ) → h (get_or (with_value t raw b).bits q opening_input) ≡ h (get_or b.bits q opening_input)) →
    h (at (blocks_with t raw blocks) u) ≡ h (at blocks u)
blocks_kept h t raw blocks u many same = by (t.block == bits.BLOCK)
  where
    by : (c : Bool) → h (at (if c then blocks else with_named machines (block_of_slot t) (with_value t raw) blocks) u) ≡ h (at blocks u)
    by true = refl
    by false =
        ap (λ l. h (at l u)) (named_is_set machines (block_of_slot t) (with_value t raw) blocks (opening_block t.block) (many ∙ sym machines_are_many))
        ∙ keeps_list h (with_value t raw) same blocks (place_in machines (block_of_slot t)) (place_in machines (block_of_slot u)) u.field (opening_block t.block) (opening_block u.block)

-- the change of one input, where the slot is of a mux
blocks_are : (t : Slot) (raw : ℕ) (g : BitInput → BitInput) (p : ℕ) (blocks : List Block) → length blocks ≡ 35 → lut.BLOCK ≤ t.block →
    ((b : Block) → with_value t raw b ≡ with_input p g b) →
    blocks_with t raw blocks
    ≡ set blocks (place_in machines (block_of_slot t)) (with_input p g (get_or blocks (place_in machines (block_of_slot t)) (opening_block t.block)))
blocks_are t raw g p blocks many late is = by (t.block == bits.BLOCK) refl
  where
    k : ℕ
    k = place_in machines (block_of_slot t)

    by : (c : Bool) → (t.block == bits.BLOCK) ≡ c → (if c then blocks else with_named machines (block_of_slot t) (with_value t raw) blocks)
        ≡ set blocks (place_in machines (block_of_slot t)) (with_input p g (get_or blocks (place_in machines (block_of_slot t)) (opening_block t.block)))
    by true e = absurd (omega (arith, eqb-true t.block bits.BLOCK e))
    by false e =
        named_is_set machines (block_of_slot t) (with_value t raw) blocks (opening_block t.block) (many ∙ sym machines_are_many)
        ∙ ap (set blocks (place_in machines (block_of_slot t))) (is (get_or blocks (place_in machines (block_of_slot t)) (opening_block t.block)))

wire_is : (t : Slot) (raw : ℕ) (b : Block) → IsMux t → with_value t raw b ≡ with_input t.field (λ x. wired x raw) b
wire_is t raw b m =
    rw (m.itself, m.mux) (ap (λ p. with_input p (λ x. wired x raw) b) (bit_mux_place t m.in_catalogue (mux_true t m)))

delay_is : (t : Slot) (raw : ℕ) (b : Block) → IsMux t → with_value (delay_of t) raw b ≡ with_input t.field (λ x. delayed x raw) b
delay_is t raw b m = ap (λ p. with_input p (λ x. delayed x raw) b) (bit_mux_place t m.in_catalogue (mux_true t m))

full_after : (t : Slot) (raw : ℕ) (blocks : List Block) → length blocks ≡ 35 → AllByRecursion (λ (b : Block). length b.bits ≡ 5) blocks →
    (length (blocks_with t raw blocks) ≡ 35) × AllByRecursion (λ (b : Block). length b.bits ≡ 5) (blocks_with t raw blocks)
full_after t raw blocks many full = by (t.block == bits.BLOCK)
  where
    by : (c : Bool) → (length (if c then blocks else with_named machines (block_of_slot t) (with_value t raw) blocks) ≡ 35)
        × AllByRecursion (λ (b : Block). length b.bits ≡ 5) (if c then blocks else with_named machines (block_of_slot t) (with_value t raw) blocks)
    by true = (many, full)
    by false =
        let k : ℕ = place_in machines (block_of_slot t) in
        let d : Block = opening_block t.block in
        subst (λ l. (length l ≡ 35) × AllByRecursion (λ (b : Block). length b.bits ≡ 5) l)
        (sym (named_is_set machines (block_of_slot t) (with_value t raw) blocks d (many ∙ sym machines_are_many)))
        (length-set blocks k (with_value t raw (get_or blocks k d)) ∙ many, all_set blocks k (with_value t raw) d (value_long (t.attr == ITSELF) (type_at t) t raw) full)

module _ (settings next : Settings) (t : Slot) (raw : ℕ) (blocks : List Block) (s : IsSlot t)
    (here : raw_of next t ≡ raw)
    (others : (u : Slot) → IsSlot u → u ≢ t → raw_of next u ≡ raw_of settings u)
    (h : Holds settings blocks) where
  -- a mux selects
  pub holds_wired : IsMux t → Holds next (blocks_with t raw blocks)
  holds_wired m =
      let full = full_after t raw blocks h.many h.full in
      let k : ℕ = place_in machines (block_of_slot t) in
      let is = blocks_are t raw (λ x. wired x raw) t.field blocks h.many (from_lut t m) (λ b. wire_is t raw b m) in
      record {
        many = full.0;
        full = full.1;
        selections = λ u n. selects u n (place u == place t) refl is m;
        delays = λ u n.
            ap (λ l. (at l u).delay) is
            ∙ (keeps_list (λ x. x.delay) (with_input t.field (λ x. wired x raw)) (λ b q. set_keeps (λ x. x.delay) (λ x. wired x raw) (λ x. refl) b.bits t.field q)
            blocks k (place_in machines (block_of_slot u)) u.field (opening_block t.block) (opening_block u.block)
            ∙ (h.delays u n ∙ sym (others (delay_of u) (delay_slot u n) (λ e. apart_attr (ap (λ (x : Slot). x.attr) e ∙ m.itself)))));
      }
    where
      apart_attr : bit_mux.DELAY ≡ ITSELF → ⊥
      apart_attr e = omega (arith, e)

      selects : (u : Slot) → IsMux u → (c : Bool) → (place u == place t) ≡ c →
          blocks_with t raw blocks ≡ set blocks (place_in machines (block_of_slot t)) (with_input t.field (λ x. wired x raw) (get_or blocks (place_in machines (block_of_slot t)) (opening_block t.block))) →
          IsMux t → (at (blocks_with t raw blocks) u).select ≡ raw_of next u
      selects u n true e is m =
          let same : u ≡ t = one_place u t n.in_catalogue s (eqb-true _ _ e) in
          subst (λ v. (at (blocks_with t raw blocks) v).select ≡ raw_of next v) (sym same)
          (ap (λ l. (at l t).select) is
          ∙ (ap (λ (x : BitInput). x.select)
          (here_list blocks (place_in machines (block_of_slot t)) t.field (opening_block t.block) (opening_block t.block) (λ x. wired x raw)
          (omega (arith, inside t m, h.many)) h.full (bit_mux_few t s (mux_true t m)))
          ∙ sym here))
      selects u n false e is m =
          let other : u ≢ t = λ same. eqb-false _ _ e (ap place same) in
          ap (λ l. (at l u).select) is
          ∙ (ap (λ (x : BitInput). x.select)
          (apart_list blocks (place_in machines (block_of_slot t)) (place_in machines (block_of_slot u)) t.field u.field (opening_block t.block) (opening_block u.block) (λ x. wired x raw)
          (λ at_one field. other (one_mux u t n m at_one field)))
          ∙ (h.selections u n ∙ sym (others u n.in_catalogue other)))

attrs_apart : bit_mux.DELAY ≡ ITSELF → ⊥
attrs_apart e = omega (arith, e)

pub mux_type : (ty : FieldType) → is_bit_mux ty ≡ true → ty ≡ types.BitMux
mux_type types.BitMux h = refl
mux_type _ h = absurd (cc)

pub apart : false ≡ true → ⊥
apart h = cc

module _ (settings next : Settings) (t : Slot) (raw : ℕ) (blocks : List Block) (m : IsMux t)
    (here : raw_of next (delay_of t) ≡ raw)
    (others : (u : Slot) → IsSlot u → u ≢ delay_of t → raw_of next u ≡ raw_of settings u)
    (h : Holds settings blocks) where
  -- a mux is delayed
  delays_now : (u : Slot) → IsMux u → (c : Bool) → (place (delay_of u) == place (delay_of t)) ≡ c →
      blocks_with (delay_of t) raw blocks ≡ set blocks (place_in machines (block_of_slot t)) (with_input t.field (λ x. delayed x raw) (get_or blocks (place_in machines (block_of_slot t)) (opening_block t.block))) →
      (at (blocks_with (delay_of t) raw blocks) u).delay ≡ raw_of next (delay_of u)
  delays_now u n true e is =
      let same : delay_of u ≡ delay_of t = one_place (delay_of u) (delay_of t) (delay_slot u n) (delay_slot t m) (eqb-true _ _ e) in
      let one : u ≡ t = one_mux u t n m (ap (λ (x : Slot). place_in machines (block_of_slot x)) same) (ap (λ (x : Slot). x.field) same) in
      subst (λ v. (at (blocks_with (delay_of t) raw blocks) v).delay ≡ raw_of next (delay_of v)) (sym one)
      (ap (λ l. (at l t).delay) is
      ∙ (ap (λ (x : BitInput). x.delay)
      (here_list blocks (place_in machines (block_of_slot t)) t.field (opening_block t.block) (opening_block t.block) (λ x. delayed x raw)
      (omega (arith, inside t m, h.many)) h.full (bit_mux_few t m.in_catalogue (mux_true t m)))
      ∙ sym here))
  delays_now u n false e is =
      let other : delay_of u ≢ delay_of t = λ same. eqb-false _ _ e (ap place same) in
      ap (λ l. (at l u).delay) is
      ∙ (ap (λ (x : BitInput). x.delay)
      (apart_list blocks (place_in machines (block_of_slot t)) (place_in machines (block_of_slot u)) t.field u.field (opening_block t.block) (opening_block u.block) (λ x. delayed x raw)
      (λ at_one field. other (ap delay_of (one_mux u t n m at_one field))))
      ∙ (h.delays u n ∙ sym (others (delay_of u) (delay_slot u n) other)))

  pub holds_delayed : Holds next (blocks_with (delay_of t) raw blocks)
  holds_delayed =
      let full = full_after (delay_of t) raw blocks h.many h.full in
      let k : ℕ = place_in machines (block_of_slot t) in
      let is = blocks_are (delay_of t) raw (λ x. delayed x raw) t.field blocks h.many (from_lut t m) (λ b. delay_is t raw b m) in
      record {
        many = full.0;
        full = full.1;
        selections = λ u n.
            ap (λ l. (at l u).select) is
            ∙ (keeps_list (λ x. x.select) (with_input t.field (λ x. delayed x raw)) (λ b q. set_keeps (λ x. x.select) (λ x. delayed x raw) (λ x. refl) b.bits t.field q)
            blocks k (place_in machines (block_of_slot u)) u.field (opening_block t.block) (opening_block u.block)
            ∙ (h.selections u n ∙ sym (others u n.in_catalogue (λ e. attrs_apart (sym (ap (λ (x : Slot). x.attr) e) ∙ n.itself)))));
        delays = λ u n. delays_now u n (place (delay_of u) == place (delay_of t)) refl is;
      }

module _ (settings next : Settings) (t : Slot) (raw : ℕ) (blocks : List Block) (s : IsSlot t)
    (here : raw_of next t ≡ raw)
    (others : (u : Slot) → IsSlot u → u ≢ t → raw_of next u ≡ raw_of settings u)
    (h : Holds settings blocks) where
  -- another field
  pub holds_bare : t.attr ≡ ITSELF → is_bit_mux (type_at t) ≡ false → Holds next (blocks_with t raw blocks)
  holds_bare a bare =
      let full = full_after t raw blocks h.many h.full in
      record {
        many = full.0;
        full = full.1;
        selections = λ u n.
            blocks_kept (λ x. x.select) t raw blocks u h.many (λ b q. select_kept (t.attr == ITSELF) (type_at t) t raw b q (rw (a, bare) refl))
            ∙ (h.selections u n
            ∙ sym (others u n.in_catalogue (λ e. apart (sym bare ∙ ap (λ (x : Slot). is_bit_mux (type_at x)) (sym e) ∙ mux_true u n))));
        delays = λ u n.
            blocks_kept (λ x. x.delay) t raw blocks u h.many (λ b q. own_delay (t.attr == ITSELF) (type_at t) t raw b q (eq-eqb t.attr ITSELF a))
            ∙ (h.delays u n ∙ sym (others (delay_of u) (delay_slot u n) (λ e. attrs_apart (ap (λ (x : Slot). x.attr) e ∙ a))));
      }

  -- a field itself
  pub holds_own : t.attr ≡ ITSELF → Holds next (blocks_with t raw blocks)
  holds_own a = by (is_bit_mux (type_at t)) refl
    where
      by : (c : Bool) → is_bit_mux (type_at t) ≡ c → Holds next (blocks_with t raw blocks)
      by true e = holds_wired settings next t raw blocks s here others h (record { in_catalogue = s; mux = mux_type (type_at t) e; itself = a })
      by false e = holds_bare a e

  -- what the box doesn't take
  pub holds_same : ((u : Slot) → IsMux u → (u ≢ t) × (delay_of u ≢ t)) → Holds next blocks
  holds_same never =
      record {
        many = h.many;
        full = h.full;
        selections = λ u n. h.selections u n ∙ sym (others u n.in_catalogue (never u n).0);
        delays = λ u n. h.delays u n ∙ sym (others (delay_of u) (delay_slot u n) (never u n).1);
      }
