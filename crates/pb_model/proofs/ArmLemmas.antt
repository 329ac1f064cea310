-- PCAP among the blocks: it stands last, and no other block emits.
use Rattle.std.proofs.Common.{◌≡◌, ℕ, ◌<◌, ◌==◌, ◌&&◌, Bool, true, false, not, List, [], ◌∷◌, ◌++◌, length, take, map, get_or, set, Result, Ok, Err, refl, sym, ap, ◌∙◌, arith, if◌then◌else◌}
use Rattle.std.specs.List.{list_all}
use Rattle.std.proofs.lemmas.List.{get_or-map, get_or-set_same, get_or_default, length-set}
use Rattle.std.proofs.Math.Seq.{map-set_same}
use Rattle.pb_names.specs.declared.TheConstants.{ITSELF}
use Rattle.pb_names.specs.declared.pcap.TheConstants as pcap
use Rattle.pb_names.specs.declared.bits.TheConstants as bits
use Rattle.pb_fields.specs.Catalogue.{catalogue}
use Rattle.pb_fields.specs.Places.{count_of}
use Rattle.pb_fields.specs.declared.Slot.{Slot}
use Rattle.pb_fields.specs.declared.FieldType.{FieldType}
use Rattle.pb_fields.specs.declared.FieldType.TheVariants as types
use Rattle.pb_fields.specs.Slots.{type_at}
use Rattle.pb_buses.specs.declared.Inputs.{Inputs}
use Rattle.pb_buses.specs.declared.Bus.{Bus}
use Rattle.pb_buses.specs.declared.Emit.{Emit}
use Rattle.pb_buses.specs.Edges.{edge_of}
use Rattle.pb_buses.specs.Delay.{delayed}
use Rattle.pb_buses.specs.declared.Emit.TheVariants as emits
use Rattle.pb_pcap.specs.Pcap as captures
use Rattle.pb_pcap.specs.declared.PcapMode.{PcapMode}
use Rattle.pb_pcap.specs.declared.PcapMode.TheVariants as modes
use Rattle.pb_pcap.specs.declared.PcapSettings.{PcapSettings}
use Rattle.pb_pcap.specs.declared.PcapRegisters.{PcapRegisters}
use Rattle.pb_model.specs.declared.units.Unit.{Unit as AnyUnit}
use Rattle.pb_model.specs.declared.units.Unit.TheVariants as units
use Rattle.pb_model.specs.declared.blocks.Block.{Block}
use Rattle.pb_model.specs.Units.{place_of, next, is_quiet, emitted, with_field, with_words, is_idle, armed, disarmed}
use Rattle.pb_model.specs.Machines.{Name, is_name, machines, machine_kinds, place_in, with_named, of_name}
use Rattle.pb_model.specs.Tick.{kind_of, sees_all, inputs_of, block_after, emitted_by, or_before, handed_on, opening_block}
use Rattle.pb_model.specs.Kept.{Kept, IsWhole, opening}
use Rattle.pb_model.specs.Settings.{bit_place, with_input, with_value, with_field_value, blocks_with, block_of_slot}
use Rattle.pb_words.specs.declared.Refusal.{Refusal}
use Rattle.pb_model.specs.Tables.{sequencer, block_with_words, blocks_with_table, table_left}
use Rattle.pb_model.specs.Arming.{capture, is_capture_idle, with_unit, blocks_armed, blocks_disarmed, kept_with_blocks, idle_after}
use Rattle.pb_model.proofs.PlaceLemmas.{machines_are_many, named_is_set, named_is_got}
use Rattle.pb_model.proofs.TickLemmas.{are_35}

-- Where it stands.

pub place_of_capture : place_in machines capture ≡ 34
unfolding machines catalogue
place_of_capture = refl

pub one_capture : 1 ≡ count_of pcap.BLOCK
unfolding catalogue
one_capture = refl

others : List ℕ
others = take 34 machine_kinds

kinds_split : machine_kinds ≡ others ++ pcap.BLOCK ∷ []
unfolding others machine_kinds machines catalogue
kinds_split = refl

no_captures : list_all (λ k. not (k == pcap.BLOCK)) others ≡ true
unfolding others machine_kinds machines catalogue
no_captures = refl

many_others : length others ≡ 34
unfolding others machine_kinds machines catalogue
many_others = refl

last_kind : get_or machine_kinds 34 0 ≡ pcap.BLOCK
unfolding machine_kinds machines catalogue
last_kind = refl

-- No other kind emits.

quiet : (unit : AnyUnit) (inputs : Inputs) (tick : ℕ) → (place_of unit == pcap.BLOCK) ≡ false → emitted unit inputs tick ≡ emits.Nothing
quiet (units.Lut block) inputs tick h = refl
quiet (units.Srgate block) inputs tick h = refl
quiet (units.Div block) inputs tick h = refl
quiet (units.Pulse block) inputs tick h = refl
quiet (units.Counter block) inputs tick h = refl
quiet (units.Clock block) inputs tick h = refl
quiet (units.Seq block) inputs tick h = refl
quiet (units.Pcomp block) inputs tick h = refl
quiet (units.Pcap block) inputs tick h = cc

pub others_are_quiet : (unit : AnyUnit) (inputs : Inputs) → (place_of unit == pcap.BLOCK) ≡ false → is_quiet unit inputs ≡ true
others_are_quiet (units.Pcap block) inputs h = cc
others_are_quiet (units.Lut block) inputs h = refl
others_are_quiet (units.Srgate block) inputs h = refl
others_are_quiet (units.Div block) inputs h = refl
others_are_quiet (units.Pulse block) inputs h = refl
others_are_quiet (units.Counter block) inputs h = refl
others_are_quiet (units.Clock block) inputs h = refl
others_are_quiet (units.Seq block) inputs h = refl
others_are_quiet (units.Pcomp block) inputs h = refl

-- a block that doesn't see the whole of both buses
pub none_emitted : (bus : Bus) (tick : ℕ) (block : Block) → sees_all block ≡ false → emitted_by bus tick block ≡ emits.Nothing
none_emitted bus tick block h = quiet block.unit (inputs_of bus block) tick h

first_is_other : (b c : Bool) → (not b && c) ≡ true → b ≡ false
first_is_other true c h = cc
first_is_other false c h = refl

rest_are_others : (b c : Bool) → (not b && c) ≡ true → c ≡ true
rest_are_others true c h = cc
rest_are_others false c h = h

handed : (bus : Bus) (tick : ℕ) (kinds : List ℕ) (blocks : List Block) (before : Emit) (d : Block) →
    list_all (λ k. not (k == pcap.BLOCK)) kinds ≡ true → map kind_of blocks ≡ kinds ++ pcap.BLOCK ∷ [] →
    handed_on before (map (emitted_by bus tick) blocks) ≡ or_before before (emitted_by bus tick (get_or blocks (length kinds) d))
handed bus tick [] [] before d t h = cc
handed bus tick [] (b ∷ []) before d t h = refl
handed bus tick [] (b ∷ c ∷ bs) before d t h = cc
handed bus tick (k ∷ kinds) [] before d t h = cc
handed bus tick (k ∷ kinds) (b ∷ bs) before d t h =
    let e : kind_of b ≡ k = cc in
    let rest : map kind_of bs ≡ kinds ++ pcap.BLOCK ∷ [] = cc in
    let other : (k == pcap.BLOCK) ≡ false = first_is_other (k == pcap.BLOCK) (list_all (λ n. not (n == pcap.BLOCK)) kinds) t in
    let none : emitted_by bus tick b ≡ emits.Nothing = quiet b.unit (inputs_of bus b) tick (ap (λ n. n == pcap.BLOCK) e ∙ other) in
    ap (λ m. handed_on (or_before before m) (map (emitted_by bus tick) bs)) none
    ∙ handed bus tick kinds bs before d (rest_are_others (k == pcap.BLOCK) (list_all (λ n. not (n == pcap.BLOCK)) kinds) t) rest

nothing_before : (emit : Emit) → or_before emits.Nothing emit ≡ emit
nothing_before emits.Nothing = refl
nothing_before (emits.Record row) = refl
nothing_before (emits.Completed condition) = refl

-- what a tick of the box emits is what PCAP emits
pub emitted_is : (bus : Bus) (tick : ℕ) (blocks : List Block) (d : Block) → map kind_of blocks ≡ machine_kinds →
    handed_on emits.Nothing (map (emitted_by bus tick) blocks) ≡ emitted_by bus tick (get_or blocks 34 d)
emitted_is bus tick blocks d h =
    handed bus tick others blocks emits.Nothing d no_captures (h ∙ kinds_split)
    ∙ (nothing_before (emitted_by bus tick (get_or blocks (length others) d))
    ∙ ap (λ n. emitted_by bus tick (get_or blocks n d)) many_others)

pub capture_inside : (blocks : List Block) → map kind_of blocks ≡ machine_kinds → 34 < length blocks
capture_inside blocks h = omega (arith, are_35 blocks h)

pub capture_there : (blocks : List Block) (d : Block) → map kind_of blocks ≡ machine_kinds → kind_of (get_or blocks 34 d) ≡ pcap.BLOCK
capture_there blocks d h =
    sym (get_or-map kind_of blocks 34 d 0 (capture_inside blocks h)) ∙ (ap (λ l. get_or l 34 0) h ∙ last_kind)

pub idle_there : (blocks : List Block) (d : Block) → map kind_of blocks ≡ machine_kinds → is_capture_idle blocks ≡ is_idle (get_or blocks 34 d).unit
idle_there blocks d h =
    ap (λ (b : Block). is_idle b.unit)
    (named_is_got machines capture blocks (opening_block pcap.BLOCK) (are_35 blocks h ∙ sym machines_are_many)
    ∙ (ap (λ n. get_or blocks n (opening_block pcap.BLOCK)) place_of_capture
    ∙ get_or_default blocks 34 (opening_block pcap.BLOCK) d (capture_inside blocks h)))

-- A tick.

capture_idle : (mode : PcapMode) (s : PcapSettings) (r : PcapRegisters) (i : Inputs) → r.mode ≡ mode →
    captures.is_idle_mode (captures.captured mode s r i).mode ≡ idle_after (captures.emitted_in mode s r i) (captures.is_idle_mode mode)
capture_idle modes.Idle s r i e = ap captures.is_idle_mode e
capture_idle modes.Armed s r i e = by (captures.enable i)
  where
    by : (a : Bool) → captures.is_idle_mode (if a then captures.begun r else captures.inactive r).mode ≡ false
    by true = refl
    by false = ap captures.is_idle_mode e
capture_idle modes.Running s r i e = by (captures.enable i) (captures.is_triggered s r i) (r.room == 0)
  where
    by : (a b c : Bool) →
        captures.is_idle_mode (if a then captures.passed (if b then (if c then captures.ended (captures.sampled r i) else captures.recorded (captures.sampled r i)) else captures.sampled r i) r.ts else captures.ended r).mode
        ≡ idle_after (captures.emitted_of a b c (captures.recorded_at r i)) false
    by false b c = refl
    by true false c = ap captures.is_idle_mode e
    by true true true = refl
    by true true false = ap captures.is_idle_mode e

unit_idle : (unit : AnyUnit) (inputs : Inputs) (tick : ℕ) → is_idle (next unit inputs tick) ≡ idle_after (emitted unit inputs tick) (is_idle unit)
unit_idle (units.Lut block) inputs tick = refl
unit_idle (units.Srgate block) inputs tick = refl
unit_idle (units.Div block) inputs tick = refl
unit_idle (units.Pulse block) inputs tick = refl
unit_idle (units.Counter block) inputs tick = refl
unit_idle (units.Clock block) inputs tick = refl
unit_idle (units.Seq block) inputs tick = refl
unit_idle (units.Pcomp block) inputs tick = refl
unit_idle (units.Pcap block) inputs tick = capture_idle block.registers.mode block.settings block.registers inputs refl

mode_quiet : (mode : PcapMode) (s : PcapSettings) (r : PcapRegisters) (i : Inputs) → captures.is_idle_mode mode ≡ true →
    captures.emitted_in mode s r i ≡ emits.Nothing
mode_quiet modes.Idle s r i h = refl
mode_quiet modes.Armed s r i h = cc
mode_quiet modes.Running s r i h = cc

pub unit_quiet : (unit : AnyUnit) (inputs : Inputs) (tick : ℕ) → is_idle unit ≡ true → emitted unit inputs tick ≡ emits.Nothing
unit_quiet (units.Lut block) inputs tick h = refl
unit_quiet (units.Srgate block) inputs tick h = refl
unit_quiet (units.Div block) inputs tick h = refl
unit_quiet (units.Pulse block) inputs tick h = refl
unit_quiet (units.Counter block) inputs tick h = refl
unit_quiet (units.Clock block) inputs tick h = refl
unit_quiet (units.Seq block) inputs tick h = refl
unit_quiet (units.Pcomp block) inputs tick h = refl
unit_quiet (units.Pcap block) inputs tick h = mode_quiet block.registers.mode block.settings block.registers inputs h

module _ (bus : Bus) (tick : ℕ) (blocks : List Block) (h : map kind_of blocks ≡ machine_kinds)
    (g : map kind_of (map (block_after bus tick) blocks) ≡ machine_kinds) where
  pub ticked_idle : is_capture_idle (map (block_after bus tick) blocks)
      ≡ idle_after (handed_on emits.Nothing (map (emitted_by bus tick) blocks)) (is_capture_idle blocks)
  ticked_idle =
      let d : Block = opening_block pcap.BLOCK in
      let b : Block = get_or blocks 34 d in
      idle_there (map (block_after bus tick) blocks) (block_after bus tick d) g
      ∙ (ap (λ (c : Block). is_idle c.unit) (get_or-map (block_after bus tick) blocks 34 d (block_after bus tick d) (capture_inside blocks h))
      ∙ (unit_idle b.unit (inputs_of bus b) tick
      ∙ (ap (λ e. idle_after e (is_idle b.unit)) (sym (emitted_is bus tick blocks d h))
      ∙ ap (idle_after (handed_on emits.Nothing (map (emitted_by bus tick) blocks))) (sym (idle_there blocks d h)))))

  pub ticked_quiet : is_capture_idle blocks ≡ true → handed_on emits.Nothing (map (emitted_by bus tick) blocks) ≡ emits.Nothing
  ticked_quiet k =
      let d : Block = opening_block pcap.BLOCK in
      let b : Block = get_or blocks 34 d in
      emitted_is bus tick blocks d h ∙ unit_quiet b.unit (inputs_of bus b) tick (sym (idle_there blocks d h) ∙ k)

-- Arming and disarming.

arms_kind : (unit : AnyUnit) (room : ℕ) → place_of (armed room unit) ≡ place_of unit
arms_kind (units.Pcap block) room = refl
arms_kind _ room = refl

disarms_kind : (unit : AnyUnit) → place_of (disarmed unit) ≡ place_of unit
disarms_kind (units.Pcap block) = refl
disarms_kind _ = refl

armed_busy : (unit : AnyUnit) (room : ℕ) → place_of unit ≡ pcap.BLOCK → is_idle (armed room unit) ≡ false
armed_busy (units.Pcap block) room h = refl
armed_busy (units.Lut block) room h = cc
armed_busy (units.Srgate block) room h = cc
armed_busy (units.Div block) room h = cc
armed_busy (units.Pulse block) room h = cc
armed_busy (units.Counter block) room h = cc
armed_busy (units.Clock block) room h = cc
armed_busy (units.Seq block) room h = cc
armed_busy (units.Pcomp block) room h = cc

disarmed_idle : (unit : AnyUnit) → is_idle (disarmed unit) ≡ true
disarmed_idle (units.Pcap block) = refl
disarmed_idle (units.Lut block) = refl
disarmed_idle (units.Srgate block) = refl
disarmed_idle (units.Div block) = refl
disarmed_idle (units.Pulse block) = refl
disarmed_idle (units.Counter block) = refl
disarmed_idle (units.Clock block) = refl
disarmed_idle (units.Seq block) = refl
disarmed_idle (units.Pcomp block) = refl

-- the block of PCAP's name with its unit changed
pub set_capture : (kept : Kept) (change : AnyUnit → AnyUnit) (place : ℕ) (new d : Block) → IsWhole kept.blocks kept.settings →
    place ≡ place_in machines capture → new ≡ with_unit change (get_or kept.blocks place d) →
    kept_with_blocks kept (set kept.blocks place new) ≡ kept_with_blocks kept (with_named machines capture (with_unit change) kept.blocks)
set_capture kept change place new d w p e =
    let many : length kept.blocks ≡ length machines = are_35 kept.blocks w.kinds ∙ sym machines_are_many in
    ap (kept_with_blocks kept)
    (ap (set kept.blocks place) e
    ∙ (ap (λ n. set kept.blocks n (with_unit change (get_or kept.blocks n d))) p
    ∙ sym (named_is_set machines capture (with_unit change) kept.blocks d many)))

pub capture_stays : (blocks : List Block) (settings : List Bool) (change : AnyUnit → AnyUnit) (place : ℕ) (new d : Block) → IsWhole blocks settings →
    ((unit : AnyUnit) → place_of (change unit) ≡ place_of unit) → new ≡ with_unit change (get_or blocks place d) →
    IsWhole (set blocks place new) settings
capture_stays blocks settings change place new d w k e =
    record {
      kinds = map-set_same kind_of blocks place new d (ap kind_of e ∙ k (get_or blocks place d).unit) ∙ w.kinds;
      four = w.four;
    }

pub arming_keeps : (room : ℕ) (unit : AnyUnit) → place_of (armed room unit) ≡ place_of unit
arming_keeps room unit = arms_kind unit room

pub disarming_keeps : (unit : AnyUnit) → place_of (disarmed unit) ≡ place_of unit
disarming_keeps unit = disarms_kind unit

-- the one of PCAP's name after a change of it
changed_one : (blocks : List Block) (change : AnyUnit → AnyUnit) (d : Block) → map kind_of blocks ≡ machine_kinds →
    of_name machines capture (with_named machines capture (with_unit change) blocks) d ≡ with_unit change (get_or blocks 34 d)
changed_one blocks change d h =
    let many : length blocks ≡ length machines = are_35 blocks h ∙ sym machines_are_many in
    let all : List Block = with_named machines capture (with_unit change) blocks in
    let is : all ≡ set blocks 34 (with_unit change (get_or blocks 34 d)) =
    named_is_set machines capture (with_unit change) blocks d many
    ∙ ap (λ n. set blocks n (with_unit change (get_or blocks n d))) place_of_capture in
    ap (λ l. of_name machines capture l d) is
    ∙ (named_is_got machines capture (set blocks 34 (with_unit change (get_or blocks 34 d))) d (length-set blocks 34 (with_unit change (get_or blocks 34 d)) ∙ many)
    ∙ (ap (λ n. get_or (set blocks 34 (with_unit change (get_or blocks 34 d))) n d) place_of_capture
    ∙ get_or-set_same blocks 34 (with_unit change (get_or blocks 34 d)) d (capture_inside blocks h)))

pub armed_is_busy : (blocks : List Block) (room : ℕ) → map kind_of blocks ≡ machine_kinds → is_capture_idle (blocks_armed room blocks) ≡ false
armed_is_busy blocks room h =
    let d : Block = opening_block pcap.BLOCK in
    ap (λ (b : Block). is_idle b.unit) (changed_one blocks (armed room) d h)
    ∙ armed_busy (get_or blocks 34 d).unit room (capture_there blocks d h)

pub disarmed_is_idle : (blocks : List Block) → map kind_of blocks ≡ machine_kinds → is_capture_idle (blocks_disarmed blocks) ≡ true
disarmed_is_idle blocks h =
    let d : Block = opening_block pcap.BLOCK in
    ap (λ (b : Block). is_idle b.unit) (changed_one blocks disarmed d h)
    ∙ disarmed_idle (get_or blocks 34 d).unit

-- Settings and tables.

-- what is told of one name stays by a change, of whatever name, that keeps it
told_named : {X Y : Type 0} (P : X → Y) (names : List Name) (a b : Name) (f : X → X) (xs : List X) (d : X) → ((x : X) → P (f x) ≡ P x) →
    P (of_name names a (with_named names b f xs) d) ≡ P (of_name names a xs d)
told_named P [] a b f xs d h = refl
told_named P (m ∷ names) a b f [] d h = refl
told_named P (m ∷ names) a b f (x ∷ xs) d h = by (told_named P names a b f xs d h) (is_name a m) (is_name b m) refl
  where
    by : P (of_name names a (with_named names b f xs) d) ≡ P (of_name names a xs d) → (c e : Bool) → is_name a m ≡ c →
        P (of_name (m ∷ names) a (if e then f x ∷ xs else x ∷ with_named names b f xs) d) ≡ P (if c then x else of_name names a xs d)
    by rest true true k = ap (λ t. P (if t then f x else of_name names a xs d)) k ∙ h x
    by rest true false k = ap (λ t. P (if t then x else of_name names a (with_named names b f xs) d)) k
    by rest false true k = ap (λ t. P (if t then f x else of_name names a xs d)) k
    by rest false false k = ap (λ t. P (if t then x else of_name names a (with_named names b f xs) d)) k ∙ rest

unit_set : (unit : AnyUnit) (f x : ℕ) → is_idle (with_field unit f x) ≡ is_idle unit
unit_set (units.Lut block) f x = refl
unit_set (units.Srgate block) f x = refl
unit_set (units.Div block) f x = refl
unit_set (units.Pulse block) f x = refl
unit_set (units.Counter block) f x = refl
unit_set (units.Clock block) f x = refl
unit_set (units.Seq block) f x = refl
unit_set (units.Pcomp block) f x = refl
unit_set (units.Pcap block) f x = by (f == pcap.TRIG_EDGE) (captures.with_field block f x).settings
  where
    by : (c : Bool) (s : PcapSettings) → captures.is_idle (if c then record { settings = record { trig_edge = edge_of x }; registers = block.registers } else block) ≡ captures.is_idle block
    by true s = refl
    by false s = refl

field_set : (t : FieldType) (slot : Slot) (raw : ℕ) (block : Block) → is_idle (with_field_value t slot raw block).unit ≡ is_idle block.unit
field_set types.BitMux slot raw block = refl
field_set types.PosMux slot raw block = refl
field_set _ slot raw block = unit_set block.unit slot.field raw

value_set : (slot : Slot) (raw : ℕ) (block : Block) → is_idle (with_value slot raw block).unit ≡ is_idle block.unit
value_set slot raw block = by (slot.attr == ITSELF)
  where
    by : (b : Bool) →
        is_idle (if b then with_field_value (type_at slot) slot raw block
        else with_input (bit_place slot) (λ input. delayed input raw) block).unit ≡ is_idle block.unit
    by true = field_set (type_at slot) slot raw block
    by false = refl

pub set_idle : (slot : Slot) (raw : ℕ) (blocks : List Block) → is_capture_idle (blocks_with slot raw blocks) ≡ is_capture_idle blocks
set_idle slot raw blocks = by (slot.block == bits.BLOCK)
  where
    by : (c : Bool) →
        is_capture_idle (if c then blocks else with_named machines (block_of_slot slot) (with_value slot raw) blocks) ≡ is_capture_idle blocks
    by true = refl
    by false =
        told_named (λ (b : Block). is_idle b.unit) machines capture (block_of_slot slot) (with_value slot raw) blocks (opening_block pcap.BLOCK)
        (value_set slot raw)

unit_written : (words : List ℕ) (unit : AnyUnit) → is_idle (with_words words unit) ≡ is_idle unit
unit_written words (units.Seq block) = refl
unit_written words _ = refl

pub written_idle : (number : ℕ) (words : List ℕ) (blocks : List Block) → is_capture_idle (blocks_with_table number words blocks) ≡ is_capture_idle blocks
written_idle number words blocks =
    told_named (λ (b : Block). is_idle b.unit) machines capture (sequencer number) (block_with_words words) blocks (opening_block pcap.BLOCK)
    (λ b. unit_written words b.unit)

pub left_idle : (kept : Kept) (number : ℕ) (left : Result (List ℕ) Refusal) → is_capture_idle (table_left kept number left).blocks ≡ is_capture_idle kept.blocks
left_idle kept number (Ok words) = written_idle number words kept.blocks
left_idle kept number (Err refusal) = refl

-- As the box opens.

pub opening_idle : is_capture_idle opening.blocks ≡ true
unfolding machines machine_kinds opening_block catalogue
opening_idle = refl
