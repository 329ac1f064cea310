-- What leaves the outputs of a block as they are: settings, tables, arming, and calm steps.
use Rattle.std.proofs.Common.{◌≡◌, ℕ, zero, suc, ◌+◌, ◌==◌, Bool, true, false, ℤ, pos, List, [], ◌∷◌, take, Some, refl, sym, ap, ◌∙◌, if◌then◌else◌}
use Rattle.pb_names.specs.declared.TheConstants.{ITSELF}
use Rattle.pb_names.specs.declared.lut.TheConstants as lut
use Rattle.pb_names.specs.declared.srgate.TheConstants as srgate
use Rattle.pb_names.specs.declared.pcap.TheConstants as pcap
use Rattle.pb_fields.specs.declared.Slot.{Slot}
use Rattle.pb_fields.specs.declared.FieldType.{FieldType}
use Rattle.pb_fields.specs.declared.FieldType.TheVariants as types
use Rattle.pb_fields.specs.Slots.{type_at}
use Rattle.pb_buses.specs.declared.Inputs.{Inputs}
use Rattle.pb_buses.specs.declared.Outputs.{Outputs}
use Rattle.pb_buses.specs.Rules.{after, AreCalm}
use Rattle.pb_buses.specs.Delay.{delayed, digits}
use Rattle.pb_buses.specs.Edges.{edge_of}
use Rattle.pb_buses.proofs.CoastLemmas.{shows_the_same}
use Rattle.pb_logic.specs.Bits.{one_bit}
use Rattle.pb_logic.specs.Lut as luts
use Rattle.pb_logic.specs.declared.SrgateRegisters.{SrgateRegisters}
use Rattle.pb_logic.specs.declared.Force.TheVariants as forces
use Rattle.pb_pcap.specs.Pcap as captures
use Rattle.pb_model.specs.declared.units.Unit.{Unit as AnyUnit}
use Rattle.pb_model.specs.declared.units.Unit.TheVariants as units
use Rattle.pb_model.specs.declared.blocks.Block.{Block}
use Rattle.pb_model.specs.Units.{place_of, next, rules, shown, with_field, with_words, armed, disarmed, bit_outputs, position_outputs, counts_unseen}
use Rattle.pb_model.specs.Tick.{kind_of, bits_of, positions_of}
use Rattle.pb_model.specs.Arming.{with_unit}
use Rattle.pb_model.specs.Settings.{bit_place, with_input, with_field_value, with_value}
use Rattle.pb_model.specs.Tables.{block_with_words}
use Rattle.pb_model.proofs.TickLemmas.{unit_stays}

-- The block shows the same as another.
pub record ShowsAs (new old : Block) : Type 0 where
  pub kind : kind_of new ≡ kind_of old
  pub bits : bits_of new ≡ bits_of old
  pub positions : positions_of new ≡ positions_of old

pub shows_as : (new old : Block) → kind_of new ≡ kind_of old → shown new.unit ≡ shown old.unit → ShowsAs new old
shows_as new old kind same =
    record {
      kind = kind;
      bits =
          ap (λ k. digits (bit_outputs k) (shown new.unit).bits) kind
          ∙ ap (λ (o : Outputs). digits (bit_outputs (kind_of old)) o.bits) same;
      positions =
          ap (λ k. take (position_outputs k) ((shown new.unit).position ∷ [])) kind
          ∙ ap (λ (o : Outputs). take (position_outputs (kind_of old)) (o.position ∷ [])) same;
    }

-- Settings.

either : {A C : Type 0} (f : A → C) (b : Bool) (x y : A) → f x ≡ f y → f (if b then x else y) ≡ f y
either f true x y h = h
either f false x y h = refl

one_of : {A C : Type 0} (f : A → C) (b c : Bool) (x y z : A) → f x ≡ f z → f y ≡ f z → f (if b then x else (if c then y else z)) ≡ f z
one_of f true c x y z h g = h
one_of f false true x y z h g = g
one_of f false false x y z h g = refl

set_unit : (unit : AnyUnit) (field raw : ℕ) → (place_of (with_field unit field raw) ≡ place_of unit) × (shown (with_field unit field raw) ≡ shown unit)
set_unit (units.Lut block) field raw = (
  refl,
  either luts.shown (field == lut.FUNC) (record { settings = record { function = raw }; registers = block.registers }) block refl,
)
set_unit (units.Srgate block) field raw = (
  refl,
  one_of (λ (r : SrgateRegisters). one_bit r.out) (field == srgate.FORCE_SET) (field == srgate.FORCE_RST)
      (record block.registers { pending = Some forces.Set }) (record block.registers { pending = Some forces.Reset })
      block.registers refl refl,
)
set_unit (units.Div block) field raw = (refl, refl)
set_unit (units.Pulse block) field raw = (refl, refl)
set_unit (units.Counter block) field raw = (refl, refl)
set_unit (units.Clock block) field raw = (refl, refl)
set_unit (units.Seq block) field raw = (refl, refl)
set_unit (units.Pcomp block) field raw = (refl, refl)
set_unit (units.Pcap block) field raw = (
  refl,
  either captures.shown (field == pcap.TRIG_EDGE)
      (record { settings = record { trig_edge = edge_of raw }; registers = block.registers }) block refl,
)

abbrev with_setting_of : Slot → ℕ → Block → Block
with_setting_of slot raw block =
    record { unit = with_field block.unit slot.field raw; bits = block.bits; positions = block.positions }

own_shows : (slot : Slot) (raw : ℕ) (block : Block) → ShowsAs (with_setting_of slot raw block) block
own_shows slot raw block =
    shows_as (with_setting_of slot raw block) block (set_unit block.unit slot.field raw).0 (set_unit block.unit slot.field raw).1

field_shows : (t : FieldType) (slot : Slot) (raw : ℕ) (block : Block) → ShowsAs (with_field_value t slot raw block) block
field_shows types.BitMux slot raw block = record { kind = refl; bits = refl; positions = refl }
field_shows types.PosMux slot raw block = record { kind = refl; bits = refl; positions = refl }
field_shows (types.ParamUint limit) slot raw block = own_shows slot raw block
field_shows types.ParamInt slot raw block = own_shows slot raw block
field_shows types.ParamBit slot raw block = own_shows slot raw block
field_shows (types.ParamEnum labels) slot raw block = own_shows slot raw block
field_shows types.ParamLut slot raw block = own_shows slot raw block
field_shows types.ReadUint slot raw block = own_shows slot raw block
field_shows (types.ReadEnum labels) slot raw block = own_shows slot raw block
field_shows types.WriteAction slot raw block = own_shows slot raw block
field_shows (types.Time limit) slot raw block = own_shows slot raw block
field_shows types.BitOut slot raw block = own_shows slot raw block
field_shows types.PosOut slot raw block = own_shows slot raw block
field_shows types.ExtOut slot raw block = own_shows slot raw block
field_shows types.BitWord slot raw block = own_shows slot raw block
field_shows types.Table slot raw block = own_shows slot raw block

pub set_shows : (slot : Slot) (raw : ℕ) (block : Block) → ShowsAs (with_value slot raw block) block
set_shows slot raw block = by (slot.attr == ITSELF)
  where
    by : (b : Bool) →
        ShowsAs
        (if b then with_field_value (type_at slot) slot raw block
        else with_input (bit_place slot) (λ input. delayed input raw) block)
        block
    by true = field_shows (type_at slot) slot raw block
    by false = record { kind = refl; bits = refl; positions = refl }

-- Tables and arming.

written_unit : (unit : AnyUnit) (words : List ℕ) → (place_of (with_words words unit) ≡ place_of unit) × (shown (with_words words unit) ≡ shown unit)
written_unit (units.Lut block) words = (refl, refl)
written_unit (units.Srgate block) words = (refl, refl)
written_unit (units.Div block) words = (refl, refl)
written_unit (units.Pulse block) words = (refl, refl)
written_unit (units.Counter block) words = (refl, refl)
written_unit (units.Clock block) words = (refl, refl)
written_unit (units.Seq block) words = (refl, refl)
written_unit (units.Pcomp block) words = (refl, refl)
written_unit (units.Pcap block) words = (refl, refl)

pub written_shows : (words : List ℕ) (block : Block) → ShowsAs (block_with_words words block) block
written_shows words block =
    shows_as (block_with_words words block) block (written_unit block.unit words).0 (written_unit block.unit words).1

armed_unit : (unit : AnyUnit) (room : ℕ) → (place_of (armed room unit) ≡ place_of unit) × (shown (armed room unit) ≡ shown unit)
armed_unit (units.Lut block) room = (refl, refl)
armed_unit (units.Srgate block) room = (refl, refl)
armed_unit (units.Div block) room = (refl, refl)
armed_unit (units.Pulse block) room = (refl, refl)
armed_unit (units.Counter block) room = (refl, refl)
armed_unit (units.Clock block) room = (refl, refl)
armed_unit (units.Seq block) room = (refl, refl)
armed_unit (units.Pcomp block) room = (refl, refl)
armed_unit (units.Pcap block) room = (refl, refl)

pub armed_shows : (room : ℕ) (block : Block) → ShowsAs (with_unit (armed room) block) block
armed_shows room block =
    shows_as (with_unit (armed room) block) block (armed_unit block.unit room).0 (armed_unit block.unit room).1

disarmed_unit : (unit : AnyUnit) → (place_of (disarmed unit) ≡ place_of unit) × (shown (disarmed unit) ≡ shown unit)
disarmed_unit (units.Lut block) = (refl, refl)
disarmed_unit (units.Srgate block) = (refl, refl)
disarmed_unit (units.Div block) = (refl, refl)
disarmed_unit (units.Pulse block) = (refl, refl)
disarmed_unit (units.Counter block) = (refl, refl)
disarmed_unit (units.Clock block) = (refl, refl)
disarmed_unit (units.Seq block) = (refl, refl)
disarmed_unit (units.Pcomp block) = (refl, refl)
disarmed_unit (units.Pcap block) = (refl, refl)

pub disarmed_shows : (block : Block) → ShowsAs (with_unit disarmed block) block
disarmed_shows block =
    shows_as (with_unit disarmed block) block (disarmed_unit block.unit).0 (disarmed_unit block.unit).1

-- Steps.

pub kind_after : (inputs : Inputs) (tick n : ℕ) (unit : AnyUnit) → place_of (after rules inputs tick n unit) ≡ place_of unit
kind_after inputs tick zero unit = refl
kind_after inputs tick (suc n) unit = kind_after inputs (tick + 1) n (next unit inputs tick) ∙ unit_stays unit inputs tick

pub coasted_shows : (inputs : Inputs) (tick n : ℕ) (new old : Block) → new.unit ≡ after rules inputs tick n old.unit →
    AreCalm rules inputs tick n old.unit → ShowsAs new old
coasted_shows inputs tick n new old is calm =
    shows_as new old (ap place_of is ∙ kind_after inputs tick n old.unit)
    (ap shown is ∙ shows_the_same rules inputs shown counts_unseen tick n old.unit calm)
