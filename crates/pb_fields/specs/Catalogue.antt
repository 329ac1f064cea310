-- The catalogue: which blocks there are, how many of each, and the fields of each in their order.
use Rattle.std.specs.Prelude.{ℕ, List, [], ◌∷◌, codes}
use Rattle.pb_fields.specs.declared.types.FieldType.{FieldType}
use Rattle.pb_fields.specs.declared.types.FieldType.TheVariants as types
use Rattle.pb_fields.specs.Types.{word_max, ticks_max}
use Rattle.pb_names.specs.declared.label_lists.TheConstants as label_lists
use Rattle.pb_names.specs.declared.bit_bus.TheConstants as bit_bus
use Rattle.pb_names.specs.declared.position_bus.TheConstants as position_bus

-- a field with its name, its type and the raw value that it has at first
pub record FieldRow : Type 0 where
  pub name : List ℕ
  pub holds : FieldType
  pub default : ℕ

-- a block with its name without a number, its count and its fields
pub record BlockRow : Type 0 where
  pub name : List ℕ
  pub count : ℕ
  pub fields : List FieldRow

abbrev pub field : List ℕ → FieldType → ℕ → FieldRow
field text t raw = record { name = text; holds = t; default = raw }

abbrev pub block : List ℕ → ℕ → List FieldRow → BlockRow
block text n rows = record { name = text; count = n; fields = rows }

abbrev pub ttlin : BlockRow
ttlin = block (codes "TTLIN") 6 (
    field (codes "VAL") types.BitOut 0
    ∷ [])

abbrev pub inenc : BlockRow
inenc = block (codes "INENC") 4 (
    field (codes "VAL") types.PosOut 0
    ∷ [])

abbrev pub bits : BlockRow
bits = block (codes "BITS") 1 (
    field (codes "A") types.ParamBit 0
    ∷ field (codes "B") types.ParamBit 0
    ∷ field (codes "C") types.ParamBit 0
    ∷ field (codes "D") types.ParamBit 0
    ∷ field (codes "OUTA") types.BitOut 0
    ∷ field (codes "OUTB") types.BitOut 0
    ∷ field (codes "OUTC") types.BitOut 0
    ∷ field (codes "OUTD") types.BitOut 0
    ∷ [])

abbrev pub lut : BlockRow
lut = block (codes "LUT") 8 (
    field (codes "INPA") types.BitMux bit_bus.ZERO
    ∷ field (codes "INPB") types.BitMux bit_bus.ZERO
    ∷ field (codes "INPC") types.BitMux bit_bus.ZERO
    ∷ field (codes "INPD") types.BitMux bit_bus.ZERO
    ∷ field (codes "INPE") types.BitMux bit_bus.ZERO
    ∷ field (codes "FUNC") types.ParamLut 0
    ∷ field (codes "OUT") types.BitOut 0
    ∷ [])

abbrev pub srgate : BlockRow
srgate = block (codes "SRGATE") 4 (
    field (codes "ENABLE") types.BitMux bit_bus.ONE
    ∷ field (codes "SET") types.BitMux bit_bus.ZERO
    ∷ field (codes "RST") types.BitMux bit_bus.ZERO
    ∷ field (codes "WHEN_DISABLED") (types.ParamEnum label_lists.WHEN_DISABLED) 0
    ∷ field (codes "SET_EDGE") (types.ParamEnum label_lists.EDGE) 0
    ∷ field (codes "RST_EDGE") (types.ParamEnum label_lists.EDGE) 0
    ∷ field (codes "FORCE_SET") types.WriteAction 0
    ∷ field (codes "FORCE_RST") types.WriteAction 0
    ∷ field (codes "OUT") types.BitOut 0
    ∷ [])

abbrev pub div : BlockRow
div = block (codes "DIV") 4 (
    field (codes "ENABLE") types.BitMux bit_bus.ONE
    ∷ field (codes "INP") types.BitMux bit_bus.ZERO
    ∷ field (codes "DIVISOR") (types.ParamUint word_max) 0
    ∷ field (codes "FIRST_PULSE") (types.ParamEnum label_lists.FIRST_PULSE) 0
    ∷ field (codes "COUNT") types.ReadUint 0
    ∷ field (codes "OUTD") types.BitOut 0
    ∷ field (codes "OUTN") types.BitOut 0
    ∷ [])

abbrev pub pulse : BlockRow
pulse = block (codes "PULSE") 4 (
    field (codes "ENABLE") types.BitMux bit_bus.ONE
    ∷ field (codes "TRIG") types.BitMux bit_bus.ZERO
    ∷ field (codes "DELAY") (types.Time ticks_max) 0
    ∷ field (codes "WIDTH") (types.Time ticks_max) 0
    ∷ field (codes "PULSES") (types.ParamUint 65535) 0
    ∷ field (codes "STEP") (types.Time ticks_max) 0
    ∷ field (codes "TRIG_EDGE") (types.ParamEnum label_lists.EDGE) 0
    ∷ field (codes "QUEUED") types.ReadUint 0
    ∷ field (codes "DROPPED") types.ReadUint 0
    ∷ field (codes "OUT") types.BitOut 0
    ∷ [])

abbrev pub counter : BlockRow
counter = block (codes "COUNTER") 8 (
    field (codes "ENABLE") types.BitMux bit_bus.ONE
    ∷ field (codes "TRIG") types.BitMux bit_bus.ZERO
    ∷ field (codes "DIR") types.BitMux bit_bus.ZERO
    ∷ field (codes "START") types.ParamInt 0
    ∷ field (codes "STEP") (types.ParamUint word_max) 1
    ∷ field (codes "MIN") types.ParamInt 0
    ∷ field (codes "MAX") types.ParamInt 0
    ∷ field (codes "CARRY") types.BitOut 0
    ∷ field (codes "OUT") types.PosOut 0
    ∷ [])

abbrev pub clock : BlockRow
clock = block (codes "CLOCK") 2 (
    field (codes "ENABLE") types.BitMux bit_bus.ZERO
    ∷ field (codes "PERIOD") (types.Time ticks_max) 0
    ∷ field (codes "WIDTH") (types.Time ticks_max) 0
    ∷ field (codes "OUT") types.BitOut 0
    ∷ [])

abbrev pub seq : BlockRow
seq = block (codes "SEQ") 2 (
    field (codes "ENABLE") types.BitMux bit_bus.ZERO
    ∷ field (codes "BITA") types.BitMux bit_bus.ZERO
    ∷ field (codes "BITB") types.BitMux bit_bus.ZERO
    ∷ field (codes "BITC") types.BitMux bit_bus.ZERO
    ∷ field (codes "POSA") types.PosMux position_bus.ZERO
    ∷ field (codes "POSB") types.PosMux position_bus.ZERO
    ∷ field (codes "POSC") types.PosMux position_bus.ZERO
    ∷ field (codes "PRESCALE") (types.Time word_max) 0
    ∷ field (codes "REPEATS") (types.ParamUint word_max) 1
    ∷ field (codes "TABLE") types.Table 0
    ∷ field (codes "STATE") (types.ReadEnum label_lists.SEQ_STATE) 0
    ∷ field (codes "TABLE_LINE") types.ReadUint 0
    ∷ field (codes "LINE_REPEAT") types.ReadUint 0
    ∷ field (codes "TABLE_REPEAT") types.ReadUint 0
    ∷ field (codes "OUTA") types.BitOut 0
    ∷ field (codes "OUTB") types.BitOut 0
    ∷ field (codes "OUTC") types.BitOut 0
    ∷ field (codes "OUTD") types.BitOut 0
    ∷ field (codes "OUTE") types.BitOut 0
    ∷ field (codes "OUTF") types.BitOut 0
    ∷ field (codes "ACTIVE") types.BitOut 0
    ∷ [])

abbrev pub pcomp : BlockRow
pcomp = block (codes "PCOMP") 2 (
    field (codes "ENABLE") types.BitMux bit_bus.ZERO
    ∷ field (codes "INP") types.PosMux position_bus.ZERO
    ∷ field (codes "PRE_START") (types.ParamUint word_max) 0
    ∷ field (codes "START") types.ParamInt 0
    ∷ field (codes "STEP") (types.ParamUint word_max) 0
    ∷ field (codes "WIDTH") (types.ParamUint word_max) 0
    ∷ field (codes "PULSES") (types.ParamUint word_max) 0
    ∷ field (codes "RELATIVE") (types.ParamEnum label_lists.RELATIVE) 0
    ∷ field (codes "DIR") (types.ParamEnum label_lists.DIRECTION) 0
    ∷ field (codes "STATE") (types.ReadEnum label_lists.PCOMP_STATE) 0
    ∷ field (codes "PRODUCED") types.ReadUint 0
    ∷ field (codes "OUT") types.BitOut 0
    ∷ field (codes "ACTIVE") types.BitOut 0
    ∷ [])

abbrev pub pcap : BlockRow
pcap = block (codes "PCAP") 1 (
    field (codes "ENABLE") types.BitMux bit_bus.ZERO
    ∷ field (codes "GATE") types.BitMux bit_bus.ONE
    ∷ field (codes "TRIG") types.BitMux bit_bus.ZERO
    ∷ field (codes "TRIG_EDGE") (types.ParamEnum label_lists.EDGE) 0
    ∷ field (codes "TS_START") types.ExtOut 0
    ∷ field (codes "TS_END") types.ExtOut 0
    ∷ field (codes "TS_TRIG") types.ExtOut 0
    ∷ field (codes "GATE_DURATION") types.ExtOut 0
    ∷ field (codes "BITS0") types.BitWord 0
    ∷ field (codes "BITS1") types.BitWord 0
    ∷ field (codes "BITS2") types.BitWord 0
    ∷ field (codes "BITS3") types.BitWord 0
    ∷ field (codes "ACTIVE") types.BitOut 0
    ∷ [])

-- the blocks in their order
unfoldable pub catalogue : List BlockRow
catalogue =
    ttlin ∷ inenc ∷ bits ∷ lut ∷ srgate ∷ div ∷ pulse ∷ counter ∷ clock ∷ seq ∷ pcomp ∷ pcap ∷ []
