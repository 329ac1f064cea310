-- PCOMP: pulses at positions. An output rises and falls as the position of an encoder goes by.
use Rattle.std.specs.Prelude.{ℕ, ◌+◌, ◌*◌, ◌≡◌, ◌<◌, ◌^◌, ◌⊎◌, ⊤, ℤ, pos, ◌+ℤ◌, ◌-ℤ◌, neg_ℤ, int_lt, int_le, unsigned_abs, FitsSigned, ◌==◌, nat_lt, nat_le, Bool, true, false, slice_index_or, if◌then◌else◌}
use Rattle.std.specs.Int.{w32, w64, cast_signed}
use Rattle.pb_names.specs.declared.pcomp.TheConstants as names
use Rattle.pb_names.specs.declared.pcomp_state.TheConstants as state_labels
use Rattle.pb_names.specs.declared.relative.TheConstants as relative_labels
use Rattle.pb_names.specs.declared.direction.TheConstants as direction_labels
use Rattle.pb_buses.specs.declared.Inputs.{Inputs}
use Rattle.pb_buses.specs.declared.Outputs.{Outputs}
use Rattle.pb_buses.specs.declared.Emit.TheVariants as emits
use Rattle.pb_buses.specs.Edges.{rises}
use Rattle.pb_buses.specs.Rules.{Rules}
use Rattle.pb_pcomp.specs.declared.settings.PcompSettings.{PcompSettings}
use Rattle.pb_pcomp.specs.declared.settings.Direction.{Direction}
use Rattle.pb_pcomp.specs.declared.settings.Direction.TheVariants as directions
use Rattle.pb_pcomp.specs.declared.settings.Reference.{Reference}
use Rattle.pb_pcomp.specs.declared.settings.Reference.TheVariants as references
use Rattle.pb_pcomp.specs.declared.registers.PcompRegisters.{PcompRegisters}
use Rattle.pb_pcomp.specs.declared.registers.PcompState.{PcompState}
use Rattle.pb_pcomp.specs.declared.registers.PcompState.TheVariants as states
use Rattle.pb_pcomp.specs.declared.registers.Sign.{Sign}
use Rattle.pb_pcomp.specs.declared.registers.Sign.TheVariants as signs

-- a PCOMP: what commands set, and what ticks change
pub record Compare : Type 0 where
  pub settings : PcompSettings
  pub registers : PcompRegisters

-- the inputs
abbrev pub enable : Inputs → Bool
enable inputs = slice_index_or inputs.bits 0 false

abbrev pub inp : Inputs → ℤ
inp inputs = slice_index_or inputs.positions 0 (pos 0)

-- Positions as the block counts them.

-- a number counted in this direction
abbrev pub along : Sign → ℤ → ℤ
along signs.Positive number = number
along signs.Negative number = neg_ℤ number

-- where counting begins: at START, or so far from the origin in this direction
abbrev pub base_of : Reference → ℤ → Sign → ℤ → ℤ
base_of references.Absolute start sign origin = start
base_of references.Relative start sign origin = origin +ℤ along sign start

-- how far the position is from the base, counted in the direction
abbrev pub progress : PcompRegisters → Inputs → ℤ
progress registers inputs = along registers.sign (inp inputs -ℤ registers.base)

-- where the pulse that is next rises, and where it falls
abbrev pub rising_at : PcompSettings → PcompRegisters → ℕ
rising_at settings registers = registers.produced * settings.step

abbrev pub falling_at : PcompSettings → PcompRegisters → ℕ
falling_at settings registers = rising_at settings registers + settings.width

-- after how many pulses it is done: 0 is as many as can be counted
abbrev pub last_pulse : PcompSettings → ℕ
last_pulse settings = if settings.pulses == 0 then 0xffff_ffff else settings.pulses

-- What a tick does, by the state:

-- the direction is known: the base is taken, and this is the state
abbrev pub headed : PcompSettings → PcompRegisters → Sign → PcompState → PcompRegisters
headed settings registers sign state =
    record registers {
      state = state;
      sign = sign;
      base = base_of settings.relative settings.start sign registers.origin;
    }

-- the state in which a run with a known direction begins
abbrev pub first_state : PcompSettings → PcompState
first_state settings = if settings.pre_start == 0 then states.WaitRising else states.WaitPreStart

-- a run begins at this position
abbrev pub begun : PcompRegisters → ℤ → PcompRegisters
begun registers position = record registers { origin = position; produced = 0; active = true }

-- a run begins in this direction
abbrev pub started : Direction → PcompSettings → PcompRegisters → PcompRegisters
started directions.Positive settings registers = headed settings registers signs.Positive (first_state settings)
started directions.Negative settings registers = headed settings registers signs.Negative (first_state settings)
started directions.Either settings registers = record registers { state = states.WaitDir }

-- the direction in which the position is away from the origin
abbrev pub sign_of : ℤ → Sign
sign_of distance = if int_lt distance (pos 0) then signs.Negative else signs.Positive

-- the pulse falls and is counted; after the last the run is over
abbrev pub fallen : PcompSettings → PcompRegisters → PcompRegisters
fallen settings registers =
    if nat_le (last_pulse settings) (registers.produced + 1)
    then record registers {
      state = states.WaitEnable;
      out = false;
      active = false;
      produced = registers.produced + 1;
    }
    else record registers { state = states.WaitRising; out = false; produced = registers.produced + 1 }

-- enabled, in this state
abbrev pub compared : PcompState → PcompSettings → PcompRegisters → Inputs → PcompRegisters
compared states.WaitEnable settings registers inputs =
    if rises registers.enable_before (enable inputs)
    then started settings.direction settings (begun registers (inp inputs)) else registers
compared states.WaitDir settings registers inputs =
    let distance = inp inputs -ℤ registers.origin in
    if nat_lt settings.pre_start (unsigned_abs distance)
    then headed settings registers (sign_of distance) states.WaitRising else registers
compared states.WaitPreStart settings registers inputs =
    if int_le (progress registers inputs) (neg_ℤ (pos settings.pre_start))
    then record registers { state = states.WaitRising } else registers
compared states.WaitRising settings registers inputs =
    if int_le (pos (rising_at settings registers)) (progress registers inputs)
    then record registers { state = states.WaitFalling; out = true } else registers
compared states.WaitFalling settings registers inputs =
    if int_le (pos (falling_at settings registers)) (progress registers inputs)
    then fallen settings registers else registers

-- not enabled
abbrev pub disabled : PcompRegisters → PcompRegisters
disabled registers = record registers { state = states.WaitEnable; out = false; active = false }

-- the registers one tick later, but for the kept input
abbrev pub compared_after : PcompSettings → PcompRegisters → Inputs → PcompRegisters
compared_after settings registers inputs =
    if enable inputs then compared registers.state settings registers inputs else disabled registers

-- the registers one tick later: ENABLE is kept whatever happens
abbrev pub registers_after : Compare → Inputs → PcompRegisters
registers_after compare inputs =
    record (compared_after compare.settings compare.registers inputs) { enable_before = enable inputs }

-- one tick
abbrev pub next : Compare → Inputs → ℕ → Compare
next compare inputs tick = record { settings = compare.settings; registers = registers_after compare inputs }

-- A PCOMP emits nothing and has no running counts: it is calm where all its registers stay as they are.
abbrev pub rules : Rules Compare
rules =
    record { next = next; emitted = λ compare inputs tick. emits.Nothing; uncounted = λ inputs compare. compare }

-- a PCOMP as the box opens
abbrev pub opening : Compare
opening =
    record {
      settings =
          record {
            pre_start = 0;
            start = pos 0;
            step = 0;
            width = 0;
            pulses = 0;
            relative = references.Absolute;
            direction = directions.Positive;
          };
      registers =
          record {
            state = states.WaitEnable;
            out = false;
            active = false;
            produced = 0;
            origin = pos 0;
            base = pos 0;
            sign = signs.Positive;
            enable_before = false;
          };
    }

-- what it shows: OUT, ACTIVE
abbrev pub shown : Compare → Outputs
shown compare =
    record {
      bits = (if compare.registers.out then 1 else 0) + 2 * (if compare.registers.active then 1 else 0);
      position = pos 0;
    }

-- Settings and reading.

-- the numbers take 32 bits, START a signed number of 32 bits, extended to 64, and RELATIVE and DIR the
-- number of a label
abbrev pub IsSettable : Compare → ℕ → ℕ → Type 0
IsSettable compare field raw =
    (((field ≡ names.PRE_START) ⊎ (field ≡ names.STEP) ⊎ (field ≡ names.WIDTH) ⊎ (field ≡ names.PULSES))
    × (raw < 2 ^ 32))
    ⊎ ((field ≡ names.START) × (raw < 2 ^ 64) × FitsSigned w32 (cast_signed w64 raw))
    ⊎ ((field ≡ names.RELATIVE) × (raw < 2))
    ⊎ ((field ≡ names.DIR) × (raw < 3))

-- the labels of RELATIVE and DIR with this number
abbrev pub reference_of : ℕ → Reference
reference_of raw = if raw == relative_labels.RELATIVE then references.Relative else references.Absolute

abbrev pub direction_of : ℕ → Direction
direction_of raw =
    if raw == direction_labels.NEGATIVE then directions.Negative
    else (if raw == direction_labels.EITHER then directions.Either else directions.Positive)

-- the settings with this raw value in a field
abbrev pub with_setting : PcompSettings → ℕ → ℕ → PcompSettings
with_setting settings field raw =
    if field == names.PRE_START then record settings { pre_start = raw }
    else (if field == names.START then record settings { start = cast_signed w64 raw }
    else (if field == names.STEP then record settings { step = raw }
    else (if field == names.WIDTH then record settings { width = raw }
    else (if field == names.PULSES then record settings { pulses = raw }
    else (if field == names.RELATIVE then record settings { relative = reference_of raw }
    else (if field == names.DIR then record settings { direction = direction_of raw } else settings))))))

-- the PCOMP with this raw value in a field
abbrev pub with_field : Compare → ℕ → ℕ → Compare
with_field compare field raw =
    record { settings = with_setting compare.settings field raw; registers = compare.registers }

-- STATE and PRODUCED are read
abbrev pub IsRead : ℕ → Type 0
IsRead field = (field ≡ names.STATE) ⊎ (field ≡ names.PRODUCED)

-- the number of a state's label
abbrev pub state_label : PcompState → ℕ
state_label states.WaitEnable = state_labels.WAIT_ENABLE
state_label states.WaitDir = state_labels.WAIT_DIR
state_label states.WaitPreStart = state_labels.WAIT_PRE_START
state_label states.WaitRising = state_labels.WAIT_RISING
state_label states.WaitFalling = state_labels.WAIT_FALLING

-- the value of a read field
abbrev pub value_read : Compare → ℕ → ℕ
value_read compare field =
    if field == names.STATE then state_label compare.registers.state else compare.registers.produced

-- a run that goes on can count one more pulse
abbrev pub CanCount : PcompState → ℕ → Type 0
CanCount states.WaitEnable produced = ⊤
CanCount _ produced = produced < 0xffff_ffff
