-- Small boxes at work, for laws that compute.
use Rattle.std.specs.Prelude.{ℕ, ℤ, Bool, List, [], ◌∷◌}
use Rattle.pb_names.specs.declared.TheConstants.{ITSELF}
use Rattle.pb_names.specs.declared.bits.TheConstants as bits
use Rattle.pb_names.specs.declared.bit_mux.TheConstants as bit_mux
use Rattle.pb_names.specs.declared.lut.TheConstants as lut
use Rattle.pb_names.specs.declared.counter.TheConstants as counter
use Rattle.pb_fields.specs.declared.Slot.{Slot}
use Rattle.pb_buses.specs.Buses.{bit, position, with_bit}
use Rattle.pb_model.specs.Kept.{Kept, opening, with_buses, kept_after}
use Rattle.pb_model.specs.Settings.{with_setting}

-- the box at the next tick, where TTLIN1 has this level now
abbrev pub stepped : Bool → Kept → Kept
stepped level kept = kept_after (with_buses kept (with_bit kept.buses 0 level kept.tick))

-- the box after a tick for each of these levels of TTLIN1, the first at the box's own tick
abbrev pub driven : Kept → List Bool → Kept
driven kept [] = kept
driven kept (level ∷ levels) = driven (stepped level kept) levels

abbrev pub slot_of : ℕ → ℕ → ℕ → Slot
slot_of kind field attr = record { block = kind; instance = 1; field = field; attr = attr }

-- LUT1 puts out its input A, which is TTLIN1 with a delay of one tick
abbrev pub delayed_lut : Kept
delayed_lut =
    with_setting
    (with_setting
    (with_setting opening (slot_of lut.BLOCK lut.INPA ITSELF) 0)
    (slot_of lut.BLOCK lut.INPA bit_mux.DELAY) 1)
    (slot_of lut.BLOCK lut.FUNC ITSELF) 0xFFFF0000

-- COUNTER1 counts the pulses of TTLIN1 from 1 on by twos, between 0 and 2
abbrev pub short_counter : Kept
short_counter =
    with_setting
    (with_setting
    (with_setting
    (with_setting opening (slot_of counter.BLOCK counter.TRIG ITSELF) 0)
    (slot_of counter.BLOCK counter.START ITSELF) 1)
    (slot_of counter.BLOCK counter.STEP ITSELF) 2)
    (slot_of counter.BLOCK counter.MAX ITSELF) 2

-- BITS with A at 1
abbrev pub set_bits : Kept
set_bits = with_setting opening (slot_of bits.BLOCK bits.A ITSELF) 1

-- what stands at a bit entry, and at a position entry
abbrev pub bit_of : ℕ → Kept → Bool
bit_of entry kept = bit kept.buses.bus entry

abbrev pub position_of : ℕ → Kept → ℤ
position_of entry kept = position kept.buses.bus entry
