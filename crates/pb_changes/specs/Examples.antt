-- A few pasts, for worked examples.
use Rattle.std.specs.Prelude.{ℕ, false, true, List, [], ◌∷◌, ◌++◌, replicate, slice_set, codes, None, if◌then◌else◌}
use Rattle.pb_names.specs.declared.TheConstants.{ITSELF}
use Rattle.pb_names.specs.declared.lut.TheConstants as lut
use Rattle.pb_fields.specs.declared.Slot.{Slot}
use Rattle.pb_fields.specs.Order.{slot_at}
use Rattle.pb_buses.specs.declared.Bus.{Bus}
use Rattle.pb_buses.specs.Buses.{opening_bus}
use Rattle.pb_fields.specs.Assigned.{is_same}
use Rattle.pb_changes.specs.Past.{Past}
use Rattle.pb_changes.specs.Report.{Reported, opening, after_reset}

-- FUNC of a LUT
abbrev pub function_of : ℕ → Slot
function_of instance = slot_at lut.BLOCK instance lut.FUNC ITSELF

-- a bus on which one bit is 1
abbrev pub with_high : Bus → ℕ → Bus
with_high bus entry = record { bits = slice_set bus.bits entry true; positions = bus.positions }

-- what is shown of the slots at last
abbrev pub shown_then : Slot → List ℕ
shown_then slot =
    if is_same slot (function_of 1) then codes "A&B"
    else (if is_same slot (function_of 2) then codes "B" else codes "0")

-- tick 0, before any command
abbrev pub at_first : Past
at_first = record { assigned = []; states = opening_bus ∷ [] }

-- a session that was reset then, so that nothing up to then is reported
abbrev pub at_reset : Reported
at_reset = after_reset opening at_first shown_then None false

-- Tick 10: FUNC of LUT1, of LUT2 and of LUT1 again were assigned, and TTLIN2, which is entry 1, was 1 at tick
-- 6 alone.
abbrev pub at_end : Past
at_end =
    record {
      assigned = function_of 1 ∷ function_of 2 ∷ function_of 1 ∷ [];
      states = replicate 4 opening_bus ++ with_high opening_bus 1 ∷ replicate 6 opening_bus;
    }

-- tick 1: LUT1.OUT, which is entry 6, and BITS.OUTA, which is entry 59, have changed
abbrev pub after_change : Past
after_change =
    record { assigned = []; states = with_high (with_high opening_bus 6) 59 ∷ opening_bus ∷ [] }
