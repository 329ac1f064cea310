-- The blocks and inputs of the worked examples.
use Rattle.std.specs.Prelude.{ℤ, pos, negsuc, Bool, true, false, List, [], ◌∷◌, replicate}
use Rattle.pb_buses.specs.declared.Inputs.{Inputs}
use Rattle.pb_pcomp.specs.Pcomp.{Compare, opening, rules}
use Rattle.pb_pcomp.specs.declared.settings.Direction.TheVariants as directions
use Rattle.pb_pcomp.specs.declared.settings.Reference.TheVariants as references

-- ENABLE and the position that a compare sees
abbrev pub seen : Bool → ℤ → Inputs
seen enable position =
    record {
      bits = enable ∷ replicate 4 false;
      positions = position ∷ replicate 2 (pos 0);
      words = replicate 4 0;
      bus = replicate 32 (pos 0);
    }

-- enabled, at these positions one after the other
abbrev pub at_positions : List ℤ → Compare → Compare
at_positions [] compare = compare
at_positions (position ∷ others) compare = at_positions others (rules.next compare (seen true position) 0)

-- one pulse at 10, once the position has been 5 before it
abbrev pub prepared : Compare
prepared =
    record {
      settings =
          record {
            pre_start = 5;
            start = pos 10;
            step = 10;
            width = 1;
            pulses = 1;
            relative = references.Absolute;
            direction = directions.Positive;
          };
      registers = opening.registers;
    }

-- two pulses, 4294967290 apart, in the direction in which the position goes
abbrev pub far : Compare
far =
    record {
      settings =
          record {
            pre_start = 0;
            start = pos 0;
            step = 4294967290;
            width = 5;
            pulses = 2;
            relative = references.Relative;
            direction = directions.Either;
          };
      registers = opening.registers;
    }

-- the least and the greatest position
abbrev pub least : ℤ
least = negsuc 0x7fff_ffff

abbrev pub greatest : ℤ
greatest = pos 0x7fff_ffff
