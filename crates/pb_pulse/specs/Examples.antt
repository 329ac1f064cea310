-- The blocks and inputs of the worked examples.
use Rattle.std.specs.Prelude.{ℕ, pos, Bool, true, false, ◌∷◌, replicate}
use Rattle.pb_buses.specs.declared.Inputs.{Inputs}
use Rattle.pb_buses.specs.Rules.{after}
use Rattle.pb_pulse.specs.Pulse.{Generator, opening, rules}

-- ENABLE and TRIG that a PULSE sees
abbrev pub seen : Bool → Bool → Inputs
seen enable trig =
    record {
      bits = enable ∷ trig ∷ replicate 3 false;
      positions = replicate 3 (pos 0);
      words = replicate 4 0;
      bus = replicate 32 (pos 0);
    }

-- two pulses of three ticks, ten apart, five ticks behind the trigger
abbrev pub pair : Generator
pair =
    record opening {
      settings = record opening.settings { delay = 5; width = 3; step = 10; pulses = 2 };
    }

-- the same with no width
abbrev pub narrow : Generator
narrow = record pair { settings = record pair.settings { width = 0 } }

-- TRIG is 1 at tick 100, 0 from 101 on and 1 from 110 on: the block as the tick begins that is so many ticks behind 110
abbrev pub behind_110 : Generator → ℕ → Generator
behind_110 generator n =
    let at_100 = rules.next generator (seen true false) 99 in
    let at_101 = rules.next at_100 (seen true true) 100 in
    let at_110 = after rules (seen true false) 101 9 at_101 in
    after rules (seen true true) 110 n at_110
