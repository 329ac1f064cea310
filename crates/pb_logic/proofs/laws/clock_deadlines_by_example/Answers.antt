use Rattle.std.proofs.Common.{◌-◌, ◌^◌, refl, inl, inr, arith}
use Rattle.pb_logic.specs.Examples.{idle, clock_after}
use Rattle.pb_logic.proofs.ClockLemmas.{falls_at, rises_at, stays_high}
use Rattle.pb_logic.proofs.laws.clock_deadlines_by_example.Goals as goal

pub returns : goal.returns
returns c =
    record {
      high = falls_at idle refl (2 ^ 46 - 1) 1 (clock_after (2 ^ 47) 0 1) refl refl (omega arith);
      never_low = stays_high idle refl 1 (clock_after 4 4 1) refl (omega arith) (omega arith);
      low = rises_at idle refl 2 3 (clock_after 5 0 3) refl (inr (omega arith, omega arith, inl refl));
    }
