use Rattle.std.proofs.Common.{◌≡◌, ℕ, ◌-◌, ◌≤◌, ◌∷◌, false, get_or}
use Rattle.pb_buses.specs.Delay.{digits}
use Rattle.pb_buses.proofs.muxes.line_change.Given as goal

abbrev pub invariant-loop-passed : goal.invariant-loop-passed
invariant-loop-passed l =
    (k : ℕ) → k ≤ l.passed → get_or (l.selected ∷ digits 31 l.line) (l.delay - k) false ≡ l.seen
