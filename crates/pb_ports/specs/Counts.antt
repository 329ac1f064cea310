-- Counts of calls and of faults, and the call that a fake is told to fail.
use Rattle.std.specs.Prelude.{◌≡◌, ℕ, ◌+◌, ◌-◌, ◌^◌, min, Option, Some}

-- one more, in a count that stays at the end of its range
abbrev pub one_more : ℕ → ℕ
one_more n = min (n + 1) (2 ^ 64 - 1)

-- after so many calls the next one is the call that is to fail, the first call being number 1
abbrev pub IsDue : Option ℕ → ℕ → Type 0
IsDue fail_at calls = fail_at ≡ Some (calls + 1)
