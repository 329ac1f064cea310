-- Words of private helpers: no public clause cites them.
-- What the code looks at, byte by byte.
use Rattle.std.specs.Prelude.{◌≡◌, ℕ, ◌<◌, ◌≤◌, true, false, List, length, drop, slice_index}
use Rattle.pb_tables.specs.Bodies.{is_blank, IsApart}
use Rattle.pb_tables.specs.Computed.{is_numeral}

-- a byte that a body of numbers can have
abbrev pub IsNumeral : ℕ → Type 0
IsNumeral b = is_numeral b ≡ true

-- no blank stands before this place, and what is from there on is apart
pub record IsEnd (body : List ℕ) (end : ℕ) : Type 0 where
  pub within : end ≤ length body
  pub before : (k : ℕ) → k < end → is_blank (slice_index body k) ≡ false
  pub apart : IsApart (drop end body)
