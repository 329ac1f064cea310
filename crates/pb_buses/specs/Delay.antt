-- Bit inputs: what a mux selects, and the delay line behind it.
use Rattle.std.specs.Prelude.{◌≡◌, ◌≢◌, ℕ, zero, suc, ◌<◌, ◌/◌, ◌%◌, ◌==◌, Bool, false, List, [], ◌∷◌, ◌++◌, take, replicate, slice_index_or, Option, Some, None}
use Rattle.pb_names.specs.declared.bit_bus.TheConstants as bit_bus

-- A bit input of a block: the raw value that says what it selects, its delay in ticks, and its delay
-- line, which is the values that it selected at the last 31 ticks, the latest first.
pub record BitInput : Type 0 where
  pub select : ℕ
  pub delay : ℕ
  pub line : List Bool

-- a delay line after these values, the latest first: the last 31 of them, and 0 before tick 0
unfoldable pub line_after : List Bool → List Bool
line_after past = take bit_bus.MAX_DELAY (past ++ replicate bit_bus.MAX_DELAY false)

-- What the block sees of an input that selects this value now: with delay 0 this value, with delay d
-- the value selected d ticks ago.
abbrev pub seen : BitInput → Bool → Bool
seen input now = slice_index_or (now ∷ input.line) input.delay false

-- a delay line so many ticks later, at all of which this value was selected
unfoldable pub pushed : List Bool → Bool → ℕ → List Bool
pushed line value ticks = take bit_bus.MAX_DELAY (replicate ticks value ++ line)

-- the input so many ticks later, at all of which it selected this value
abbrev pub shifted : BitInput → Bool → ℕ → BitInput
shifted input value ticks = record input { line = pushed input.line value ticks }

-- what the input selected at the tick before
abbrev pub latest : BitInput → Bool
latest input = slice_index_or input.line 0 false

-- what the block sees of the input so many ticks later, where it selects this value now and goes on to
abbrev pub later : BitInput → Bool → ℕ → Bool
later input value ticks = seen (shifted input value ticks) value

-- The next change of what the block sees of an input that selects this value now and goes on to: the number of
-- ticks after which it sees something else than now for the first time, or none where it never does.
abbrev pub IsNextChange : BitInput → Bool → Option ℕ → Type 0
IsNextChange input value None = (ticks : ℕ) → later input value ticks ≡ seen input value
IsNextChange input value (Some n) =
    (0 < n)
    × ((ticks : ℕ) → ticks < n → later input value ticks ≡ seen input value)
    × (later input value n ≢ seen input value)

-- the input with another selection: its line keeps what was selected before
abbrev pub wired : BitInput → ℕ → BitInput
wired input select = record input { select = select }

-- the input with another delay
abbrev pub delayed : BitInput → ℕ → BitInput
delayed input delay = record input { delay = delay }

-- an input as the box opens: it selects ZERO without delay, and so it did at all ticks before
abbrev pub opening_input : BitInput
opening_input = record { select = bit_bus.ZERO; delay = 0; line = line_after [] }

-- the last k binary digits of a number, the lowest first
unfoldable pub digits : ℕ → ℕ → List Bool
digits zero n = []
digits (suc k) n = (n % 2 == 1) ∷ digits k (n / 2)
