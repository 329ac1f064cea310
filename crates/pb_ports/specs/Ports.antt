-- What a call on the outside world does to the bytes that a source has left, or that a sink holds,
-- where these bytes are told, and to the count of its faults.
use Rattle.std.specs.Prelude.{◌≡◌, ℕ, ◌-◌, ◌^◌, ◌<◌, ◌≤◌, ◌⊎◌, List, [], ◌++◌, length, take, Option, Some, None, Result, Ok, Err}
use Rattle.pb_ports.specs.declared.sources.Read.{Read}
use Rattle.pb_ports.specs.declared.sources.Read.TheVariants as reads
use Rattle.pb_ports.specs.declared.sinks.Failed.{Failed}

-- a count of faults after a fault: it rose, or it stands at the end of its range
abbrev pub Rose : ℕ → ℕ → Type 0
Rose old new = (old < new) ⊎ (new ≡ 2 ^ 64 - 1)

-- these bytes are taken off the front of what is left
abbrev pub Takes : Option (List ℕ) → List ℕ → Option (List ℕ) → Type 0
Takes None bytes new = new ≡ None
Takes (Some left) bytes new = (rest : List ℕ) × (left ≡ bytes ++ rest) × (new ≡ Some rest)

-- no byte is left, where that is told
abbrev pub IsSpent : Option (List ℕ) → Type 0
IsSpent None = Unit {0}
IsSpent (Some left) = left ≡ []

-- the size of a piece that a buffer with this room takes
abbrev pub IsPiece : ℕ → ℕ → Type 0
IsPiece n room = (0 < n) × (n ≤ room)

-- A read with this answer, after which the buffer holds buf: a piece of the bytes left stands at the
-- front of the buffer, or no byte was left, or it failed; without a piece nothing is taken.
abbrev pub Reads : Option (List ℕ) → List ℕ → Read → Option (List ℕ) → Type 0
Reads old buf (reads.Some n) new = IsPiece n (length buf) × Takes old (take n buf) new
Reads old buf reads.End new = IsSpent old × (new ≡ old)
Reads old buf reads.Failed new = new ≡ old

-- these bytes are added at the end of what is held
abbrev pub Adds : Option (List ℕ) → List ℕ → Option (List ℕ) → Type 0
Adds None bytes new = new ≡ None
Adds (Some held) bytes new = new ≡ Some (held ++ bytes)

-- a write with this answer adds the bytes, or on a failure some front of them
abbrev pub Writes : Option (List ℕ) → List ℕ → Result (Unit {0}) Failed → Option (List ℕ) → Type 0
Writes old bytes (Ok u) new = Adds old bytes new
Writes old bytes (Err e) new = (front : List ℕ) × (rest : List ℕ) × (bytes ≡ front ++ rest) × Adds old front new
