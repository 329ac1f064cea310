-- What the adapters do to the bytes of the reader and of the writer that they stand on, where these
-- tell their bytes.
use Rattle.std.specs.Prelude.{◌≡◌, ℕ, List, [], ◌++◌, take, Option, Result, Ok, Err}
use Rattle.std.specs.Io.KnownBytes.{Keeps, Appends, Consumes, IsAtEnd}
use Rattle.pb_ports.specs.declared.sources.Read.{Read}
use Rattle.pb_ports.specs.declared.sources.Read.TheVariants as reads
use Rattle.pb_ports.specs.declared.sinks.Failed.{Failed}
use Rattle.pb_ports.specs.Counts.{one_more}

-- the reader gave the bytes at the front of the buffer and no others
abbrev pub PassesOn : Option (List ℕ) → List ℕ → Read → Option (List ℕ) → Type 0
PassesOn old buf (reads.Some n) new = Consumes old new (take n buf)
PassesOn old buf reads.End new = Consumes old new [] × IsAtEnd new
PassesOn old buf reads.Failed new = Keeps old new

-- the count of faults after a read
abbrev pub faults_after_read : Read → ℕ → ℕ
faults_after_read reads.Failed n = one_more n
faults_after_read _ n = n

-- the writer took the bytes, or on a failure some front of them
abbrev pub WritesOut : Option (List ℕ) → List ℕ → Result (Unit {0}) Failed → Option (List ℕ) → Type 0
WritesOut old bytes (Ok u) new = Appends old new bytes
WritesOut old bytes (Err e) new = (front : List ℕ) × (rest : List ℕ) × (bytes ≡ front ++ rest) × Appends old new front

-- the count of faults after a write
abbrev pub faults_after_write : Result (Unit {0}) Failed → ℕ → ℕ
faults_after_write (Ok u) n = n
faults_after_write (Err e) n = one_more n
