-- The source and the sink in memory as their callers see them, and what one call does to each.
use Rattle.std.specs.Prelude.{◌≡◌, ℕ, ◌+◌, ◌-◌, ◌<◌, ◌≤◌, ◌⊎◌, min, List, [], ◌++◌, length, take, drop, Option, Result, Ok, Err}
use Rattle.pb_ports.specs.declared.sources.Read.{Read}
use Rattle.pb_ports.specs.declared.sources.Read.TheVariants as reads
use Rattle.pb_ports.specs.declared.sinks.Failed.{Failed}
use Rattle.pb_ports.specs.Counts.{one_more, IsDue}

-- A source in memory: the bytes left, the most bytes that a call gives, how many calls were made,
-- the number of the call that fails, and how many calls have failed.
pub record Supply : Type 0 where
  pub left : List ℕ
  pub piece : ℕ
  pub calls : ℕ
  pub fail_at : Option ℕ
  pub faults : ℕ

-- a source that was not called yet
abbrev pub first_supply : List ℕ → ℕ → Option ℕ → Supply
first_supply bytes most failing = record { left = bytes; piece = most; calls = 0; fail_at = failing; faults = 0 }

-- how many bytes a call with a buffer of this size gives
abbrev pub piece_size : Supply → ℕ → ℕ
piece_size supply room = min supply.piece (min room (length supply.left))

-- A read with a buffer of this size: the numbered call fails and takes nothing; another one takes a
-- piece off the bytes left, or ends where no byte is left.
abbrev pub Supplies : Supply → ℕ → Read → Supply → Type 0
Supplies old room (reads.Some n) new =
    (¬ (IsDue old.fail_at old.calls))
    × (n ≡ piece_size old room)
    × (new ≡ record old { left = drop n old.left; calls = one_more old.calls })
Supplies old room reads.End new =
    (¬ (IsDue old.fail_at old.calls)) × (old.left ≡ []) × (new ≡ record old { calls = one_more old.calls })
Supplies old room reads.Failed new =
    IsDue old.fail_at old.calls × (new ≡ record old { calls = one_more old.calls; faults = one_more old.faults })

-- A sink in memory: the bytes held, the most bytes that it holds, how many calls were made, the
-- number of the call that fails, and how many calls have failed.
pub record Store : Type 0 where
  pub held : List ℕ
  pub room : ℕ
  pub calls : ℕ
  pub fail_at : Option ℕ
  pub faults : ℕ

-- a sink that was not called yet
abbrev pub first_store : ℕ → Option ℕ → Store
first_store most failing = record { held = []; room = most; calls = 0; fail_at = failing; faults = 0 }

-- the sink after a call that adds these bytes
abbrev pub added : Store → List ℕ → Store
added store bytes = record store { held = store.held ++ bytes; calls = one_more store.calls }

-- the sink after a call that adds these bytes and fails
abbrev pub added_and_failed : Store → List ℕ → Store
added_and_failed store bytes = record (added store bytes) { faults = one_more store.faults }

-- the bytes and what is held don't fit together
abbrev pub IsTooMuch : Store → List ℕ → Type 0
IsTooMuch store bytes = store.room < length store.held + length bytes

-- the bytes that still fit
abbrev pub fitting : Store → List ℕ → List ℕ
fitting store bytes = take (store.room - length store.held) bytes

-- A write of these bytes: the numbered call fails and adds nothing; another one adds the bytes, or
-- where they are too many it adds those that fit and fails.
abbrev pub Stores : Store → List ℕ → Result (Unit {0}) Failed → Store → Type 0
Stores old bytes (Ok u) new =
    (¬ (IsDue old.fail_at old.calls))
    × (length old.held + length bytes ≤ old.room)
    × (new ≡ added old bytes)
Stores old bytes (Err e) new =
    (IsDue old.fail_at old.calls × (new ≡ added_and_failed old []))
    ⊎ ((¬ (IsDue old.fail_at old.calls)) × IsTooMuch old bytes × (new ≡ added_and_failed old (fitting old bytes)))
