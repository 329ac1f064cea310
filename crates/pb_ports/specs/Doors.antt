-- What an accept does to the connections still to come, where their bytes are told, and what a connection that was just accepted is
-- like.
use Rattle.std.specs.Prelude.{◌≡◌, ℕ, List, ◌∷◌, Option, Some, None}
use Rattle.pb_ports.specs.Ports.{IsSpent}

-- the first connection's bytes are those that the source has left, and the others are still to come
abbrev pub Comes : Option (List (List ℕ)) → Option (List ℕ) → Option (List (List ℕ)) → Type 0
Comes None left new = new ≡ None
Comes (Some ways) left new =
    (bytes : List ℕ) × (rest : List (List ℕ)) × (ways ≡ bytes ∷ rest) × (left ≡ Some bytes) × (new ≡ Some rest)

-- Neither half of a connection with these counts has failed so far, and the sink holds nothing, where that is told.
pub record IsFresh (source_faults sink_faults : ℕ) (held : Option (List ℕ)) : Type 0 where
  pub source : source_faults ≡ 0
  pub sink : sink_faults ≡ 0
  pub empty : IsSpent held
