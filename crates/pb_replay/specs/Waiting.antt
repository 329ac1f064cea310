-- Words of private helpers: no public clause cites them.
-- What waits of the control sessions, by what is kept of them.
use Rattle.std.specs.Prelude.{◌≡◌, ℕ, ◌-◌, List, length, slice_index_or}
use Rattle.pb_grammar.specs.Feeding.{Kept, Fed, nothing}
use Rattle.pb_core.specs.Sessions.{IsSession}
use Rattle.pb_replay.specs.Events.{waits_of}

-- what is kept of a session
abbrev pub kept_of : List Kept → ℕ → Kept
kept_of assemblers session = slice_index_or assemblers (session - 1) nothing

-- each assembler was fed what waits of its session
pub record AreFed (assemblers : List Kept) (waiting : List (List ℕ)) : Type 0 where
  pub eight : length waiting ≡ 8
  pub each : (session : ℕ) → IsSession session → Fed (kept_of assemblers session) (waits_of waiting session)
