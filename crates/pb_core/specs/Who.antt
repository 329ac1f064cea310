-- `*WHO?`: a line for each session that is open, control sessions first, each by rising ids.
use Rattle.std.specs.Prelude.{ℕ, Bool, List, [], ◌++◌, codes, decimal, if◌then◌else◌}
use Rattle.std.specs.List.{flat_map}
use Rattle.pb_acquire.specs.Acquisitions.{AllAcquisitions}
use Rattle.pb_replies.specs.Replies.{listed}
use Rattle.pb_core.specs.Sessions.{session_ids, is_listed, is_reading}

-- `!C 1`: the line of a session, if it is open
abbrev pub session_line : List ℕ → (ℕ → Bool) → ℕ → List ℕ
session_line letter is_there id = if is_there id then listed (letter ++ codes " " ++ decimal id) else []

-- by which control sessions are open, and by the readers
abbrev pub who_reply : List Bool → AllAcquisitions → List ℕ
who_reply is_open_at all =
    flat_map (session_line (codes "C") (is_listed is_open_at)) session_ids
    ++ flat_map (session_line (codes "D") (is_reading all)) session_ids
    ++ codes ".\n"
