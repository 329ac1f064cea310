-- Faults of a net that is asked for several doors.
use Rattle.std.proofs.Common.{ℕ, ◌≤◌}
use Rattle.pb_ports.specs.Ports.{Rose}
use Rattle.pb_replay.proofs.PendingLemmas.{rose_later}

pub rose_after : (old mid new : ℕ) → old ≤ mid → Rose mid new → Rose old new
rose_after old mid new le rose = rose_later old mid new le rose
