-- What starting a job does to the count of the jobs that were handed back.
use Rattle.std.specs.Prelude.{◌≡◌, ℕ, Result, Ok, Err}
use Rattle.pb_ports.specs.Counts.{one_more}

-- the job was taken, or it is handed back as it was and counted
abbrev pub HandsBack : {J : Type 0} → J → Result (Unit {0}) J → ℕ → ℕ → Type 0
HandsBack job (Ok u) old new = new ≡ old
HandsBack job (Err back) old new = (back ≡ job) × (new ≡ one_more old)
