-- What bytes are that are refused.
use Rattle.std.specs.Prelude.{◌≡◌, ℕ, List, Some}
use Rattle.pb_replay.specs.declared.faults.ScriptFault.{ScriptFault}
use Rattle.pb_replay.specs.declared.faults.ScriptFault.TheVariants as faults
use Rattle.pb_replay.specs.Faults.{first_fault}

-- the line is the first that breaks a rule, and the cause the first that fits; memory may be wanting for any bytes
abbrev pub IsRefused : List ℕ → ScriptFault → Type 0
IsRefused bytes (faults.Line line cause) = first_fault bytes ≡ Some (line, cause)
IsRefused bytes faults.OutOfMemory = Unit {0}
