-- What bytes are that are refused.
use Rattle.std.specs.Prelude.{◌≡◌, ℕ, List, Some}
use Rattle.pb_stim.specs.declared.faults.StimFault.{StimFault}
use Rattle.pb_stim.specs.declared.faults.StimFault.TheVariants as faults
use Rattle.pb_stim.specs.Faults.{first_fault}

-- the line is the first that breaks a rule, and the cause the first that fits; memory may be wanting for any bytes
abbrev pub IsRefused : List ℕ → StimFault → Type 0
IsRefused bytes (faults.Line line cause) = first_fault bytes ≡ Some (line, cause)
IsRefused bytes faults.OutOfMemory = Unit {0}
