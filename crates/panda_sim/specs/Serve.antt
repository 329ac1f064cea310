-- How serving ends, by its status, and what it leaves of the stimulus. While it serves it doesn't end.
use Rattle.std.specs.Prelude.{◌≡◌, ℕ, ◌<◌, ◌⊎◌, List, length, Option, Some}
use Rattle.pb_ports.specs.Ports.{Takes, IsSpent}
use Rattle.pb_stim.specs.declared.Cause.{Cause}
use Rattle.pb_stim.specs.Lines.{Line, IsStimulus}
use Rattle.pb_stim.specs.Faults.{first_fault}
use Rattle.pb_cli.specs.declared.Ports.{Ports}
use Rattle.pb_cli.specs.ServeWords.{StartsAt}
use Rattle.panda_sim.specs.declared.statuses.Status.{Status}
use Rattle.panda_sim.specs.declared.statuses.Status.TheVariants as statuses

-- the words start the server at some ports
abbrev pub Starts : List (List ℕ) → Type 0
Starts words = (ports : Ports) × StartsAt words ports

-- A stimulus was read to its end.
pub record ReadsStimulus (given left : Option (List ℕ)) : Type 0 where
  pub bytes : List ℕ
  pub lines : List Line
  pub taken : Takes given bytes left
  pub spent : IsSpent left
  pub stimulus : IsStimulus bytes lines

-- What was read is no stimulus: it is all of the input, or more than 16 MiB of it. This line is the first that breaks a rule, and this
-- the first rule that it breaks.
pub record ReadsNoStimulus (line : ℕ) (cause : Cause) (given left : Option (List ℕ)) : Type 0 where
  pub bytes : List ℕ
  pub taken : Takes given bytes left
  pub enough : IsSpent left ⊎ (16777216 < length bytes)
  pub fault : first_fault bytes ≡ Some (line, cause)

-- how serving ends with these words, where of the stimulus given there is this left
abbrev pub Ends : Status → List (List ℕ) → Option (List ℕ) → Option (List ℕ) → Type 0
Ends statuses.Ok words given left = ⊥
-- nothing was read
Ends statuses.Usage words given left = (¬ (Starts words)) × (left ≡ given)
Ends (statuses.Script line cause) words given left = Starts words × ReadsNoStimulus line cause given left
Ends statuses.ReadFault words given left = Starts words
Ends statuses.WriteFault words given left = ⊥
Ends statuses.OutOfMemory words given left = Unit {0}
Ends (statuses.EventLimit tick) words given left = ⊥
-- the stimulus was read and kept
Ends statuses.PortFault words given left = Starts words × ReadsStimulus given left
Ends statuses.SpawnFault words given left = Starts words × ReadsStimulus given left

-- what opening the core comes to
abbrev pub Opened : Status → Option (List ℕ) → Option (List ℕ) → Type 0
Opened (statuses.Script line cause) given left = ReadsNoStimulus line cause given left
Opened statuses.ReadFault given left = Unit {0}
Opened statuses.OutOfMemory given left = Unit {0}
Opened other given left = ⊥
