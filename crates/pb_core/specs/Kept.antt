-- What is kept of a core: in place of its past its box has the ticks of the last changes, its settings have the numbers of
-- the last assignments, and its sessions have marks. Its blocks stand at ticks of their own.
use Rattle.std.specs.Prelude.{◌≡◌, ⊤, List, [], ◌∷◌, Option, Some, None}
use Rattle.pb_config.specs.KeptConfig.{KeptConfig}
use Rattle.pb_config.specs.Numbers.{AgreesWithAssigned}
use Rattle.pb_changes.specs.declared.Marks.{Marks}
use Rattle.pb_changes.specs.Report.{Reported}
use Rattle.pb_changes.specs.Kept.{Keeps}
use Rattle.pb_model.specs.Kept.{Kept}
use Rattle.pb_going.specs.Sims.{Going, now_of, touched}
use Rattle.pb_going.specs.Sims as sims
use Rattle.pb_acquire.specs.Kept as acquire
use Rattle.pb_core.specs.Core.{CoreState, moment_of, marked}

pub record KeptCore : Type 0 where
  pub config : KeptConfig
  pub sim : Going
  pub sessions : List (Option Marks)
  pub acquisitions : acquire.Kept

-- what is kept of its box, with every block brought to now
abbrev pub box_of : KeptCore → Kept
box_of kept = now_of kept.sim

-- a session is open or not, and its marks keep what was reported to it
abbrev pub IsKept : Option Marks → Option Reported → Type 0
IsKept None None = ⊤
IsKept (Some marks) (Some reported) = Keeps marks reported
IsKept _ _ = ⊥

-- so it is with each session
abbrev pub AreKept : List (Option Marks) → List (Option Reported) → Type 0
AreKept [] [] = ⊤
AreKept (session ∷ kept) (reported ∷ sessions) = IsKept session reported × AreKept kept sessions
AreKept _ _ = ⊥

-- What is kept is that of a core: the same settings, the numbers of its assignments, the moment of its run, and what is kept
-- of its sessions and of its acquisitions.
pub record Agrees (kept : KeptCore) (core : CoreState) : Type 0 where
  pub settings : kept.config.settings ≡ core.settings
  pub assigned : AgreesWithAssigned kept.config.numbers core.assigned
  pub run : sims.Agrees kept.sim (moment_of core)
  pub sessions : AreKept kept.sessions core.sessions
  pub acquisitions : acquire.Agrees kept.acquisitions core.acquisitions

-- what is kept, with an event that stands at now
abbrev pub touched_core : KeptCore → KeptCore
touched_core kept = record kept { sim = touched kept.sim }

-- it is that of a core once an event stands at now
abbrev pub Stands : KeptCore → CoreState → Type 0
Stands kept core = Agrees (touched_core kept) (marked core)
