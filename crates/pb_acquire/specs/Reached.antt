-- The acquisitions that commands and records make.
use Rattle.std.specs.Prelude.{◌≡◌, ℕ, List, None, IsSome}
use Rattle.pb_buses.specs.declared.Condition.{Condition}
use Rattle.pb_buses.specs.declared.Record.{Record}
use Rattle.pb_pcap.specs.declared.fields.Field.{Field}
use Rattle.pb_encode.specs.declared.options.Options.{Options}
use Rattle.pb_acquire.specs.Acquisitions.{AllAcquisitions, opening, arm_refusal, armed, recorded, ended}
use Rattle.pb_acquire.specs.Taking.{opened, closed, after_take}

-- They are those before the first, or come of others: a layout was armed that isn't refused, the one that runs had a
-- record more, or it is over; or a reader was opened or closed, or took.
pub data IsReached : AllAcquisitions → Type 0 where
  at_first : IsReached opening
  by_arming : (all : AllAcquisitions) (layout : List Field) → arm_refusal all layout ≡ None → IsReached all → IsReached (armed layout all)
  by_record : (all : AllAcquisitions) (row : Record) → IsSome all.running → IsReached all → IsReached (recorded row all)
  by_end : (all : AllAcquisitions) (condition : Condition) → IsSome all.running → IsReached all → IsReached (ended condition all)
  by_open : (all : AllAcquisitions) (id : ℕ) (options : Options) → IsReached all → IsReached (opened id options all)
  by_close : (all : AllAcquisitions) (id : ℕ) → IsReached all → IsReached (closed id all)
  by_take : (all : AllAcquisitions) (id : ℕ) → IsReached all → IsReached (after_take id all)
