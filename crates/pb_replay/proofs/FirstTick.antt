-- The first tick of a run is eventful: every block is busy at it.
use Rattle.std.proofs.Common.{◌≡◌, ℕ, ◌<◌, List, [], ◌∷◌, length, map, inl, inr, ◌∙◌, arith}
use Rattle.std.proofs.lemmas.List.{length-map}
use Rattle.std.specs.Prelude.{Option, None}
use Rattle.pb_buses.specs.declared.Bus.{Bus}
use Rattle.pb_buses.specs.declared.Inputs.{Inputs}
use Rattle.pb_stim.specs.declared.Row.{Row}
use Rattle.pb_model.specs.declared.Block.{Block}
use Rattle.pb_model.specs.Machines.{machine_kinds}
use Rattle.pb_model.specs.Tick.{opening_block}
use Rattle.pb_model.proofs.TickLemmas.{length-machine_kinds}
use Rattle.pb_still.specs.Eventful.{IsIdle, IsOneBusy, IsEventful}
use Rattle.pb_core.specs.Answer.{opening, moment_of}

-- what a block saw at the tick before the first
abbrev nothing_seen : Block → Option Inputs
nothing_seen block = None

-- it isn't idle where it saw nothing
not_idle : (bus : Bus) (tick : ℕ) (block : Block) → ¬ (IsIdle bus tick None block)
not_idle bus tick block idle = absurd (let never = idle.same in cc)

one_busy : (bus : Bus) (tick : ℕ) (blocks : List Block) → 0 < length blocks → IsOneBusy bus tick (map nothing_seen blocks) blocks
one_busy bus tick [] some = absurd (omega (arith, some))
one_busy bus tick (block ∷ blocks) some = inl (not_idle bus tick block)

pub first_eventful : (rows : List Row) → IsEventful (moment_of (opening rows))
first_eventful rows =
    let many : length (opening rows).box.stands.blocks ≡ 35 = length-map machine_kinds opening_block ∙ length-machine_kinds in
    inr (one_busy (opening rows).box.stands.bus (opening rows).box.stands.tick (opening rows).box.stands.blocks (omega (arith, many)))
