-- What `try_enter` answers.
use Rattle.std.specs.Prelude.{◌≡◌, ◌+◌, List}
use Rattle.pb_turn.specs.Seeing.{Known}
use Rattle.pb_turn.specs.Entering.{Holds, seeing}
use Rattle.pb_turn.specs.declared.entering.Entered.{Entered}
use Rattle.pb_turn.specs.declared.entering.Entered.TheVariants as answers

-- The turn, and then the pass hasn't lost. Or the pass again, which has lost once more, and nothing else of it changed
abbrev pub IsEntered : {E V O : Type 0} → (V → O) → (V → List E → Type 0) → Known E V → Entered V E → Type 0
IsEntered origin stands pass (answers.Held held) = Holds origin stands pass held × (held.pass.lost ≡ pass.lost)
IsEntered origin stands pass (answers.Busy back) = back ≡ seeing pass pass.seen (pass.lost + 1)
