-- The rules of a kind of block, and what follows from them over many ticks: after, calm, horizon.
use Rattle.std.specs.Prelude.{◌≡◌, ℕ, zero, suc, ◌+◌, ◌<◌, Bool, true, false, Option, Some, None}
use Rattle.pb_buses.specs.declared.inputs.Inputs.{Inputs}
use Rattle.pb_buses.specs.declared.inputs.Outputs.{Outputs}
use Rattle.pb_buses.specs.declared.emits.Emit.{Emit}
use Rattle.pb_buses.specs.declared.emits.Emit.TheVariants as emits

-- The rules of a kind of block. `next` is the block one tick later, from its settings and registers,
-- the inputs seen at the tick, and the tick; `emitted` is what that step emits. `uncounted` is what is
-- left of a block without its running counts.
pub record Rules (B : Type 0) : Type 0 where
  pub next : B → Inputs → ℕ → B
  pub emitted : B → Inputs → ℕ → Emit
  pub uncounted : Inputs → B → B

-- the block after so many ticks under the same inputs, of which this tick is the first
abbrev pub after : {B : Type 0} → Rules B → Inputs → ℕ → ℕ → B → B
after rules inputs tick zero block = block
after rules inputs tick (suc n) block = after rules inputs (tick + 1) n (rules.next block inputs tick)

-- A step is calm if it emits nothing and completes nothing, and leaves all registers but the running
-- counts as they are.
pub record IsCalm {B : Type 0} (rules : Rules B) (inputs : Inputs) (tick : ℕ) (block : B) : Type 0 where
  pub quiet : rules.emitted block inputs tick ≡ emits.Nothing
  pub still : rules.uncounted inputs (rules.next block inputs tick) ≡ rules.uncounted inputs block

-- the next n steps under the same inputs are calm
abbrev pub AreCalm : {B : Type 0} → Rules B → Inputs → ℕ → ℕ → B → Type 0
AreCalm rules inputs tick n block =
    (k : ℕ) → k < n → IsCalm rules inputs (tick + k) (after rules inputs tick k block)

-- The horizon is the number of calm steps before the first that isn't; none where all are calm.
abbrev pub IsHorizon : {B : Type 0} → Rules B → Inputs → ℕ → B → Option ℕ → Type 0
IsHorizon rules inputs tick block None = (n : ℕ) → AreCalm rules inputs tick n block
IsHorizon rules inputs tick block (Some n) =
    AreCalm rules inputs tick n block × ¬ (IsCalm rules inputs (tick + n) (after rules inputs tick n block))

abbrev pub is_record : Emit → Bool
is_record (emits.Record record_) = true
is_record _ = false

-- Neither the outputs of a block nor whether a step of it emits a record depends on its running counts.
pub record CountsAreUnseen {B : Type 0} (rules : Rules B) (shown : B → Outputs) : Type 0 where
  pub outputs : (seen : Inputs) (block : B) → shown (rules.uncounted seen block) ≡ shown block
  pub records :
      (seen inputs : Inputs) (tick : ℕ) (block : B) →
      is_record (rules.emitted (rules.uncounted seen block) inputs tick) ≡ is_record (rules.emitted block inputs tick)
