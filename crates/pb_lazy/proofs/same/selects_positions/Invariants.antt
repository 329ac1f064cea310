use Rattle.std.proofs.Common.{◌≡◌, ℕ, take}
use Rattle.std.specs.List.{AllByRecursion}
use Rattle.pb_names.specs.declared.position_bus.TheConstants as position_bus
use Rattle.pb_lazy.proofs.same.selects_positions.Given as goal

abbrev pub invariant-loop-select : goal.invariant-loop-select
invariant-loop-select l = AllByRecursion (λ (select : ℕ). select ≡ position_bus.ZERO) (take l.select-index l.selects)
