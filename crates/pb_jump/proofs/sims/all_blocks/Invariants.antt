use Rattle.std.proofs.Common.{◌≡◌, ◌-◌, ◌++◌, map, replicate}
use Rattle.std.specs.List.{flat_map, range_with_len}
use Rattle.pb_fields.specs.Places.{count_of}
use Rattle.pb_model.specs.Machines.{machine_kinds}
use Rattle.pb_lazy.specs.Lazy.{opening_lazy}
use Rattle.pb_jump.proofs.sims.all_blocks.Given as goal

-- With the blocks of the kinds still to come these are all.
abbrev pub invariant-loop-kind : goal.invariant-loop-kind
invariant-loop-kind l =
    l.lazies.items ++ flat_map (λ kind. replicate (count_of kind) (opening_lazy kind)) (range_with_len l.kind (12 - l.kind))
    ≡ map opening_lazy machine_kinds
