use Rattle.std.proofs.Common.{◌≡◌, ◌-◌, ◌++◌, map, replicate}
use Rattle.std.specs.List.{flat_map, range_with_len}
use Rattle.pb_fields.specs.Places.{count_of}
use Rattle.pb_model.specs.Machines.{machine_kinds}
use Rattle.pb_model.specs.Tick.{opening_block}
use Rattle.pb_model.proofs.boxes.BoxState.new.Given as goal

-- With the blocks of the kinds still to come these are all.
abbrev pub invariant-loop-kind : goal.invariant-loop-kind
invariant-loop-kind l =
    l.blocks.items ++ flat_map (λ kind. replicate (count_of kind) (opening_block kind)) (range_with_len l.kind (12 - l.kind))
    ≡ map opening_block machine_kinds
