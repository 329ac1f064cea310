use Rattle.std.proofs.Common.{◌++◌, replicate, ap, ◌∙◌, arith}
use Rattle.std.specs.List.{flat_map, range_with_len}
use Rattle.pb_fields.specs.Places.{count_of}
use Rattle.pb_lazy.specs.Lazy.{opening_lazy}
use Rattle.pb_jump.proofs.OpeningLemmas.{all_opened, more_opened, all_done}
use Rattle.pb_jump.proofs.sims.all_blocks.Goals as goal

pub loop-kind-init : goal.loop-kind-init
loop-kind-init c =
    ap (λ l. l ++ flat_map (λ k. replicate (count_of k) (opening_lazy k)) (range_with_len 3 9)) c.new-lazies.ensures.items
    ∙ all_opened opening_lazy

pub loop-kind-preserved : goal.loop-kind-preserved
loop-kind-preserved c =
    more_opened opening_lazy c.loop-kind.lazies.items _ c.loop-kind.kind (omega arith)
    (c.in_ok-add.ensures ∙ ap (λ n. c.loop-kind.lazies.items ++ replicate n (opening_lazy c.loop-kind.kind)) c.instances.ensures)
    ∙ c.loop-kind.invariant

pub returns : goal.returns
returns c = all_done opening_lazy c.loop-kind.lazies.items c.loop-kind.kind c.loop-kind-test.false c.loop-kind.invariant
