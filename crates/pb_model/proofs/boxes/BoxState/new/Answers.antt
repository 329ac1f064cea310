use Rattle.std.proofs.Common.{◌++◌, replicate, refl, ap, ◌∙◌, arith}
use Rattle.std.specs.List.{flat_map, range_with_len}
use Rattle.pb_fields.specs.Places.{count_of}
use Rattle.pb_model.specs.Tick.{opening_block}
use Rattle.pb_model.proofs.TickLemmas.{all_opened, more_opened, all_done, is_opening, opening_whole, opening_along}
use Rattle.pb_model.specs.Arming.{is_capture_idle}
use Rattle.pb_model.proofs.ArmLemmas.{opening_idle}
use Rattle.pb_model.proofs.boxes.BoxState.new.Goals as goal

pub loop-kind-init : goal.loop-kind-init
loop-kind-init c =
    ap (λ l. l ++ flat_map (λ k. replicate (count_of k) (opening_block k)) (range_with_len 3 9)) c.new-blocks.ensures.items
    ∙ all_opened

pub loop-kind-preserved : goal.loop-kind-preserved
loop-kind-preserved c =
    more_opened c.loop-kind.blocks.items _ c.loop-kind.kind (omega arith)
    (c.in_ok-add.ensures ∙ ap (λ n. c.loop-kind.blocks.items ++ replicate n (opening_block c.loop-kind.kind)) c.instances.ensures)
    ∙ c.loop-kind.invariant

pub invariant_of-result : goal.invariant_of-result
invariant_of-result c =
    opening_whole c.loop-kind.blocks.items _
    (all_done c.loop-kind.blocks.items c.loop-kind.kind c.loop-kind-test.false c.loop-kind.invariant) refl

pub returns-clause-agrees : goal.returns-clause-agrees
returns-clause-agrees c =
    opening_along _
    (is_opening c.new.result c.loop-kind.blocks.items c.new.ensures
    (all_done c.loop-kind.blocks.items c.loop-kind.kind c.loop-kind-test.false c.loop-kind.invariant))

pub returns-clause-idle : goal.returns-clause-idle
returns-clause-idle c =
    ap is_capture_idle (all_done c.loop-kind.blocks.items c.loop-kind.kind c.loop-kind-test.false c.loop-kind.invariant)
    ∙ opening_idle
