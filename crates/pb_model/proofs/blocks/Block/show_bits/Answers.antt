use Rattle.std.proofs.Common.{◌+◌, ◌-◌, ◌/◌, sym, ap, ◌∙◌}
use Rattle.pb_buses.specs.declared.Outputs.{Outputs}
use Rattle.pb_buses.specs.Delay.{digits}
use Rattle.pb_model.specs.Kept.{with_bits}
use Rattle.pb_model.proofs.ShownLemmas.{all_bits, one_bit, no_bits}
use Rattle.pb_model.proofs.blocks.Block.show_bits.Goals as goal

pub loop-k-init : goal.loop-k-init
loop-k-init c =
    all_bits c.args.entry _ _ _ _ c.args.tick c.args.buses.now c.bit_outputs-count.ensures.count
    (ap (λ (o : Outputs). o.bits) c.outputs-rest.ensures)

pub loop-k-preserved : goal.loop-k-preserved
loop-k-preserved c =
    ap (with_bits (c.args.entry + (c.loop-k.k + 1)) (digits (c.bit_outputs-count.result - (c.loop-k.k + 1)) (c.loop-k.rest / 2)) c.args.tick) c.put_bit.ensures
    ∙ (one_bit c.args.entry c.bit_outputs-count.result c.loop-k.k c.loop-k.rest c.args.tick c.loop-k.buses c.loop-k-test.true
    ∙ c.loop-k.invariant)

pub returns-clause-shown : goal.returns-clause-shown
returns-clause-shown c =
    sym (no_bits c.args.entry c.bit_outputs-count.result c.loop-k.k c.loop-k.rest c.args.tick c.loop-k.buses c.loop-k-test.false)
    ∙ c.loop-k.invariant
