use Rattle.std.proofs.Common.{◌++◌, refl, ap, ◌∙◌, arith}
use Rattle.std.specs.List.{flat_map}
use Rattle.pb_encode.specs.Encoding.{number_line}
use Rattle.pb_encode.proofs.PartLemmas.{added, all_added}
use Rattle.pb_encode.proofs.headers.put_field_lines.Goals as goal

pub loop-quantity-preserved : goal.loop-quantity-preserved
loop-quantity-preserved c =
    added (number_line c.args.is_scaled c.args.field.now) c.quantities_of-quantity-items.result.now c.loop-quantity.quantity-index _ _
    c.loop-quantity.text _ _ (omega arith) refl c.in_ok-put_number_line.ensures c.loop-quantity.invariant

pub returns : goal.returns
returns c =
    all_added (number_line c.args.is_scaled c.args.field.now) c.quantities_of-quantity-items.result.now
    c.loop-quantity.quantity-index c.loop-quantity.text _ c.loop-quantity-test.false c.loop-quantity.invariant
    ∙ ap (λ qs. c.args.text.now ++ flat_map (number_line c.args.is_scaled c.args.field.now) qs) c.quantities_of-quantity-items.ensures
