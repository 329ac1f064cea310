use Rattle.std.proofs.Common.{◌++◌, drop, refl, ap, ◌∙◌, arith}
use Rattle.pb_encode.specs.Encoding.{numbers_text}
use Rattle.pb_encode.specs.Sizes.{numbers_size}
use Rattle.pb_encode.proofs.LineLemmas.{number_more, all_numbers, all_cut, field_numbers}
use Rattle.pb_encode.proofs.lines.put_field.Goals as goal

pub loop-quantity-preserved : goal.loop-quantity-preserved
loop-quantity-preserved c =
    number_more c.args.is_scaled c.args.field.now c.quantities_of-quantity-items.result.now c.loop-quantity.quantity-index _ _
    c.loop-quantity.text _ _ c.loop-quantity.rest.now _ _ (omega arith) refl c.in_ok-put_number.ensures
    (c.split_at.ensures.back ∙ ap (λ n. drop n c.loop-quantity.rest.now) c.size.ensures)
    c.loop-quantity.invariant.0 c.loop-quantity.invariant.1 c.loop-quantity.invariant.2

pub returns-clause-text : goal.returns-clause-text
returns-clause-text c =
    all_numbers c.args.is_scaled c.args.field.now c.quantities_of-quantity-items.result.now c.loop-quantity.quantity-index
    c.loop-quantity.text _ c.loop-quantity.rest.now c.loop-quantity-test.false c.loop-quantity.invariant.0
    ∙ ap (λ qs. c.args.text.now ++ numbers_text c.args.is_scaled c.args.field.now qs c.args.bytes.now) c.quantities_of-quantity-items.ensures

pub returns-clause-rest : goal.returns-clause-rest
returns-clause-rest c =
    all_cut c.args.field.now.entry c.quantities_of-quantity-items.result.now c.loop-quantity.quantity-index c.loop-quantity.rest.now _
    c.loop-quantity-test.false c.loop-quantity.invariant.2
    ∙ (ap (λ qs. drop (numbers_size c.args.field.now.entry qs) c.args.bytes.now) c.quantities_of-quantity-items.ensures
    ∙ ap (λ n. drop n c.args.bytes.now) (field_numbers c.args.field.now c.requires.field))
