use Rattle.std.proofs.Common.{get_or, sym, arith, ◌∙◌, ap, drop, ◌+◌, ◌*◌, ◌-◌}
use Rattle.pb_words.specs.Numbers.{value_after}
use Rattle.pb_words.proofs.NumberLemmas.{value_after_more}
use Rattle.pb_replay.proofs.DigitLemmas.{digit_at, nines_more, nines_small}
use Rattle.pb_replay.proofs.digits.number.Goals as goal

pub overflow_mul-n : goal.overflow_mul-n
overflow_mul-n c = omega (arith, c.loop-b.invariant.fits, nines_small c.loop-b.b-index (omega (arith, c.loop-b-test.true, c.requires.few)))

pub overflow_add-n : goal.overflow_add-n
overflow_add-n c =
    let digit = digit_at c.args.digits.now c.loop-b.b-index c.requires.digits c.loop-b-test.true in
    omega (arith, c.loop-b.invariant.fits, nines_small c.loop-b.b-index (omega (arith, c.loop-b-test.true, c.requires.few)), digit.1, c.from.ensures)

pub loop-b-preserved : goal.loop-b-preserved
loop-b-preserved c =
    let text = c.args.digits.now in
    let digit = digit_at text c.loop-b.b-index c.requires.digits c.loop-b-test.true in
    record {
      read =
          ap (λ d. value_after (10 * c.loop-b.n + d) (drop (c.loop-b.b-index + 1) text)) c.from.ensures
          ∙ sym (value_after_more text c.loop-b.n c.loop-b.b-index c.loop-b-test.true) ∙ c.loop-b.invariant.read;
      fits = omega (arith, c.from.ensures, nines_more c.loop-b.n c.loop-b.b-index (get_or text c.loop-b.b-index 0) c.loop-b.invariant.fits digit.1);
    }

pub returns-clause-small : goal.returns-clause-small
returns-clause-small c = omega (arith, c.loop-b.invariant.fits, nines_small c.loop-b.b-index (omega (arith, c.loop-b.auto.b-index-end, c.requires.few)))
