use Rattle.std.proofs.Common.{◌<◌, arith, sym, ◌∙◌, below_more}
use Rattle.std.proofs.lemmas.List.{get_or_default}
use Rattle.std.proofs.lemmas.Bool.{eqb-false}
use Rattle.pb_lut.proofs.FunctionLemmas.{hex_fits, hex_grows, digits_after_more, digits_after_all}
use Rattle.pb_lut.proofs.functions.read_hex.Goals as goal

pub overflow_mul-n : goal.overflow_mul-n
overflow_mul-n c = omega (arith, hex_fits c.loop-c.n c.loop-c.c-index 0 c.loop-c.invariant.small (omega arith) (omega arith))

pub overflow_add-n : goal.overflow_add-n
overflow_add-n c =
    let small : c.in_ok-n.field-0 < 16 = omega (arith, c.in_ok-n.ensures.0, c.in_ok-n.ensures.1) in
    omega (arith, hex_fits c.loop-c.n c.loop-c.c-index c.in_ok-n.field-0 c.loop-c.invariant.small (omega arith) small)

pub loop-c-preserved : goal.loop-c-preserved
loop-c-preserved c =
    let small : c.in_ok-n.field-0 < 16 = omega (arith, c.in_ok-n.ensures.0, c.in_ok-n.ensures.1) in
    record {
      value = digits_after_more c.args.digits.now c.loop-c.n c.loop-c.c-index c.in_ok-n.field-0 (omega arith) c.in_ok-n.ensures.1 ∙ c.loop-c.invariant.value;
      small = hex_grows c.loop-c.n c.loop-c.c-index c.in_ok-n.field-0 c.loop-c.invariant.small small;
      each = below_more _ _ c.loop-c.invariant.each c.in_ok-n.ensures.0;
    }

pub returns-clause-found : goal.returns-clause-found
returns-clause-found c =
    let digits = c.args.digits.now in
    record {
      some = omega (arith, eqb-false _ _ (sym c.if-is_empty.ensures));
      few = omega arith;
      each = λ k d h. rw (get_or_default digits k d 0 h) (c.loop-c.invariant.each k (omega arith));
      value = sym c.loop-c.invariant.value ∙ digits_after_all digits c.loop-c.n c.loop-c.c-index (omega arith);
    }
