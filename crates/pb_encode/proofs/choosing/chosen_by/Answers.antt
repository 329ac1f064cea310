use Rattle.std.proofs.Common.{◌≡◌, length, sym, ◌∙◌, Ok, Err, arith}
use Rattle.std.proofs.lemmas.Bool.Decides.{nat_tests}
use Rattle.pb_encode.proofs.ChoosingLemmas.{one_word, nothing_left}
use Rattle.pb_encode.proofs.choosing.chosen_by.Goals as goal

pub returns-in-Err : goal.returns-in-Err
returns-in-Err c =
    sym (one_word c.loop-rest.chosen c.loop-rest.rest.now c.cut_word.result.0.now c.cut_word.result.1.now (Err c.in-Err.refusal)
    c.cut_word.ensures.word c.cut_word.ensures.others (sym c.in-Err.is ∙ c.after.ensures))
    ∙ c.loop-rest.invariant

pub loop-rest-preserved : goal.loop-rest-preserved
loop-rest-preserved c =
    sym (one_word c.loop-rest.chosen c.loop-rest.rest.now c.cut_word.result.0.now c.cut_word.result.1.now (Ok c.in-Ok.next)
    c.cut_word.ensures.word c.cut_word.ensures.others (sym c.in-Ok.is ∙ c.after.ensures))
    ∙ c.loop-rest.invariant

pub returns : goal.returns
returns c =
    let none : length c.loop-rest.rest.now ≡ 0 = grind (arith, nat_tests, c.is_empty.ensures, c.loop-rest-test.false) in
    sym (nothing_left c.loop-rest.chosen c.loop-rest.rest.now none) ∙ c.loop-rest.invariant
