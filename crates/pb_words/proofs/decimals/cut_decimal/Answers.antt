use Rattle.pb_words.proofs.DecimalLemmas.{none_by_places, none_by_length}
use Rattle.pb_words.proofs.decimals.cut_decimal.Goals as goal
use Rattle.pb_words.proofs.decimals.cut_decimal.Goals.{in_default-via-in-Some+else-whole-places-gt0, in_default-via-in_default}

pub returns-in_default-clause-none : goal.returns-in_default-clause-none
returns-in_default-clause-none c =
    elim c.in_default.branch [
      | in_default-via-in-Some+else-whole-places-gt0 w ↦ none_by_length c.args.text.now c.cut_sign-sign.result.1.now c.cut_digits.result.0.now c.cut_digits.result.1.now c.cut_sign-sign.result.0 c.cut_sign-sign.ensures.only c.cut_digits.ensures.cut c.cut_digits.ensures.digits c.cut_digits.ensures.end w.in-Some.places.now (w.in-Some.ensures).found w.if-whole-places-gt0.false
      | in_default-via-in_default w ↦ none_by_places c.args.text.now c.cut_sign-sign.result.1.now c.cut_digits.result.0.now c.cut_digits.result.1.now c.cut_sign-sign.result.0 c.cut_sign-sign.ensures.only c.cut_digits.ensures.cut c.cut_digits.ensures.digits c.cut_digits.ensures.end (w.in_default.ensures).none
    ]
