use Rattle.std.proofs.Common.{◌≡◌, true, sym, ap, ◌∙◌, rules, FitsSigned}
use Rattle.std.specs.Int.{w32}
use Rattle.std.proofs.lemmas.Int.{to_z-of_z}
use Rattle.pb_stim.specs.Texts.{signed_value}
use Rattle.pb_stim.specs.Faults.{fits_input}
use Rattle.pb_stim.proofs.InputLemmas.{input_name_is, low_level}
use Rattle.pb_stim.proofs.ValueLemmas.{value_read, value_not_read, unfit, cause_unfit, cause_none}
use Rattle.pb_stim.proofs.checking.read_level.Goals as goal

pub returns-in_default-read_i32 : goal.returns-in_default-read_i32
returns-in_default-read_i32 c =
    cause_unfit c.args.target.now c.in-Some.input (signed_value c.args.value.now) (sym c.in-Some.ensures.named)
    (unfit c.in-Some.input (signed_value c.args.value.now) (value_not_read c.args.value.now c.in_default-read_i32.field-0 c.requires c.in_default-read_i32.ensures))

pub returns-then-may_have : goal.returns-then-may_have
returns-then-may_have c =
    let fits : FitsSigned w32 c.in-Ok.value = search rules in
    let same = to_z-of_z w32 c.in-Ok.value fits in
    let is : c.in-Ok.value ≡ signed_value c.args.value.now = value_read c.args.value.now c.in-Ok.value c.requires c.in-Ok.ensures in
    let name = input_name_is c.args.target.now c.in-Some.input (sym c.in-Some.ensures.named) in
    let ok : fits_input c.in-Some.input c.in-Ok.value ≡ true = sym (rw same at c.if-may_have.ensures) in
    let right : fits_input c.in-Some.input (signed_value c.args.value.now) ≡ true = ap (fits_input c.in-Some.input) (sym is) ∙ ok in
    rw same (
      name,
      is,
      c.in-Some.ensures.within,
      (λ low. low_level c.in-Some.input c.in-Ok.value ok low),
      cause_none c.args.target.now c.in-Some.input (signed_value c.args.value.now) (sym c.in-Some.ensures.named) right,
    )
