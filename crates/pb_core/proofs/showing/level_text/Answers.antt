use Rattle.std.proofs.Common.{Bool, sym, ap, ◌∙◌, arith}
use Rattle.std.proofs.lemmas.Fmt.{decimal_digit}
use Rattle.pb_fields.specs.declared.FieldKind.TheVariants as kinds
use Rattle.pb_fields.specs.Values.{shown, bit_raw}
use Rattle.pb_core.proofs.showing.level_text.Goals as goal

pub returns-then-level-clause-shown : goal.returns-then-level-clause-shown
returns-then-level-clause-shown c = sym (decimal_digit 1 (omega arith)) ∙ ap (λ (level : Bool). shown kinds.Bit (bit_raw level)) (sym c.if-level.true)

pub returns-else-level-clause-shown : goal.returns-else-level-clause-shown
returns-else-level-clause-shown c = sym (decimal_digit 0 (omega arith)) ∙ ap (λ (level : Bool). shown kinds.Bit (bit_raw level)) (sym c.if-level.false)
