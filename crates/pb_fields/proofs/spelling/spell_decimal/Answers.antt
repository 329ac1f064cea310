use Rattle.std.proofs.Common.{◌<◌, ◌^◌, ℤ, unsigned_abs, subst, sym, arith}
use Rattle.std.specs.Int.{w128}
use Rattle.std.proofs.lemmas.Int.{to_z-of_z, fits_signed_from_abs}
use Rattle.pb_fields.proofs.ValueLimits.{short_value}
use Rattle.pb_fields.proofs.spelling.spell_decimal.Goals as goal

within : (z : ℤ) → unsigned_abs z < 10 ^ 18 → unsigned_abs z < 2 ^ 127
within z h = omega arith

pub raw_of-requires : goal.raw_of-requires
raw_of-requires c =
    let h = c.in-Ok.ensures in
    let v : ℤ = c.in-Ok.value.billionths in
    let P : ℤ → Type 0 = λ z. unsigned_abs z < 10 ^ 18 in
    let short : P v = subst P h.3 (short_value h.0 h.1.grammar h.2) in
    subst P (sym (to_z-of_z w128 v (fits_signed_from_abs w128 v (within v short)))) short
