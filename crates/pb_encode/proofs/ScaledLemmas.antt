-- A number of 64 bits times a scale.
use Rattle.std.proofs.Common.{◌<◌, ◌≤◌, ◌*◌, ◌^◌, ℤ, pos, negsuc, ◌*ℤ◌, FitsSigned, unsigned_abs, sym, subst, arith}
use Rattle.std.proofs.lemmas.Int.{unsigned_abs-mul}
use Rattle.std.proofs.lemmas.Nat.{mul-le}
use Rattle.std.specs.Int.{w64}

abs_within : (z : ℤ) → FitsSigned w64 z → unsigned_abs z ≤ 2 ^ 63
abs_within (pos n) f = omega (arith, f.sfits)
abs_within (negsuc n) f = omega (arith, f.sfits)

pub product_range : (value scale : ℤ) → FitsSigned w64 value → unsigned_abs scale < 10 ^ 18 → unsigned_abs (value *ℤ scale) ≤ 2 ^ 63 * 10 ^ 18
product_range value scale fits small =
    subst (λ n. n ≤ 2 ^ 63 * 10 ^ 18) (sym (unsigned_abs-mul value scale))
    (mul-le (unsigned_abs value) (unsigned_abs scale) (2 ^ 63) (10 ^ 18) (abs_within value fits) (omega (arith, small)))
