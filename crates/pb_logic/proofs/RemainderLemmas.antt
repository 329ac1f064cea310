-- Remainders.
use Rattle.std.proofs.Common.{◌≡◌, ℤ}
use Rattle.std.specs.Int.{int_rem_euclid}

-- the remainder of equal numbers
pub same_remainder :
    (a b x y : ℤ) → a ≡ x → b ≡ y → int_rem_euclid a b ≡ int_rem_euclid x y
same_remainder a b x y p q = cc
