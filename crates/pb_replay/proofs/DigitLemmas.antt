-- The number that few digits write.
use Rattle.std.proofs.Common.{◌≡◌, ℕ, zero, suc, ◌+◌, ◌-◌, ◌*◌, ◌<◌, ◌≤◌, List, length, get_or, sym, subst, inl, inr, true, arith}
use Rattle.std.proofs.lemmas.Bool.{cases_lt}
use Rattle.pb_words.specs.Numbers.{IsDigit}
use Rattle.pb_words.specs.Signed.{is_uint}
use Rattle.pb_replay.proofs.FormLemmas.{number_is}

-- the greatest number of so many digits
pub nines : ℕ → ℕ
nines zero = 0
nines (suc i) = 10 * nines i + 9

one_less : (i : ℕ) → nines i ≤ nines (suc i)
unfolding nines
one_less i = omega arith

-- fewer digits write no greater one
pub nines_rise : (j i : ℕ) → i ≤ j → nines i ≤ nines j
nines_rise zero i h = let none : i ≡ 0 = omega (arith, h) in subst (λ k. nines k ≤ nines 0) (sym none) (omega arith)
nines_rise (suc j) i h =
    elim (cases_lt i (suc j)) [
      | inl less ↦ omega (arith, nines_rise j i (omega (arith, less)), one_less j)
      | inr most ↦ (let last : i ≡ suc j = omega (arith, h, most) in subst (λ k. nines k ≤ nines (suc j)) (sym last) (omega arith))
    ]

-- one digit more
pub nines_more : (n i b : ℕ) → n ≤ nines i → b ≤ 57 → 10 * n + (b - 48) ≤ nines (i + 1)
unfolding nines
nines_more n i b h digit =
    let next : i + 1 ≡ suc i = omega arith in
    let most : 10 * n + (b - 48) ≤ 10 * nines i + 9 = omega (arith, h, digit) in
    subst (λ k. 10 * n + (b - 48) ≤ nines k) (sym next) most

-- eighteen of them
pub nines_small : (i : ℕ) → i ≤ 18 → nines i ≤ 999999999999999999
unfolding nines
nines_small i h = omega (arith, nines_rise 18 i h)

-- each byte of a number is a digit
pub digit_at : (text : List ℕ) (i : ℕ) → is_uint text ≡ true → i < length text → IsDigit (get_or text i 0)
digit_at text i h within = (number_is text h).grammar.digits i 0 within
