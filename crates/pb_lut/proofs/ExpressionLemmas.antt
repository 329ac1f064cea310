-- The number of an expression, bit by bit, and that no text is written by two expressions.
use Rattle.std.proofs.Common.{◌≡◌, ◌+◌, ◌-◌, ◌^◌, ◌<◌, ◌≤◌, min, max, ◌%◌, Bool, true, false, not, ◌&&◌, ◌||◌, eqb, refl, ◌∙◌, arith, lit<}
use Rattle.std.specs.Int.{bit_at, w32}
use Rattle.std.specs.Int.Bits.{and_lt}
use Rattle.std.proofs.lemmas.Bool.{eqb-true}
use Rattle.std.proofs.lemmas.Nat.{or_lt, xor_lt}
use Rattle.std.proofs.lemmas.Nat.Bits.{bit_at_and, bit_at_or, bit_at_xor, bit_at_not}
use Rattle.pb_lut.specs.Expressions.{Level, Letter, input_a, input_b, input_c, input_d, input_e, zero_bit, one_bit, Tree, only_xor, or_of, only_and, xor_of, only_not, and_of, only_atom, not_of, letter, parens, Inputs, letter_value, differ, value, bit, place, letter_number, number}

-- a letter's number has 32 bits
letter_fits : (y : Letter) → letter_number y < 2 ^ 32
letter_fits input_a = lit< tt
letter_fits input_b = lit< tt
letter_fits input_c = lit< tt
letter_fits input_d = lit< tt
letter_fits input_e = lit< tt
letter_fits zero_bit = lit< tt
letter_fits one_bit = lit< tt

-- an expression's number has 32 bits
pub number-lt : {l : Level} → (t : Tree l) → number t < 2 ^ 32
number-lt (only_xor t) = number-lt t
number-lt (or_of s t) = or_lt 32 _ _ (number-lt s) (number-lt t)
number-lt (only_and t) = number-lt t
number-lt (xor_of s t) = xor_lt 32 _ _ (number-lt s) (number-lt t)
number-lt (only_not t) = number-lt t
number-lt (and_of s t) = and_lt 32 _ _ (number-lt s) (number-lt t)
number-lt (only_atom t) = number-lt t
number-lt (not_of t) = omega arith
number-lt (letter y) = letter_fits y
number-lt (parens t) = number-lt t

-- bits of truth values
bit-or : (p q : Bool) → max (bit p) (bit q) ≡ bit (p || q)
bit-or true true = refl
bit-or true false = refl
bit-or false true = refl
bit-or false false = refl

bit-and : (p q : Bool) → min (bit p) (bit q) ≡ bit (p && q)
bit-and true true = refl
bit-and true false = refl
bit-and false true = refl
bit-and false false = refl

bit-differ : (p q : Bool) → (bit p + bit q) % 2 ≡ bit (differ p q)
bit-differ true true = refl
bit-differ true false = refl
bit-differ false true = refl
bit-differ false false = refl

bit-not : (p : Bool) → 1 - bit p ≡ bit (not p)
bit-not true = refl
bit-not false = refl

bit-le : (p : Bool) → bit p ≤ 1
bit-le true = omega arith
bit-le false = omega arith

place-lt : (x : Inputs) → place x < 32
place-lt x = omega (arith, bit-le x.a, bit-le x.b, bit-le x.c, bit-le x.d, bit-le x.e)

-- both are true
and-both : (p q : Bool) → (p && q) ≡ true → (p ≡ true) × (q ≡ true)
and-both true q h = (refl, h)
and-both false q h = absurd (cc)

-- the test passes for both truth values
pub both : (Bool → Bool) → Bool
both test = test true && test false

both-true : (test : Bool → Bool) → both test ≡ true → (p : Bool) → test p ≡ true
unfolding both
both-true test h true = (and-both (test true) (test false) h).0
both-true test h false = (and-both (test true) (test false) h).1

-- the test passes for all 32 states of the inputs
pub at_all : (Inputs → Bool) → Bool
at_all test = both (λ a. both (λ b. both (λ c. both (λ d. both (λ e. test (record { a = a; b = b; c = c; d = d; e = e }))))))

at_all-true : (test : Inputs → Bool) → at_all test ≡ true → (x : Inputs) → test x ≡ true
unfolding at_all
at_all-true test h x =
    let at_a = both-true _ h x.a in
    let at_b = both-true _ at_a x.b in
    let at_c = both-true _ at_b x.c in
    let at_d = both-true _ at_c x.d in
    both-true _ at_d x.e

-- the letter's bit is the letter's value
pub bit_agrees : Letter → Inputs → Bool
bit_agrees y x = eqb (bit_at (letter_number y) (place x)) (bit (letter_value x y))

all_agree : (y : Letter) → at_all (bit_agrees y) ≡ true
unfolding at_all both bit_agrees
all_agree input_a = refl
all_agree input_b = refl
all_agree input_c = refl
all_agree input_d = refl
all_agree input_e = refl
all_agree zero_bit = refl
all_agree one_bit = refl

letter_bit : (x : Inputs) (y : Letter) → bit_at (letter_number y) (place x) ≡ bit (letter_value x y)
unfolding bit_agrees
letter_bit x y = eqb-true _ _ (at_all-true (bit_agrees y) (all_agree y) x)

pub bit_at-number : {l : Level} → (x : Inputs) (t : Tree l) → bit_at (number t) (place x) ≡ bit (value x t)
bit_at-number x (only_xor t) = bit_at-number x t
bit_at-number x (or_of s t) = bit_at_or (number s) (number t) (place x) ∙ (rw (bit_at-number x s, bit_at-number x t) (bit-or (value x s) (value x t)))
bit_at-number x (only_and t) = bit_at-number x t
bit_at-number x (xor_of s t) = bit_at_xor (number s) (number t) (place x) ∙ (rw (bit_at-number x s, bit_at-number x t) (bit-differ (value x s) (value x t)))
bit_at-number x (only_not t) = bit_at-number x t
bit_at-number x (and_of s t) = bit_at_and (number s) (number t) (place x) ∙ (rw (bit_at-number x s, bit_at-number x t) (bit-and (value x s) (value x t)))
bit_at-number x (only_atom t) = bit_at-number x t
bit_at-number x (not_of t) = bit_at_not w32 (number t) (place x) (number-lt t) (place-lt x) ∙ (rw (bit_at-number x t) (bit-not (value x t)))
bit_at-number x (letter y) = letter_bit x y
bit_at-number x (parens t) = bit_at-number x t
