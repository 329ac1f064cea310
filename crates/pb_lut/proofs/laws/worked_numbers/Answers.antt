use Rattle.std.proofs.Common.{ℕ, ◌<◌, [], ◌∷◌, refl, inl, inr, arith, codes}
use Rattle.std.specs.Char.{digit_value}
use Rattle.std.proofs.lemmas.List.Elements.{All-cons, All-nil}
use Rattle.pb_lut.specs.Expressions.{Tree, Letter, nots, ands, ors, input_a, input_b, input_c, input_d, only_xor, or_of, only_and, xor_of, only_not, and_of, only_atom, not_of, letter, parens}
use Rattle.pb_lut.proofs.laws.worked_numbers.Goals as goal

plain : Letter → Tree nots
plain y = only_atom (letter y)

alone : Tree ands → Tree ors
alone t = only_xor (only_and t)

pub returns-clause-low_half : goal.returns-clause-low_half
unfolding plain alone
returns-clause-low_half c =
    record { short = omega arith; written = inr (record { tree = alone (only_not (not_of (plain input_a))); written = refl; value = refl }) }

pub returns-clause-quarter : goal.returns-clause-quarter
unfolding plain alone
returns-clause-quarter c =
    record { short = omega arith; written = inr (record { tree = alone (and_of (plain input_a) (only_not (plain input_b))); written = refl; value = refl }) }

pub returns-clause-tilde_first : goal.returns-clause-tilde_first
unfolding plain alone
returns-clause-tilde_first c =
    record { short = omega arith; written = inr (record { tree = alone (and_of (not_of (plain input_a)) (only_not (plain input_b))); written = refl; value = refl }) }

pub returns-clause-tighter_first : goal.returns-clause-tighter_first
unfolding plain alone
returns-clause-tighter_first c =
    let right = xor_of (only_not (plain input_b)) (only_and (and_of (plain input_c) (only_not (not_of (plain input_d))))) in
    record { short = omega arith; written = inr (record { tree = or_of (only_and (only_not (plain input_a))) (only_xor right); written = refl; value = refl }) }

pub returns-clause-brackets_first : goal.returns-clause-brackets_first
unfolding plain alone
returns-clause-brackets_first c =
    let inside = or_of (only_and (only_not (plain input_a))) (alone (only_not (plain input_b))) in
    record { short = omega arith; written = inr (record { tree = alone (and_of (only_atom (parens inside)) (only_not (plain input_c))); written = refl; value = refl }) }

pub returns-clause-digits : goal.returns-clause-digits
returns-clause-digits c =
    let IsDigit : ℕ → Type 0 = λ b. digit_value b < 16 in
    let each = All-cons IsDigit 102 (70 ∷ []) (omega arith) (All-cons IsDigit 70 [] (omega arith) (All-nil IsDigit)) in
    record { short = omega arith; written = inl (record { digits = codes "fF"; written = refl; value = record { some = omega arith; few = omega arith; each = each; value = refl } }) }
