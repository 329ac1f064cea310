-- Digits read one after the other, and the decimal of a number read back.
use Rattle.std.proofs.Common.{◌≡◌, ℕ, ◌+◌, ◌-◌, ◌*◌, ◌/◌, ◌%◌, ◌^◌, ◌<◌, ◌≤◌, List, [], ◌∷◌, ◌++◌, length, get_or, drop, decimal, arith}
use Rattle.std.proofs.lemmas.Fmt.{decimal_by_steps}
use Rattle.std.proofs.lemmas.List.Elements.{All-append, All-cons, All-nil}
use Rattle.std.proofs.lemmas.List.{at_drop_more, at_drop_all, length_push}
use Rattle.pb_words.specs.Numbers.{value_after, IsDigit, WritesNumber}

-- more digits never make the number smaller
pub value_after-ge : (bs : List ℕ) (n : ℕ) → n ≤ value_after n bs
value_after-ge [] n = omega arith
value_after-ge (b ∷ bs) n = omega (arith, value_after-ge bs (10 * n + (b - 48)))

-- one digit further
pub value_after_more : (text : List ℕ) (n i : ℕ) → i < length text → value_after n (drop i text) ≡ value_after (10 * n + (get_or text i 0 - 48)) (drop (i + 1) text)
value_after_more text n i h = at_drop_more (value_after n) text i 0 h

-- no digit is left
pub value_after_all : (text : List ℕ) (n i : ℕ) → length text ≤ i → value_after n (drop i text) ≡ n
value_after_all text n i h = at_drop_all (value_after n) text i h

pub ruleset reading = (value_after-ge, value_after_more, value_after_all)

-- a digit at the end
pub value_after-push : (bs : List ℕ) (n b : ℕ) → value_after n (bs ++ b ∷ []) ≡ 10 * value_after n bs + (b - 48)
value_after-push [] n b = omega arith
value_after-push (d ∷ bs) n b = value_after-push bs (10 * n + (d - 48)) b

-- one digit writes itself
one_digit : (n : ℕ) → n < 10 → WritesNumber ((48 + n) ∷ []) n
one_digit n h =
    record {
      grammar = record { some = omega arith; digits = All-cons IsDigit (48 + n) [] (omega arith, omega arith) (All-nil IsDigit) };
      value = omega arith;
    }

-- one more digit
one_more_digit : (n : ℕ) (text : List ℕ) → 10 ≤ n → WritesNumber text (n / 10) → WritesNumber (text ++ (48 + n % 10) ∷ []) n
one_more_digit n text h w =
    let last : n % 10 < 10 = omega arith in
    record {
      grammar = record {
        some = omega (arith, length_push text (48 + n % 10));
        digits = All-append IsDigit text _ w.grammar.digits (All-cons IsDigit (48 + n % 10) [] (omega arith, omega arith) (All-nil IsDigit));
      };
      value = omega (arith, value_after-push text 0 (48 + n % 10), w.value);
    }

-- a decimal writes its number
pub decimal_writes : (n : ℕ) → n < 2 ^ 64 → WritesNumber (decimal n) n
decimal_writes n h = decimal_by_steps (λ m text. WritesNumber text m) one_digit one_more_digit n h
