-- Digits are cut off in one way, and a text is cut at most at its end.
use Rattle.std.proofs.Common.{◌≡◌, ℕ, ◌<◌, ◌≤◌, not, nat_le, List, [], ◌∷◌, ◌++◌, length, take, drop, All, refl, sym, ◌∙◌, inl, inr, arith}
use Rattle.std.proofs.Math.Seq.{take-append_seam, drop-append_seam}
use Rattle.std.specs.Bool.{Decides}
use Rattle.std.specs.List.{position_or_len}
use Rattle.std.proofs.lemmas.Bool.{cases_lt, false_from_ne_true, leb-true, le-leb}
use Rattle.std.proofs.lemmas.Bool.Decides.{Decides-and}
use Rattle.std.proofs.lemmas.List.{take_all, drop_all}
use Rattle.std.proofs.lemmas.List.Elements.{All-head, All-tail}
use Rattle.pb_words.specs.Numbers.{IsDigit}
use Rattle.pb_words.specs.Signed.{is_digit}
use Rattle.pb_words.specs.Cuts.{BeginsNoDigit}
use Rattle.pb_words.specs.Decimals.{digits_in, behind_digits}

digit_decides : (b : ℕ) → Decides (is_digit b) (IsDigit b)
digit_decides b =
    Decides-and (nat_le 48 b) (nat_le b 57) (leb-true 48 b, le-leb 48 b) (leb-true b 57, le-leb b 57)

-- as many bytes as there are digits in front
front_length : (whole rest : List ℕ) → All IsDigit whole → BeginsNoDigit rest → position_or_len (λ b. not (is_digit b)) (whole ++ rest) ≡ length whole
front_length [] [] a h = refl
front_length [] (b ∷ rest) a h =
    rw (false_from_ne_true (is_digit b) (λ t. h ((digit_decides b).0 t))) refl
front_length (b ∷ whole) rest a h =
    rw ((digit_decides b).1 (All-head IsDigit b whole a))
    (omega (arith, front_length whole rest (All-tail IsDigit b whole a) h))

-- the digits in front of a text, and what follows them
pub digits_of : (text whole rest : List ℕ) → text ≡ whole ++ rest → All IsDigit whole → BeginsNoDigit rest → digits_in text ≡ whole
digits_of text whole rest e a h =
    rw e (rw (front_length whole rest a h) (take-append_seam whole rest))

pub behind_of : (text whole rest : List ℕ) → text ≡ whole ++ rest → All IsDigit whole → BeginsNoDigit rest → behind_digits text ≡ rest
behind_of text whole rest e a h =
    rw e (rw (front_length whole rest a h) (drop-append_seam whole rest))

-- a text is cut at its end where it is shorter
pub take_within : (text : List ℕ) (n m : ℕ) → (n < length text → m ≡ n) → (length text ≤ n → m ≡ length text) → take m text ≡ take n text
take_within text n m near far =
    elim (cases_lt n (length text)) [
      | inl short ↦ rw (near short) refl
      | inr long ↦ rw (far long) (take_all (length text) text (omega arith) ∙ sym (take_all n text long))
    ]

pub drop_within : (text : List ℕ) (n m : ℕ) → (n < length text → m ≡ n) → (length text ≤ n → m ≡ length text) → drop m text ≡ drop n text
drop_within text n m near far =
    elim (cases_lt n (length text)) [
      | inl short ↦ rw (near short) refl
      | inr long ↦ rw (far long) (drop_all (length text) text (omega arith) ∙ sym (drop_all n text long))
    ]
