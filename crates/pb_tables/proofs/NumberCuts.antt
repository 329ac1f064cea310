-- Where the first number of a body begins and ends.
use Rattle.std.proofs.Common.{◌≡◌, ℕ, ◌+◌, ◌-◌, ◌<◌, ◌≤◌, Bool, true, false, List, ◌∷◌, ◌++◌, length, get_or, take, drop, All, Some, None, sym, ap, ◌∙◌, inl, inr, arith}
use Rattle.std.proofs.lemmas.List.{drop_more, get_or-take, get_or-drop, length-take-le, length-drop, take-append-drop}
use Rattle.std.proofs.lemmas.List.Elements.{All-from_get_or, All-get_or}
use Rattle.std.proofs.lemmas.List.Quantifiers.{position-Some}
use Rattle.std.proofs.lemmas.List.Sums.{fails_before_first}
use Rattle.std.proofs.lemmas.Bool.{cases_lt}
use Rattle.std.proofs.lemmas.Bool.Decides.{nat_tests}
use Rattle.std.specs.List.{position, position_or_len}
use Rattle.pb_words.specs.Numbers.{IsDigit}
use Rattle.pb_tables.specs.Bodies.{is_blank, IsGap, IsApart, Leads}
use Rattle.pb_words.specs.Signed.{is_digit}
use Rattle.pb_tables.specs.Scanning.{IsNumeral, IsEnd}

-- where no element passes
position_none : (p : ℕ → Bool) (xs : List ℕ) → position p xs ≡ None → (k : ℕ) → k < length xs → p (get_or xs k 0) ≡ false
position_none p xs none k within = elim (cases_lt (position_or_len p xs) (length xs)) [
  | inl lt ↦ let some : position p xs ≡ Some (position_or_len p xs) = grind (arith, nat_tests) in cc
  | inr ge ↦ fails_before_first p xs k 0 (omega arith)
]

-- a numeral that is no digit is a blank, and the other way round
digit_or_blank : (b : ℕ) → IsNumeral b → is_digit b ≡ false → is_blank b ≡ true
digit_or_blank b h other = rw other at h

pub blank_or_digit : (b : ℕ) → IsNumeral b → is_blank b ≡ false → IsDigit b
blank_or_digit b h other = grind (arith, nat_tests)

digit_no_blank : (b : ℕ) → is_digit b ≡ true → is_blank b ≡ true → ⊥
digit_no_blank b digit blank = grind (arith, nat_tests)

-- only blanks are left
pub only_blanks : (body : List ℕ) → All IsNumeral body → position is_digit body ≡ None → IsGap body
only_blanks body numerals none =
    All-from_get_or (λ b. is_blank b ≡ true) body 0
    (λ k within. digit_or_blank (get_or body k 0) (All-get_or IsNumeral body k 0 within numerals) (position_none is_digit body none k within))

-- what is apart doesn't begin with a digit
apart_first : (xs : List ℕ) (b : ℕ) (bs : List ℕ) → xs ≡ b ∷ bs → IsApart xs → is_blank b ≡ true
apart_first xs b bs e h = rw e at h

-- the first number, between its gap and what follows
pub leads : (body : List ℕ) (start end : ℕ) → All IsNumeral body → position is_digit body ≡ Some start → IsEnd (drop start body) end
    → Leads (take end (drop start body)) (drop end (drop start body)) body
leads body start end numerals found h =
    let at = position-Some is_digit body start 0 found in
    let len : length (drop start body) ≡ length body - start = length-drop start body in
    let below : end ≤ length body - start = omega (arith, h.within) in
    let first : drop start body ≡ get_or body start 0 ∷ drop (start + 1) body = drop_more body start 0 at.0 in
    let size : length (take end (drop start body)) ≡ end = length-take-le end (drop start body) h.within in
    let some : 0 < end = elim (cases_lt 0 end) [
      | inl lt ↦ lt
      | inr ge ↦
          let zero_end : end ≡ 0 = omega arith in
          let apart : IsApart (drop start body) = rw zero_end at h.apart in
          absurd (digit_no_blank (get_or body start 0) at.1 (apart_first (drop start body) _ _ first apart))
    ] in
    record {
      gap = take start body;
      blank = All-from_get_or (λ b. is_blank b ≡ true) (take start body) 0
          (λ k within. let small : k < start = let l = length-take-le start body (omega arith) in omega arith in
          let same = get_or-take start body k 0 small in
          rw same (digit_or_blank (get_or body k 0) (All-get_or IsNumeral body k 0 (omega arith) numerals) (at.2 k small)));
      number = record {
        some = omega arith;
        digits = All-from_get_or IsDigit (take end (drop start body)) 0
            (λ k within. let small : k < end = omega arith in
            let taken = get_or-take end (drop start body) k 0 small in
            let moved = get_or-drop start body k 0 in
            let open_ = h.before k small in
            rw taken (rw moved (blank_or_digit (get_or body (start + k) 0) (All-get_or IsNumeral body (start + k) 0 (omega arith) numerals) (rw moved at open_))));
      };
      apart = h.apart;
      printed = sym (ap (λ rest. take start body ++ rest) (take-append-drop end (drop start body)) ∙ take-append-drop start body);
    }
