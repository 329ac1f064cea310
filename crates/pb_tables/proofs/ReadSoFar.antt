-- What has been read of a body of numbers.
use Rattle.std.proofs.Common.{◌≡◌, ℕ, ◌+◌, ◌-◌, ◌<◌, ◌≤◌, ◌^◌, Bool, true, false, List, [], ◌∷◌, ◌++◌, length, get_or, map, All, Err, Ok, refl, sym, ap, subst, ◌∙◌, append_assoc, append-nil, arith}
use Rattle.std.proofs.lemmas.List.{length-append, get_or_append_left, map-append}
use Rattle.std.proofs.lemmas.List.Elements.{All-append, All-tail, All-weaker, All-push}
use Rattle.std.proofs.lemmas.Bool.Decides.{nat_tests}
use Rattle.pb_words.specs.Numbers.{IsDigit, IsUint, value_of, ReadsUint}
use Rattle.pb_words.specs.declared.numbers.NumFault.{NumFault}
use Rattle.pb_words.specs.declared.numbers.NumFault.TheVariants as faults
use Rattle.pb_tables.specs.declared.drafts.Draft.{Draft}
use Rattle.pb_tables.specs.Bodies.{is_blank, IsGap, Leads, Writes, AreWords}
use Rattle.pb_tables.specs.Scanning.{IsNumeral}
use Rattle.pb_tables.specs.Held.{Holds, IsRead}

-- These numbers stand before the rest of the body. Where all are words they are held.
pub record AreRead (body rest : List ℕ) (draft : Draft) (fits : Bool) : Type 0 where
  pub numbers : List (List ℕ)
  pub front : (more : List (List ℕ)) → Writes more rest → Writes (numbers ++ more) body
  pub numerals : All IsNumeral rest
  pub held : fits ≡ true → Holds draft (map value_of numbers)
  pub words : fits ≡ true → AreWords (map value_of numbers)
  pub large : fits ≡ false → AreWords (map value_of numbers) → ⊥
  pub counted : draft.count + length rest ≤ length body

-- what is left is shorter
pub behind_shorter : (digits behind rest : List ℕ) → Leads digits behind rest → length behind + 1 ≤ length rest
behind_shorter digits behind rest h =
    omega (arith, h.number.some, ap length h.printed, length-append h.gap (digits ++ behind), length-append digits behind)

-- each part of a body of numerals is one
All-behind : (xs ys : List ℕ) → All IsNumeral (xs ++ ys) → All IsNumeral ys
All-behind [] ys h = h
All-behind (x ∷ xs) ys h = All-behind xs ys (All-tail IsNumeral x (xs ++ ys) h)

pub behind_numerals : (digits behind rest : List ℕ) → Leads digits behind rest → All IsNumeral rest → All IsNumeral behind
behind_numerals digits behind rest h numerals =
    let whole : All IsNumeral (h.gap ++ (digits ++ behind)) = subst (All IsNumeral) h.printed numerals in
    All-behind digits behind (All-behind h.gap (digits ++ behind) whole)

-- one more number stands in front
front_more : (body rest digits behind : List ℕ) (numbers : List (List ℕ))
    → ((more : List (List ℕ)) → Writes more rest → Writes (numbers ++ more) body) → Leads digits behind rest
    → (more : List (List ℕ)) → Writes more behind → Writes ((numbers ++ digits ∷ []) ++ more) body
front_more body rest digits behind numbers front leads more written =
    let all : Writes (numbers ++ (digits ∷ more)) body = front (digits ∷ more) (behind, leads, written) in
    subst (λ texts. Writes texts body) (sym (append_assoc numbers (digits ∷ []) more)) all

values_push : (numbers : List (List ℕ)) (digits : List ℕ) → map value_of (numbers ++ digits ∷ []) ≡ map value_of numbers ++ value_of digits ∷ []
values_push numbers digits = map-append value_of numbers (digits ∷ [])

-- the front of words, and the last of them
All-front : (xs ys : List ℕ) → AreWords (xs ++ ys) → AreWords xs
All-front xs ys h k d within =
    let same = get_or_append_left xs ys d k within in
    let long : k < length (xs ++ ys) = omega (arith, length-append xs ys) in
    let w : get_or (xs ++ ys) k d < 2 ^ 32 = h k d long in
    rw same at w

All-last : (xs : List ℕ) (y : ℕ) → AreWords (xs ++ y ∷ []) → y < 2 ^ 32
All-last [] y h = h 0 0 (omega arith)
All-last (x ∷ xs) y h = All-last xs y (All-tail (λ word. word < 2 ^ 32) x (xs ++ y ∷ []) h)

-- a number that can't be read as a word is above all words
too_large : (digits : List ℕ) (fault : NumFault) → IsUint digits → ReadsUint (2 ^ 32 - 1) digits (Err fault) → value_of digits < 2 ^ 32 → ⊥
too_large digits faults.Malformed number is small = is number
too_large digits faults.TooLarge number is small = omega (arith, is.1)

blank_numeral : (b : ℕ) → is_blank b ≡ true → IsNumeral b
blank_numeral b h = grind (arith, nat_tests)

digit_numeral : (b : ℕ) → IsDigit b → IsNumeral b
digit_numeral b h = grind (arith, nat_tests)

-- one more word
pub word_read : (body rest digits behind : List ℕ) (old new : Draft) (fits : Bool) (word : ℕ) → AreRead body rest old fits → Leads digits behind rest
    → ReadsUint (2 ^ 32 - 1) digits (Ok word) → new.count ≡ old.count + 1
    → ((words : List ℕ) → Holds old words → Holds new (words ++ word ∷ []))
    → AreRead body behind new fits
word_read body rest digits behind old new fits word read leads is count push =
    let shorter = behind_shorter digits behind rest leads in
    let value : value_of digits ≡ word = is.0.value in
    let all : map value_of (read.numbers ++ digits ∷ []) ≡ map value_of read.numbers ++ word ∷ [] = values_push read.numbers digits ∙ ap (λ w. map value_of read.numbers ++ w ∷ []) value in
    let small : word < 2 ^ 32 = omega (arith, is.1) in
    record {
      numbers = read.numbers ++ digits ∷ [];
      front = front_more body rest digits behind read.numbers read.front leads;
      numerals = behind_numerals digits behind rest leads read.numerals;
      held = λ e. rw all (push (map value_of read.numbers) (read.held e));
      words = λ e. subst AreWords (sym all) (All-push (λ w. w < 2 ^ 32) (map value_of read.numbers) word (read.words e) small);
      large = λ e h. read.large e (All-front (map value_of read.numbers) (word ∷ []) (subst AreWords all h));
      counted = omega (arith, read.counted);
    }

-- one more number that is too large for a word
pub large_read : (body rest digits behind : List ℕ) (draft : Draft) (fits : Bool) (fault : NumFault) → AreRead body rest draft fits → Leads digits behind rest
    → ReadsUint (2 ^ 32 - 1) digits (Err fault) → AreRead body behind draft false
large_read body rest digits behind draft fits fault read leads is =
    let shorter = behind_shorter digits behind rest leads in
    record {
      numbers = read.numbers ++ digits ∷ [];
      front = front_more body rest digits behind read.numbers read.front leads;
      numerals = behind_numerals digits behind rest leads read.numerals;
      held = λ e. cc;
      words = λ e. cc;
      large = λ e h. too_large digits fault leads.number is
          (All-last (map value_of read.numbers) (value_of digits) (subst AreWords (values_push read.numbers digits) h));
      counted = omega (arith, read.counted);
    }

-- all is read
pub all_read : (body rest : List ℕ) (draft : Draft) → AreRead body rest draft true → IsGap rest → IsRead false body draft
all_read body rest draft read gap =
    let whole : Writes read.numbers body = subst (λ texts. Writes texts body) (append-nil read.numbers) (read.front [] gap) in
    record {
      words = map value_of read.numbers;
      said = (read.numbers, whole, refl, read.words refl);
      held = read.held refl;
    }

-- all is read, and some number is too large
pub large_found : (body rest : List ℕ) (draft : Draft) → AreRead body rest draft false → IsGap rest
    → (numbers : List (List ℕ)) × Writes numbers body × (AreWords (map value_of numbers) → ⊥)
large_found body rest draft read gap =
    (read.numbers, subst (λ texts. Writes texts body) (append-nil read.numbers) (read.front [] gap), read.large refl)

-- a gap, digits and what follows are numerals
pub written_numerals : (numbers : List (List ℕ)) (body : List ℕ) → Writes numbers body → All IsNumeral body
written_numerals [] body gap = All-weaker (λ b. is_blank b ≡ true) IsNumeral blank_numeral body gap
written_numerals (digits ∷ numbers) body (rest, leads, written) =
    let gap = All-weaker (λ b. is_blank b ≡ true) IsNumeral blank_numeral leads.gap leads.blank in
    let number = All-weaker IsDigit IsNumeral digit_numeral digits leads.number.digits in
    subst (All IsNumeral) (sym leads.printed)
    (All-append IsNumeral leads.gap (digits ++ rest) gap (All-append IsNumeral digits rest number (written_numerals numbers rest written)))
