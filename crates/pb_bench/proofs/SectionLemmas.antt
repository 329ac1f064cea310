-- Sections that are written are read back, one after the other.
use Rattle.std.proofs.Common.{◌≡◌, ℕ, zero, suc, ◌+◌, ◌-◌, ◌<◌, ◌≤◌, ◌^◌, List, [], ◌∷◌, ◌++◌, length, take, drop, All, map, flat_map, decimal, refl, ap, sym, ◌∙◌, arith, append_assoc, length-append}
use Rattle.std.proofs.Math.Seq.{take-append_seam, drop-append_seam}
use Rattle.std.proofs.lemmas.List.Concat.{flat_map-cons}
use Rattle.std.proofs.lemmas.List.Elements.{All-head, All-tail}
use Rattle.std.proofs.lemmas.List.Sums.{sum_by-cons}
use Rattle.pb_words.specs.Numbers.{value_of}
use Rattle.pb_words.specs.Cuts.{BeginsNoDigit}
use Rattle.pb_words.specs.Decimals.{digits_in}
use Rattle.pb_words.proofs.NumberLemmas.{decimal_writes}
use Rattle.pb_bench.specs.Sections.{Section, Written, IsWritten, text_of, section_of, behind_number, first_of, letter_in, size_text, size_in, behind_line, first_section, behind_section, first_sections, sections_in}
use Rattle.pb_bench.specs.Tally.{counted, data_size, data_bytes}
use Rattle.pb_bench.proofs.CuttingLemmas.{digits_of, behind_of}

-- a number in front of a byte that is no digit
number_behind : (n b : ℕ) (rest : List ℕ) → n < 2 ^ 64 → BeginsNoDigit (b ∷ rest) → behind_number (decimal n ++ b ∷ rest) ≡ rest
number_behind n b rest h end =
    ap (drop 1) (behind_of (decimal n ++ b ∷ rest) (decimal n) (b ∷ rest) refl (decimal_writes n h).grammar.digits end)

number_in_front : (n b : ℕ) (rest : List ℕ) → n < 2 ^ 64 → BeginsNoDigit (b ∷ rest) → value_of (digits_in (decimal n ++ b ∷ rest)) ≡ n
number_in_front n b rest h end =
    ap value_of (digits_of (decimal n ++ b ∷ rest) (decimal n) (b ∷ rest) refl (decimal_writes n h).grammar.digits end) ∙ (decimal_writes n h).value

space_ends : (rest : List ℕ) → BeginsNoDigit (32 ∷ rest)
space_ends rest = λ h. omega (arith, h.0)

newline_ends : (rest : List ℕ) → BeginsNoDigit (10 ∷ rest)
newline_ends rest = λ h. omega (arith, h.0)

-- a section in front of more
module _ (s : Written) (more : List ℕ) (is : IsWritten s) where
  behind : List ℕ
  behind = s.answer ++ more

  sized : List ℕ
  sized = decimal (length s.answer) ++ 10 ∷ behind

  lettered : List ℕ
  lettered = s.letter ∷ 32 ∷ (decimal s.session ++ 32 ∷ sized)

  whole : text_of s ++ more ≡ decimal s.tick ++ 32 ∷ lettered
  unfolding behind sized lettered
  whole =
      append_assoc (decimal s.tick) (32 ∷ s.letter ∷ 32 ∷ (decimal s.session ++ 32 ∷ (decimal (length s.answer) ++ 10 ∷ s.answer))) more
      ∙ ap (λ t. decimal s.tick ++ 32 ∷ s.letter ∷ 32 ∷ t)
      (append_assoc (decimal s.session) (32 ∷ (decimal (length s.answer) ++ 10 ∷ s.answer)) more
      ∙ ap (λ t. decimal s.session ++ 32 ∷ t) (append_assoc (decimal (length s.answer)) (10 ∷ s.answer) more))

  at_letter : behind_number (text_of s ++ more) ≡ lettered
  at_letter = ap behind_number whole ∙ number_behind s.tick 32 lettered is.tick (space_ends lettered)

  at_size : size_text (text_of s ++ more) ≡ sized
  unfolding lettered
  at_size = ap (λ t. behind_number (drop 2 t)) at_letter ∙ number_behind s.session 32 sized is.session (space_ends sized)

  size : size_in (text_of s ++ more) ≡ length s.answer
  unfolding sized
  size = ap (λ t. value_of (digits_in t)) at_size ∙ number_in_front (length s.answer) 10 behind is.size (newline_ends behind)

  at_answer : behind_line (text_of s ++ more) ≡ behind
  unfolding sized
  at_answer = ap behind_number at_size ∙ number_behind (length s.answer) 10 behind is.size (newline_ends behind)

  section_from : ℕ → List ℕ → Section
  section_from letter answer = record { letter = letter; answer = answer }

  section_first : first_section (text_of s ++ more) ≡ section_of s
  unfolding behind lettered section_from
  section_first =
      let letter : letter_in (text_of s ++ more) ≡ s.letter = ap first_of at_letter in
      let answer : take (size_in (text_of s ++ more)) (behind_line (text_of s ++ more)) ≡ s.answer =
      ap (λ n. take n (behind_line (text_of s ++ more))) size ∙ ap (take (length s.answer)) at_answer ∙ take-append_seam s.answer more in
      ap (λ l. section_from l (take (size_in (text_of s ++ more)) (behind_line (text_of s ++ more)))) letter ∙ ap (section_from s.letter) answer

  more_behind : behind_section (text_of s ++ more) ≡ more
  unfolding behind
  more_behind =
      ap (λ n. drop n (behind_line (text_of s ++ more))) size ∙ ap (drop (length s.answer)) at_answer ∙ drop-append_seam s.answer more

  some_text : 0 < length (text_of s ++ more)
  some_text = omega (arith, ap length whole, length-append (decimal s.tick) (32 ∷ lettered))

  shorter : length more < length (text_of s ++ more)
  shorter = omega (arith, length-append (text_of s) more, length-append (decimal s.tick) (32 ∷ s.letter ∷ 32 ∷ (decimal s.session ++ 32 ∷ (decimal (length s.answer) ++ 10 ∷ s.answer))))

-- one section and the rest
pub sections_more : (n : ℕ) (text : List ℕ) → 0 < n → 0 < length text → first_sections n text ≡ first_section text ∷ first_sections (n - 1) (behind_section text)
sections_more zero text some h = absurd (omega (arith, some))
sections_more (suc n) [] some h = absurd (omega (arith, h))
sections_more (suc n) (b ∷ bs) some h =
    let one : n ≡ suc n - 1 = omega arith in
    ap (λ m. first_section (b ∷ bs) ∷ first_sections m (behind_section (b ∷ bs))) one

pub sections_none : (n : ℕ) → first_sections n [] ≡ []
sections_none zero = refl
sections_none (suc n) = refl

pub no_sections : (text : List ℕ) → first_sections 0 text ≡ []
no_sections text = refl

first_of_many : (n : ℕ) (written : List Written) → All IsWritten written → length (flat_map text_of written) ≤ n → first_sections n (flat_map text_of written) ≡ map section_of written
first_of_many n [] all h = sections_none n
first_of_many n (s ∷ more) all h =
    let is = All-head IsWritten s more all in
    let rest = flat_map text_of more in
    let cons : flat_map text_of (s ∷ more) ≡ text_of s ++ rest = flat_map-cons text_of s more in
    let size : length (flat_map text_of (s ∷ more)) ≡ length (text_of s ++ rest) = ap length cons in
    let short : length rest < length (text_of s ++ rest) = shorter s rest is in
    ap (first_sections n) cons
    ∙ (sections_more n (text_of s ++ rest) (omega (arith, h, size, short)) (omega (arith, short))
    ∙ (ap (λ x. x ∷ first_sections (n - 1) (behind_section (text_of s ++ rest))) (section_first s rest is)
    ∙ (ap (λ t. section_of s ∷ first_sections (n - 1) t) (more_behind s rest is)
    ∙ ap (λ ts. section_of s ∷ ts) (first_of_many (n - 1) more (All-tail IsWritten s more all) (omega (arith, h, size, short))))))

pub read_back : (written : List Written) → All IsWritten written → sections_in (flat_map text_of written) ≡ map section_of written
read_back written all = first_of_many (length (flat_map text_of written)) written all (omega arith)

-- The bytes of one section and of the rest.
pub bytes_more : (total n : ℕ) (text : List ℕ) → 0 < n → 0 < length text → total + data_bytes (first_sections n text) ≡ (total + data_size (first_section text)) + data_bytes (first_sections (n - 1) (behind_section text))
bytes_more total n text some h =
    let more = ap data_bytes (sections_more n text some h) ∙ sum_by-cons data_size (first_section text) (first_sections (n - 1) (behind_section text)) in
    omega (arith, more)

pub no_bytes : (n : ℕ) (text : List ℕ) → length text ≡ 0 → data_bytes (first_sections n text) ≡ 0
no_bytes n [] h = ap data_bytes (sections_none n)
no_bytes n (b ∷ bs) h = absurd (omega (arith, h))

pub bytes_stepped : (sum total count all i letter : ℕ) (text answer more : List ℕ) → total + data_bytes (first_sections (all - i) text) ≡ sum → i < all → 0 < length text → letter ≡ letter_in text → answer ≡ take (size_in text) (behind_line text) → more ≡ behind_section text → count ≡ counted letter (length answer) → total + count + data_bytes (first_sections (all - (i + 1)) more) ≡ sum
bytes_stepped sum total count all i letter text answer more so_far room some at front behind counts =
    let next : all - i - 1 ≡ all - (i + 1) = omega arith in
    let one : count ≡ data_size (first_section text) =
    counts ∙ (ap (λ l. counted l (length answer)) at ∙ ap (λ a. counted (letter_in text) (length a)) front) in
    let left : data_bytes (first_sections (all - (i + 1)) more) ≡ data_bytes (first_sections (all - i - 1) (behind_section text)) =
    ap (λ m. data_bytes (first_sections (all - (i + 1)) m)) behind ∙ sym (ap (λ k. data_bytes (first_sections k (behind_section text))) next) in
    omega (arith, so_far, one, left, bytes_more total (all - i) text (omega (arith, room)) some)
