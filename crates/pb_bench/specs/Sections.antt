-- The sections of an output: the answers that were written, one behind the other. In front of each stands a head line with the tick, the
-- letter of the port, the number of the session and the number of the answer's bytes: `50 D 2 12`.
use Rattle.std.specs.Prelude.{ℕ, zero, suc, ◌<◌, ◌^◌, List, [], ◌∷◌, ◌++◌, length, take, drop, decimal}
use Rattle.pb_words.specs.Numbers.{value_of}
use Rattle.pb_words.specs.Decimals.{digits_in, behind_digits}

-- a section: the letter of its port, and the answer
pub record Section : Type 0 where
  pub letter : ℕ
  pub answer : List ℕ

-- How a section is written.

pub record Written : Type 0 where
  pub tick : ℕ
  pub letter : ℕ
  pub session : ℕ
  pub answer : List ℕ

abbrev pub text_of : Written → List ℕ
text_of s =
    decimal s.tick ++ 32 ∷ s.letter ∷ 32 ∷ (decimal s.session ++ 32 ∷ (decimal (length s.answer) ++ 10 ∷ s.answer))

-- its numbers have at most 64 bits
pub record IsWritten (s : Written) : Type 0 where
  pub tick : s.tick < 2 ^ 64
  pub session : s.session < 2 ^ 64
  pub size : length s.answer < 2 ^ 64

abbrev pub section_of : Written → Section
section_of s = record { letter = s.letter; answer = s.answer }

-- How it is read.

-- what stands behind the number at the front of a text, and behind the byte that ends it
abbrev pub behind_number : List ℕ → List ℕ
behind_number text = drop 1 (behind_digits text)

-- the byte at the front
abbrev pub first_of : List ℕ → ℕ
first_of [] = 0
first_of (b ∷ bs) = b

-- behind the tick stands the letter, and behind a space the session
abbrev pub letter_in : List ℕ → ℕ
letter_in text = first_of (behind_number text)

-- behind the session stands how many bytes follow the line
abbrev pub size_text : List ℕ → List ℕ
size_text text = behind_number (drop 2 (behind_number text))

abbrev pub size_in : List ℕ → ℕ
size_in text = value_of (digits_in (size_text text))

abbrev pub behind_line : List ℕ → List ℕ
behind_line text = behind_number (size_text text)

-- the section at the front of a text, and what follows it
abbrev pub first_section : List ℕ → Section
first_section text = record { letter = letter_in text; answer = take (size_in text) (behind_line text) }

abbrev pub behind_section : List ℕ → List ℕ
behind_section text = drop (size_in text) (behind_line text)

-- The first so many sections of a text, or all where there are fewer.
abbrev pub first_sections : ℕ → List ℕ → List Section
first_sections zero text = []
first_sections (suc n) [] = []
first_sections (suc n) (b ∷ bs) = first_section (b ∷ bs) ∷ first_sections n (behind_section (b ∷ bs))

-- All of them: each has a byte and more.
abbrev pub sections_in : List ℕ → List Section
sections_in text = first_sections (length text) text
