-- Table bodies: which bytes are which words.
use Rattle.std.specs.Prelude.{◌≡◌, ◌≢◌, ℕ, ◌^◌, ◌%◌, ◌==◌, ◌||◌, ◌<◌, not, Bool, true, false, List, [], ◌∷◌, ◌++◌, length, map, All}
use Rattle.std.specs.List.{filter, flat_map}
use Rattle.base64.specs.Engines.{standard}
use Rattle.base64.specs.GeneralPurpose.{IsBytes, encode_of}
use Rattle.byteorder.specs.Endian.{little_bytes}
use Rattle.pb_words.specs.Numbers.{IsUint, value_of}
use Rattle.pb_words.specs.declared.refusals.Refusal.{Refusal}
use Rattle.pb_words.specs.declared.refusals.Refusal.TheVariants as refusals

-- each word has 32 bits
abbrev pub AreWords : List ℕ → Type 0
AreWords words = All (λ word. word < 2 ^ 32) words

-- Bodies of numbers.

-- a space or a newline
abbrev pub is_blank : ℕ → Bool
is_blank b = b == 32 || b == 10

-- what may stand between two numbers, before the first and after the last
abbrev pub IsGap : List ℕ → Type 0
IsGap gap = All (λ b. is_blank b ≡ true) gap

-- nothing, or what begins with a blank
abbrev pub IsApart : List ℕ → Type 0
IsApart [] = Unit {0}
IsApart (b ∷ bs) = is_blank b ≡ true

-- the body is a gap, the digits of one number, and a rest that is apart from them
pub record Leads (digits rest body : List ℕ) : Type 0 where
  pub gap : List ℕ
  pub blank : IsGap gap
  pub number : IsUint digits
  pub apart : IsApart rest
  pub printed : body ≡ gap ++ (digits ++ rest)

-- the body writes these numbers one after the other, each as these digits
abbrev pub Writes : List (List ℕ) → List ℕ → Type 0
Writes [] body = IsGap body
Writes (digits ∷ numbers) body = (rest : List ℕ) × Leads digits rest body × Writes numbers rest

-- Bodies in base64.

-- the body without its newlines
abbrev pub letters : List ℕ → List ℕ
letters body = filter (λ b. not (b == 10)) body

-- the letters of the body are those that these bytes are written with, padding included
pub record IsEncoded (body bytes : List ℕ) : Type 0 where
  pub low : IsBytes bytes
  pub printed : letters body ≡ encode_of standard bytes

-- four bytes for each word, the lowest first
abbrev pub bytes_of : List ℕ → List ℕ
bytes_of words = flat_map (little_bytes 4) words

-- Both.

-- the body, in base64 or not, says these words
abbrev pub Says : Bool → List ℕ → List ℕ → Type 0
Says false body words =
    (numbers : List (List ℕ)) × Writes numbers body × (words ≡ map value_of numbers) × AreWords words
Says true body words = IsEncoded body (bytes_of words) × AreWords words

-- Why a body says no words.
abbrev pub SaysNone : Bool → List ℕ → Refusal → Type 0
-- something is no number
SaysNone false body refusals.MalformedValue = (numbers : List (List ℕ)) → ¬ (Writes numbers body)
-- they are numbers, and one of them is no word
SaysNone false body refusals.ValueOutOfRange =
    (numbers : List (List ℕ)) × Writes numbers body × (¬ (AreWords (map value_of numbers)))
-- the letters are those of no bytes
SaysNone true body refusals.MalformedBase64 = (bytes : List ℕ) → ¬ (IsEncoded body bytes)
-- they are those of bytes, which end within a word
SaysNone true body refusals.NotWholeRows =
    (bytes : List ℕ) × IsEncoded body bytes × (length bytes % 4 ≢ 0)
SaysNone _ body _ = ⊥
