-- What a table write leaves, or why nothing is written, computed.
use Rattle.std.specs.Prelude.{ℕ, zero, suc, ◌+◌, ◌*◌, ◌/◌, ◌%◌, ◌^◌, ◌==◌, ◌&&◌, ◌||◌, nat_eq, nat_le, nat_lt, Bool, true, false, List, [], ◌∷◌, ◌++◌, length, map, drop, slice_index, Option, Some, None, Result, Ok, Err, if◌then◌else◌}
use Rattle.std.specs.List.{list_all}
use Rattle.std.specs.Option.{option_map_or, option_and_then}
use Rattle.std.specs.Cmp.Lexicographic.{pointwise}
use Rattle.base64.specs.Engines.{standard}
use Rattle.base64.specs.GeneralPurpose.{encode_of, decoded_of}
use Rattle.byteorder.specs.Endian.{little_number}
use Rattle.pb_words.specs.Numbers.{value_of}
use Rattle.pb_words.specs.Signed.{is_digit}
use Rattle.pb_words.specs.declared.refusals.Refusal.{Refusal}
use Rattle.pb_words.specs.declared.refusals.Refusal.TheVariants as refusals
use Rattle.pb_tables.specs.Bodies.{is_blank, letters}
use Rattle.pb_tables.specs.Tables.{most, last_trigger, trigger_of, kept}

-- Bodies of numbers.

-- a byte that a body of numbers can have
abbrev pub is_numeral : ℕ → Bool
is_numeral b = is_digit b || is_blank b

-- nothing, or what begins with a blank
abbrev pub is_apart : List ℕ → Bool
is_apart [] = true
is_apart (b ∷ bs) = is_blank b

-- a byte that the first of these numbers begins with
abbrev pub begun_with : ℕ → List (List ℕ) → List (List ℕ)
begun_with b [] = (b ∷ []) ∷ []
begun_with b (digits ∷ numbers) = (b ∷ digits) ∷ numbers

-- the digits of each number of a body, which stand between blanks
unfoldable pub numbers_in : List ℕ → List (List ℕ)
numbers_in [] = []
numbers_in (b ∷ bs) =
    if is_blank b then numbers_in bs else
    (if is_apart bs then (b ∷ []) ∷ numbers_in bs else begun_with b (numbers_in bs))

-- these numbers, where each is a word
abbrev pub as_words : List ℕ → Result (List ℕ) Refusal
as_words numbers =
    if list_all (λ n. nat_lt n (2 ^ 32)) numbers then Ok numbers else Err refusals.ValueOutOfRange

-- Bodies in base64.

-- the bytes that these letters are written for, if they are those of any bytes
abbrev pub bytes_of_letters : List ℕ → Option (List ℕ)
bytes_of_letters text =
    option_and_then (λ bytes.
    if list_all (λ b. nat_lt b 256) bytes && pointwise nat_eq text (encode_of standard bytes)
    then Some bytes
    else None)
    (decoded_of standard text)

-- the first words of these bytes
abbrev pub words_in : ℕ → List ℕ → List ℕ
words_in zero bytes = []
words_in (suc k) bytes = words_in k bytes ++ little_number 4 (drop (4 * k) bytes) ∷ []

-- the words of these bytes, where they end with a word
abbrev pub whole_words : List ℕ → Result (List ℕ) Refusal
whole_words bytes =
    if length bytes % 4 == 0 then Ok (words_in (length bytes / 4) bytes) else Err refusals.NotWholeRows

-- Both.

-- the words that the body says, in base64 or not, or why it says none
unfoldable pub said : Bool → List ℕ → Result (List ℕ) Refusal
said false body =
    if list_all is_numeral body
    then as_words (map value_of (numbers_in body))
    else Err refusals.MalformedValue
said true body = option_map_or whole_words (bytes_of_letters (letters body)) (Err refusals.MalformedBase64)

-- Writing.

-- row i has a trigger that there isn't
abbrev pub is_bad : List ℕ → ℕ → Bool
is_bad words i = nat_lt last_trigger (trigger_of (slice_index words (4 * i)))

-- one of the first rows has
abbrev pub has_bad : List ℕ → ℕ → Bool
has_bad words zero = false
has_bad words (suc i) = is_bad words i || has_bad words i

-- the words behind those of a table, or why they can't follow them
abbrev pub followed : List ℕ → List ℕ → Result (List ℕ) Refusal
followed table words =
    if length words % 4 == 0 then
    (if nat_le (length table + length words) most then
    (if has_bad words (length words / 4) then Err refusals.ValueOutOfRange else Ok (table ++ words))
    else Err refusals.TableTooLong)
    else Err refusals.NotWholeRows

-- the words behind those of a table, where there are any
abbrev pub followed_by : List ℕ → Result (List ℕ) Refusal → Result (List ℕ) Refusal
followed_by table (Ok words) = followed table words
followed_by table (Err refusal) = Err refusal

-- the table that a write leaves, or why nothing is written
unfoldable pub written : List ℕ → Bool → Bool → List ℕ → Result (List ℕ) Refusal
written old append base64 body = followed_by (kept append old) (said base64 body)

-- what a write answers
abbrev pub answer_of : Result (List ℕ) Refusal → Result (Unit {0}) Refusal
answer_of (Ok new) = Ok tt
answer_of (Err refusal) = Err refusal
