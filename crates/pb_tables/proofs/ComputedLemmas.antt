-- What is computed of a write is what it leaves, or why nothing is written.
use Rattle.std.proofs.Common.{◌≡◌, ℕ, zero, suc, ◌+◌, ◌*◌, ◌/◌, ◌%◌, ◌^◌, ◌<◌, ◌≤◌, ◌==◌, ◌&&◌, Bool, true, false, nat_eq, nat_lt, nat_le, List, [], ◌∷◌, ◌++◌, length, map, slice_index, All, Option, Some, None, Result, Ok, Err, ◌↔◌, MatchResult, refl, ap, sym, ◌∙◌, subst, inl, inr, arith}
use Rattle.std.specs.Bool.{Decides}
use Rattle.std.specs.List.{list_all}
use Rattle.std.specs.Result.{result_unwrap_or}
use Rattle.std.specs.Cmp.Lexicographic.{pointwise, bytes_decides}
use Rattle.std.proofs.lemmas.Bool.{cases_lt, cond_both, and_parts, leb-true, leb-false}
use Rattle.std.proofs.lemmas.Bool.Decides.{Decides-by_and, Decides-below_or, Decides-ltb, Decides-eqb, not_from_Decides}
use Rattle.std.specs.Option.{option_map_or}
use Rattle.std.proofs.lemmas.List.{take_all}
use Rattle.std.proofs.lemmas.Option.{cond_some, option_and_then_some}
use Rattle.std.proofs.lemmas.List.Elements.{All-head, All-tail, All-cons, All-nil, All-from_get_or}
use Rattle.base64.specs.Engines.{standard}
use Rattle.base64.specs.GeneralPurpose.{IsBytes, encode_of, decoded_of}
use Rattle.base64.proofs.EngineFacts.{decode_of-encode_of}
use Rattle.base64.proofs.Streams.{decoded_of-ok}
use Rattle.pb_words.specs.declared.refusals.Refusal.{Refusal}
use Rattle.pb_words.specs.declared.refusals.Refusal.TheVariants as refusals
use Rattle.pb_words.specs.Numbers.{IsDigit, IsUint, value_of}
use Rattle.pb_tables.specs.Bodies.{is_blank, IsGap, IsApart, Writes, AreWords, IsEncoded, letters, bytes_of, Says, SaysNone}
use Rattle.pb_tables.specs.Tables.{CanFollow, CannotFollow, IsWritten, IsRefused, kept, trigger_of}
use Rattle.pb_tables.specs.Scanning.{IsNumeral}
use Rattle.pb_tables.specs.Computed.{is_numeral, is_apart, begun_with, numbers_in, bytes_of_letters, words_in, whole_words, said, is_bad, has_bad, followed, followed_by, written, answer_of}
use Rattle.pb_tables.proofs.EncodingCuts.{consistent}
use Rattle.pb_tables.proofs.NumberCuts.{blank_or_digit}
use Rattle.pb_tables.proofs.ReadSoFar.{written_numerals}
use Rattle.pb_tables.proofs.ChunkLemmas.{AreWords-words_in, bytes_of-words_in}
use Rattle.pb_tables.proofs.OneWrite.{one_table, one_refusal, written_or_refused}

-- Bodies of numbers.

-- a blank in front of numbers
behind_blank : (numbers : List (List ℕ)) (b : ℕ) (bs : List ℕ) → is_blank b ≡ true → Writes numbers bs → Writes numbers (b ∷ bs)
behind_blank [] b bs blank gap = All-cons (λ b. is_blank b ≡ true) b bs blank gap
behind_blank (digits ∷ numbers) b bs blank (rest, leads, written) = (
  rest,
  record {
    gap = b ∷ leads.gap;
    blank = All-cons (λ b. is_blank b ≡ true) b leads.gap blank leads.blank;
    number = leads.number;
    apart = leads.apart;
    printed = ap (λ text. b ∷ text) leads.printed;
  },
  written,
)

one_digit : (b : ℕ) → IsDigit b → IsUint (b ∷ [])
one_digit b digit = record { some = omega arith; digits = All-cons IsDigit b [] digit (All-nil IsDigit) }

apart_from : (bs : List ℕ) → is_apart bs ≡ true → IsApart bs
apart_from [] h = tt
apart_from (b ∷ bs) h = h

-- a digit alone in front of numbers
behind_one : (numbers : List (List ℕ)) (b : ℕ) (bs : List ℕ) → IsDigit b → is_apart bs ≡ true → Writes numbers bs → Writes ((b ∷ []) ∷ numbers) (b ∷ bs)
behind_one numbers b bs digit apart written = (
  bs,
  record { gap = []; blank = All-nil (λ b. is_blank b ≡ true); number = one_digit b digit; apart = apart_from bs apart; printed = refl },
  written,
)

-- what begins with no blank has no gap in front
no_gap : (gap text bs : List ℕ) → IsGap gap → bs ≡ gap ++ text → is_apart bs ≡ false → bs ≡ text
no_gap [] text bs h e apart = e
no_gap (g ∷ gap) text [] h e apart = cc
no_gap (g ∷ gap) text (c ∷ bs) h e apart =
    let blank : is_blank g ≡ true = All-head (λ b. is_blank b ≡ true) g gap h in
    let same : c ≡ g = cc in
    let other : is_blank g ≡ false = subst (λ c. is_blank c ≡ false) same apart in
    cc

begins : (bs : List ℕ) → IsGap bs → is_apart bs ≡ false → ⊥
begins [] h apart = cc
begins (b ∷ bs) h apart = let blank = All-head (λ b. is_blank b ≡ true) b bs h in cc

-- a digit in front of the first number
behind_more : (numbers : List (List ℕ)) (b : ℕ) (bs : List ℕ) → IsDigit b → is_apart bs ≡ false → Writes numbers bs → Writes (begun_with b numbers) (b ∷ bs)
behind_more [] b bs digit apart gap = absurd (begins bs gap apart)
behind_more (digits ∷ numbers) b bs digit apart (rest, leads, written) = (
  rest,
  record {
    gap = [];
    blank = All-nil (λ b. is_blank b ≡ true);
    number = record { some = omega arith; digits = All-cons IsDigit b digits digit leads.number.digits };
    apart = leads.apart;
    printed = ap (λ text. b ∷ text) (no_gap leads.gap (digits ++ rest) bs leads.blank leads.printed apart);
  },
  written,
)

-- a body of numerals writes the numbers in it
numbers_written : (body : List ℕ) → All IsNumeral body → Writes (numbers_in body) body
unfolding numbers_in
numbers_written [] h = All-nil (λ b. is_blank b ≡ true)
numbers_written (b ∷ bs) h =
    let first : IsNumeral b = All-head IsNumeral b bs h in
    let more = numbers_written bs (All-tail IsNumeral b bs h) in
    cond_both (is_blank b) _ _ (λ numbers. Writes numbers (b ∷ bs))
    (λ blank. behind_blank (numbers_in bs) b bs blank more)
    (λ none. let digit = blank_or_digit b first none in
    cond_both (is_apart bs) _ _ (λ numbers. Writes numbers (b ∷ bs))
    (λ apart. behind_one (numbers_in bs) b bs digit apart more)
    (λ apart. behind_more (numbers_in bs) b bs digit apart more))

numerals_decide : (body : List ℕ) → Decides (list_all is_numeral body) (All IsNumeral body)
numerals_decide body = Decides-by_and is_numeral IsNumeral (list_all is_numeral) (λ b. (λ e. e, λ e. e)) refl (λ _ _. refl) body

words_decide : (numbers : List ℕ) → Decides (list_all (λ n. nat_lt n (2 ^ 32)) numbers) (AreWords numbers)
words_decide numbers =
    Decides-by_and (λ n. nat_lt n (2 ^ 32)) (λ n. n < 2 ^ 32) (list_all (λ n. nat_lt n (2 ^ 32))) (λ n. Decides-ltb n (2 ^ 32)) refl (λ _ _. refl) numbers

abbrev Answers : Bool → List ℕ → Result (List ℕ) Refusal → Type 0
Answers base64 body answer = MatchResult answer (Says base64 body) (SaysNone base64 body)

numbers_answer : (body : List ℕ) → Answers false body (said false body)
unfolding said
numbers_answer body =
    cond_both (list_all is_numeral body) _ _ (Answers false body)
    (λ t. let w = numbers_written body ((numerals_decide body).0 t) in
    cond_both (list_all (λ n. nat_lt n (2 ^ 32)) (map value_of (numbers_in body))) _ _ (Answers false body)
    (λ small. (numbers_in body, w, refl, (words_decide (map value_of (numbers_in body))).0 small))
    (λ large. (numbers_in body, w, not_from_Decides _ (words_decide (map value_of (numbers_in body))) large)))
    (λ f numbers w. not_from_Decides _ (numerals_decide body) f (written_numerals numbers body w))

-- Bodies in base64.

bytes_decide : (bytes : List ℕ) → Decides (list_all (λ b. nat_lt b 256) bytes) (All (λ b. b < 256) bytes)
bytes_decide bytes =
    Decides-by_and (λ b. nat_lt b 256) (λ b. b < 256) (list_all (λ b. nat_lt b 256)) (λ b. Decides-ltb b 256) refl (λ _ _. refl) bytes

letters_found : (body bytes : List ℕ) → IsEncoded body bytes → bytes_of_letters (letters body) ≡ Some bytes
letters_found body bytes w =
    let decoded : decoded_of standard (letters body) ≡ Some bytes =
    ap (decoded_of standard) w.printed ∙ decoded_of-ok standard (encode_of standard bytes) bytes (decode_of-encode_of standard bytes consistent w.low) in
    let low = (bytes_decide bytes).1 (All-from_get_or (λ b. b < 256) bytes 0 (λ i within. w.low i)) in
    rw (decoded, low, (bytes_decides (letters body) (encode_of standard bytes)).1 w.printed) refl

low_bytes : (bytes : List ℕ) → All (λ b. b < 256) bytes → IsBytes bytes
low_bytes [] h i = omega arith
low_bytes (b ∷ bytes) h zero = All-head (λ b. b < 256) b bytes h
low_bytes (b ∷ bytes) h (suc i) = low_bytes bytes (All-tail (λ b. b < 256) b bytes h) i

letters_say : (body bytes : List ℕ) → bytes_of_letters (letters body) ≡ Some bytes → IsEncoded body bytes
letters_say body bytes e =
    option_and_then_some _ (decoded_of standard (letters body)) bytes e
    (λ read at same.
    let low : Bool = list_all (λ b. nat_lt b 256) read in
    let printed : Bool = pointwise nat_eq (letters body) (encode_of standard read) in
    let p = cond_some (low && printed) read bytes same in
    let tests = and_parts low printed p.0 in
    subst (IsEncoded body) p.1
    (record { low = low_bytes read ((bytes_decide read).0 tests.0); printed = (bytes_decides (letters body) (encode_of standard read)).0 tests.1 }))

whole_answer : (body bytes : List ℕ) → IsEncoded body bytes → Answers true body (whole_words bytes)
whole_answer body bytes w =
    cond_both (length bytes % 4 == 0) _ _ (Answers true body)
    (λ t. let whole : length bytes % 4 ≡ 0 = (Decides-eqb (length bytes % 4) 0).0 t in
    let all : bytes_of (words_in (length bytes / 4) bytes) ≡ bytes =
    bytes_of-words_in (length bytes / 4) bytes w.low (omega arith) ∙ take_all (4 * (length bytes / 4)) bytes (omega arith) in
    (subst (IsEncoded body) (sym all) w, AreWords-words_in (length bytes / 4) bytes w.low))
    (λ f. (bytes, w, not_from_Decides (length bytes % 4 == 0) (Decides-eqb (length bytes % 4) 0) f))

letters_answer : (body : List ℕ) (read : Option (List ℕ)) → ((bytes : List ℕ) → read ≡ Some bytes → IsEncoded body bytes) → ((bytes : List ℕ) → IsEncoded body bytes → read ≡ Some bytes)
    → Answers true body (option_map_or whole_words read (Err refusals.MalformedBase64))
letters_answer body None say found = λ bytes w. let some = found bytes w in cc
letters_answer body (Some bytes) say found = whole_answer body bytes (say bytes refl)

said_answers : (base64 : Bool) (body : List ℕ) → Answers base64 body (said base64 body)
unfolding said
said_answers false body = numbers_answer body
said_answers true body = letters_answer body (bytes_of_letters (letters body)) (letters_say body) (letters_found body)

-- Writing.

bad_decide : (words : List ℕ) (n : ℕ) → Decides (has_bad words n) ((i : ℕ) × (i < n) × (12 < trigger_of (slice_index words (4 * i))))
bad_decide words n =
    Decides-below_or (is_bad words) (λ i. 12 < trigger_of (slice_index words (4 * i))) (has_bad words) (λ i. Decides-ltb 12 (trigger_of (slice_index words (4 * i)))) refl (λ _. refl) n

-- the words are those of the table and those behind it
abbrev Follows : List ℕ → List ℕ → List ℕ → Type 0
Follows table words new = CanFollow (length table) words × (new ≡ table ++ words)

followed_answers : (table words : List ℕ) → MatchResult (followed table words) (Follows table words) (CannotFollow (length table) words)
followed_answers table words =
    let P : Result (List ℕ) Refusal → Type 0 = λ answer. MatchResult answer (Follows table words) (CannotFollow (length table) words) in
    cond_both (length words % 4 == 0) _ _ P
    (λ t. let whole : length words % 4 ≡ 0 = (Decides-eqb (length words % 4) 0).0 t in
    cond_both (nat_le (length table + length words) 16384) _ _ P
    (λ l. let short : length table + length words ≤ 16384 = leb-true (length table + length words) 16384 l in
    cond_both (has_bad words (length words / 4)) _ _ P
    (λ bad. let at = (bad_decide words (length words / 4)).0 bad in
    (whole, short, (at.0, omega (arith, at.1), at.2)))
    (λ good. let none = not_from_Decides _ (bad_decide words (length words / 4)) good in
    (record { whole = whole; short = short; triggers = λ i within. not_above (trigger_of (slice_index words (4 * i))) (λ above. none (i, omega arith, above)) }, refl)))
    (λ g. (whole, leb-false (length table + length words) 16384 g)))
    (λ f. not_from_Decides (length words % 4 == 0) (Decides-eqb (length words % 4) 0) f)
  where
    not_above : (trigger : ℕ) → (12 < trigger → ⊥) → trigger ≤ 12
    not_above trigger h = elim (cases_lt 12 trigger) [ inl lt ↦ absurd (h lt) | inr ge ↦ ge ]

module _ (old : List ℕ) (append base64 : Bool) (body : List ℕ) where
  abbrev IsAnswer : Result (List ℕ) Refusal → Type 0
  IsAnswer answer = MatchResult answer (IsWritten old append base64 body) (IsRefused old append base64 body)

  follows : (words : List ℕ) → Says base64 body words → (answer : Result (List ℕ) Refusal)
      → MatchResult answer (Follows (kept append old) words) (CannotFollow (length (kept append old)) words) → IsAnswer answer
  follows words said (Ok new) fit = record { words = words; said = said; fit = fit.0; left = fit.1 }
  follows words said (Err refusal) why = inr (words, said, why)

  body_answers : (answer : Result (List ℕ) Refusal) → Answers base64 body answer → IsAnswer (followed_by (kept append old) answer)
  body_answers (Ok words) said = follows words said (followed (kept append old) words) (followed_answers (kept append old) words)
  body_answers (Err refusal) why = inl why

  answers : IsAnswer (written old append base64 body)
  unfolding written
  answers = body_answers (said base64 body) (said_answers base64 body)

  table_of_answer : (answer : Result (List ℕ) Refusal) → IsAnswer answer → (new : List ℕ) → IsWritten old append base64 body new → answer ≡ Ok new
  table_of_answer (Ok other) a new h = ap Ok (one_table old append base64 body other new a h)
  table_of_answer (Err refusal) a new h = absurd (written_or_refused old append base64 body new refusal h a)

  refusal_of_answer : (answer : Result (List ℕ) Refusal) → IsAnswer answer → (refusal : Refusal) → IsRefused old append base64 body refusal → answer ≡ Err refusal
  refusal_of_answer (Ok new) a refusal h = absurd (written_or_refused old append base64 body new refusal a h)
  refusal_of_answer (Err other) a refusal h = ap Err (one_refusal old append base64 body other refusal a h)

  pub table_computed : (new : List ℕ) → (written old append base64 body ≡ Ok new) ↔ IsWritten old append base64 body new
  table_computed new = (λ e. subst IsAnswer e answers, table_of_answer (written old append base64 body) answers new)

  pub refusal_computed : (refusal : Refusal) → (written old append base64 body ≡ Err refusal) ↔ IsRefused old append base64 body refusal
  refusal_computed refusal = (λ e. subst IsAnswer e answers, refusal_of_answer (written old append base64 body) answers refusal)

  -- what was written is what is computed, answer and table
  pub write_computed : (new : List ℕ) → IsWritten old append base64 body new
      → (Ok tt ≡ answer_of (written old append base64 body)) × (new ≡ result_unwrap_or (written old append base64 body) old)
  write_computed new h = rw (table_of_answer (written old append base64 body) answers new h) (refl, refl)

  pub refused_computed : (refusal : Refusal) → IsRefused old append base64 body refusal
      → (Err refusal ≡ answer_of (written old append base64 body)) × (old ≡ result_unwrap_or (written old append base64 body) old)
  refused_computed refusal h = rw (refusal_of_answer (written old append base64 body) answers refusal h) (refl, refl)
