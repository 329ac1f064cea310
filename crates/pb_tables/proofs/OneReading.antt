-- A body is read in one way.
use Rattle.std.proofs.Common.{◌≡◌, ◌≢◌, ℕ, ◌%◌, ◌^◌, ◌<◌, ◌⊎◌, Bool, true, false, List, [], ◌∷◌, ◌++◌, length, drop, map, All, refl, sym, ap, subst, ◌∙◌, inl, inr, arith}
use Rattle.std.proofs.lemmas.Bool.Decides.{nat_tests}
use Rattle.std.proofs.lemmas.List.{drop_at}
use Rattle.std.proofs.lemmas.List.Elements.{All-head, All-tail, All-weaker}
use Rattle.byteorder.specs.Endian.{little_bytes, little_number}
use Rattle.byteorder.specs.Numbers.{little_number-reads_back, length-bytes_low_first}
use Rattle.pb_words.specs.Numbers.{IsDigit, IsUint, value_of}
use Rattle.pb_words.specs.declared.refusals.Refusal.{Refusal}
use Rattle.pb_words.specs.declared.refusals.Refusal.TheVariants as refusals
use Rattle.pb_tables.specs.Bodies.{is_blank, IsGap, IsApart, Leads, Writes, AreWords, IsEncoded, Says, SaysNone, bytes_of}
use Rattle.pb_words.specs.Signed.{is_digit}
use Rattle.pb_tables.proofs.EncodingCuts.{encode_injective}
use Rattle.pb_tables.proofs.ChunkLemmas.{length-bytes_of}

-- the list is empty, or its first byte doesn't pass
abbrev Stops : (ℕ → Bool) → List ℕ → Type 0
Stops p [] = Unit {0}
Stops p (b ∷ bs) = p b ≡ false

-- bytes that pass, and then what doesn't: there is one such cut
one_cut : (p : ℕ → Bool) (a b x y : List ℕ) → All (λ c. p c ≡ true) a → All (λ c. p c ≡ true) b → Stops p x → Stops p y → a ++ x ≡ b ++ y → (a ≡ b) × (x ≡ y)
one_cut p [] [] x y pa pb sx sy e = (refl, e)
one_cut p [] (c ∷ b) [] y pa pb sx sy e = cc
one_cut p [] (c ∷ b) (d ∷ x) y pa pb sx sy e =
    let same : d ≡ c = cc in
    let passes : p c ≡ true = All-head (λ c. p c ≡ true) c b pb in
    let stops : p c ≡ false = subst (λ d. p d ≡ false) same sx in
    cc
one_cut p (c ∷ a) [] x [] pa pb sx sy e = cc
one_cut p (c ∷ a) [] x (d ∷ y) pa pb sx sy e =
    let same : d ≡ c = cc in
    let passes : p c ≡ true = All-head (λ c. p c ≡ true) c a pa in
    let stops : p c ≡ false = subst (λ d. p d ≡ false) same sy in
    cc
one_cut p (c ∷ a) (d ∷ b) x y pa pb sx sy e =
    let rest : a ++ x ≡ b ++ y = cc in
    let more = one_cut p a b x y (All-tail (λ c. p c ≡ true) c a pa) (All-tail (λ c. p c ≡ true) d b pb) sx sy rest in
    let first : c ≡ d = cc in
    let others : a ≡ b = more.0 in
    (cc, more.1)

digit_passes : (b : ℕ) → IsDigit b → is_digit b ≡ true
digit_passes b h = grind (arith, nat_tests)

digit_stops : (b : ℕ) → IsDigit b → is_blank b ≡ false
digit_stops b h = grind (arith, nat_tests)

blank_stops : (b : ℕ) → is_blank b ≡ true → is_digit b ≡ false
blank_stops b h = grind (arith, nat_tests)

-- digits stop a gap, and what is apart stops digits
number_stops : (digits rest : List ℕ) → IsUint digits → Stops is_blank (digits ++ rest)
number_stops [] rest h = absurd (omega (arith, h.some))
number_stops (b ∷ bs) rest h = digit_stops b (All-head IsDigit b bs h.digits)

apart_stops : (rest : List ℕ) → IsApart rest → Stops is_digit rest
apart_stops [] h = tt
apart_stops (b ∷ bs) h = blank_stops b h

-- the first number of a body
one_lead : (digits rest others more body : List ℕ) → Leads digits rest body → Leads others more body → (digits ≡ others) × (rest ≡ more)
one_lead digits rest others more body a b =
    let gaps = one_cut is_blank a.gap b.gap (digits ++ rest) (others ++ more) a.blank b.blank (number_stops digits rest a.number) (number_stops others more b.number) (sym a.printed ∙ b.printed) in
    one_cut is_digit digits others rest more (All-weaker IsDigit (λ c. is_digit c ≡ true) digit_passes digits a.number.digits)
    (All-weaker IsDigit (λ c. is_digit c ≡ true) digit_passes others b.number.digits) (apart_stops rest a.apart) (apart_stops more b.apart) gaps.1

-- a gap has no number
All-behind : (p : ℕ → Bool) (xs ys : List ℕ) → All (λ c. p c ≡ true) (xs ++ ys) → All (λ c. p c ≡ true) ys
All-behind p [] ys h = h
All-behind p (x ∷ xs) ys h = All-behind p xs ys (All-tail (λ c. p c ≡ true) x (xs ++ ys) h)

no_lead : (digits rest body : List ℕ) → IsGap body → Leads digits rest body → ⊥
no_lead [] rest body gap h = omega (arith, h.number.some)
no_lead (b ∷ digits) rest body gap h =
    let behind = All-behind is_blank h.gap ((b ∷ digits) ++ rest) (subst IsGap h.printed gap) in
    let blank : is_blank b ≡ true = All-head (λ c. is_blank c ≡ true) b (digits ++ rest) behind in
    let digit = digit_stops b (All-head IsDigit b digits h.number.digits) in
    cc

pub one_writing : (a b : List (List ℕ)) (body : List ℕ) → Writes a body → Writes b body → a ≡ b
one_writing [] [] body wa wb = refl
one_writing [] (d ∷ b) body wa wb = absurd (no_lead d wb.0 body wa wb.1)
one_writing (c ∷ a) [] body wa wb = absurd (no_lead c wa.0 body wb wa.1)
one_writing (c ∷ a) (d ∷ b) body wa wb =
    let lead = one_lead c wa.0 d wb.0 body wa.1 wb.1 in
    let first : c ≡ d = lead.0 in
    let more : a ≡ b = one_writing a b wa.0 wa.2 (subst (Writes b) (sym lead.1) wb.2) in
    cc

-- words have one list of bytes, and bytes are those of one list of words
pub one_bytes : (a b : List ℕ) → AreWords a → AreWords b → bytes_of a ≡ bytes_of b → a ≡ b
one_bytes [] [] wa wb e = refl
one_bytes [] (d ∷ b) wa wb e = absurd (omega (arith, ap length e, length-bytes_of (d ∷ b)))
one_bytes (c ∷ a) [] wa wb e = absurd (omega (arith, ap length e, length-bytes_of (c ∷ a)))
one_bytes (c ∷ a) (d ∷ b) wa wb e =
    let left = little_number-reads_back 4 c (bytes_of a) (All-head (λ w. w < 2 ^ 32) c a wa) in
    let right = little_number-reads_back 4 d (bytes_of b) (All-head (λ w. w < 2 ^ 32) d b wb) in
    let first : c ≡ d = sym left ∙ ap (little_number 4) e ∙ right in
    let behind : bytes_of a ≡ bytes_of b =
    sym (drop_at (little_bytes 4 c) (bytes_of a) 4 (length-bytes_low_first 0 4 c)) ∙ ap (drop 4) e ∙ drop_at (little_bytes 4 d) (bytes_of b) 4 (length-bytes_low_first 0 4 d) in
    let more : a ≡ b = one_bytes a b (All-tail (λ w. w < 2 ^ 32) c a wa) (All-tail (λ w. w < 2 ^ 32) d b wb) behind in
    cc

pub one_encoding : (body a b : List ℕ) → IsEncoded body a → IsEncoded body b → a ≡ b
one_encoding body a b ea eb = encode_injective a b ea.low eb.low (sym ea.printed ∙ eb.printed)

-- a body says one list of words
pub one_saying : (base64 : Bool) (body words others : List ℕ) → Says base64 body words → Says base64 body others → words ≡ others
one_saying false body words others a b = a.2 ∙ ap (map value_of) (one_writing a.0 b.0 body a.1 b.1) ∙ sym b.2
one_saying true body words others a b = one_bytes words others a.1 b.1 (one_encoding body (bytes_of words) (bytes_of others) a.0 b.0)

-- why a body says no words, in its two cases
numbers_none : (body : List ℕ) (refusal : Refusal) → SaysNone false body refusal
    → ((refusal ≡ refusals.MalformedValue) × ((numbers : List (List ℕ)) → Writes numbers body → ⊥))
    ⊎ ((refusal ≡ refusals.ValueOutOfRange) × ((numbers : List (List ℕ)) × Writes numbers body × (AreWords (map value_of numbers) → ⊥)))
numbers_none body refusals.MalformedValue h = inl (refl, h)
numbers_none body refusals.ValueOutOfRange h = inr (refl, h)
numbers_none body _ h = absurd h

base64_none : (body : List ℕ) (refusal : Refusal) → SaysNone true body refusal
    → ((refusal ≡ refusals.MalformedBase64) × ((bytes : List ℕ) → IsEncoded body bytes → ⊥))
    ⊎ ((refusal ≡ refusals.NotWholeRows) × ((bytes : List ℕ) × IsEncoded body bytes × (length bytes % 4 ≢ 0)))
base64_none body refusals.MalformedBase64 h = inl (refl, h)
base64_none body refusals.NotWholeRows h = inr (refl, h)
base64_none body _ h = absurd h

pub one_reason : (base64 : Bool) (body : List ℕ) (refusal other : Refusal) → SaysNone base64 body refusal → SaysNone base64 body other → refusal ≡ other
one_reason false body refusal other a b = elim (numbers_none body refusal a) [
  | inl p ↦ elim (numbers_none body other b) [ inl q ↦ p.0 ∙ sym q.0 | inr q ↦ absurd (p.1 q.1.0 q.1.1) ]
  | inr p ↦ elim (numbers_none body other b) [ inl q ↦ absurd (q.1 p.1.0 p.1.1) | inr q ↦ p.0 ∙ sym q.0 ]
]
one_reason true body refusal other a b = elim (base64_none body refusal a) [
  | inl p ↦ elim (base64_none body other b) [ inl q ↦ p.0 ∙ sym q.0 | inr q ↦ absurd (p.1 q.1.0 q.1.1) ]
  | inr p ↦ elim (base64_none body other b) [ inl q ↦ absurd (q.1 p.1.0 p.1.1) | inr q ↦ p.0 ∙ sym q.0 ]
]

pub not_both : (base64 : Bool) (body words : List ℕ) (refusal : Refusal) → Says base64 body words → SaysNone base64 body refusal → ⊥
not_both false body words refusal a b = elim (numbers_none body refusal b) [
  | inl q ↦ q.1 a.0 a.1
  | inr q ↦ q.1.2 (subst AreWords (a.2 ∙ ap (map value_of) (one_writing a.0 q.1.0 body a.1 q.1.1)) a.3)
]
not_both true body words refusal a b = elim (base64_none body refusal b) [
  | inl q ↦ q.1 (bytes_of words) a.0
  | inr q ↦
      let same : bytes_of words ≡ q.1.0 = one_encoding body (bytes_of words) q.1.0 a.0 q.1.1 in
      q.1.2 (omega (arith, ap length same, length-bytes_of words))
]
