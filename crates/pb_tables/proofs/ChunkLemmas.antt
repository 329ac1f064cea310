-- The words of bytes, and the letters that are read so far.
use Rattle.std.proofs.Common.{◌≡◌, ◌≢◌, ℕ, zero, suc, ◌+◌, ◌*◌, ◌/◌, ◌%◌, ◌^◌, ◌<◌, ◌≤◌, true, List, [], ◌∷◌, ◌++◌, length, get_or, take, drop, cond, not, ◌==◌, refl, sym, ap, subst, ◌∙◌, append_assoc, append-nil, add-one, arith}
use Rattle.std.proofs.lemmas.List.{length-append, length-take-le, length-drop, take_all, take-append-drop, take_more_set, drop_more}
use Rattle.std.proofs.Math.Seq.{take-append-add}
use Rattle.std.proofs.lemmas.List.Elements.{All-append, All-cons, All-nil, filter-append, filter_more}
use Rattle.std.proofs.lemmas.Bool.Decides.{nat_tests}
use Rattle.std.proofs.Math.ListN.{set}
use Rattle.std.proofs.lemmas.Grind.{flat_map-append}
use Rattle.std.specs.Int.{byte_at, bytes_low_first}
use Rattle.base64.specs.Engines.{standard}
use Rattle.base64.specs.GeneralPurpose.{IsBytes, encode_of}
use Rattle.base64.proofs.EngineFacts.{encode_of-append, encode_of-nil}
use Rattle.byteorder.specs.Endian.{little_bytes, little_number}
use Rattle.byteorder.specs.Numbers.{little_from-lt, length-bytes_low_first}
use Rattle.pb_tables.specs.declared.drafts.Draft.{Draft}
use Rattle.pb_tables.specs.Bodies.{AreWords, IsEncoded, bytes_of, letters}
use Rattle.pb_tables.specs.Chunks.{IsChunk}
use Rattle.pb_tables.specs.Computed.{words_in}
use Rattle.pb_tables.specs.Held.{Holds, IsRead, AreLetters}
use Rattle.pb_tables.proofs.EncodingCuts.{IsBytes-take, IsBytes-drop, front_of, length_whole}

-- a word has four bytes
pub length-bytes_of : (words : List ℕ) → length (bytes_of words) ≡ 4 * length words
length-bytes_of [] = refl
length-bytes_of (word ∷ words) =
    omega (arith, length-append (little_bytes 4 word) (bytes_of words), length-bytes_low_first 0 4 word, length-bytes_of words)

bytes_of-append : (a b : List ℕ) → bytes_of (a ++ b) ≡ bytes_of a ++ bytes_of b
bytes_of-append a b = flat_map-append (little_bytes 4) a b

length-words_in : (k : ℕ) (bytes : List ℕ) → length (words_in k bytes) ≡ k
length-words_in zero bytes = refl
length-words_in (suc k) bytes = omega (arith, length-append (words_in k bytes) (little_number 4 (drop (4 * k) bytes) ∷ []), length-words_in k bytes)

pub AreWords-words_in : (k : ℕ) (bytes : List ℕ) → IsBytes bytes → AreWords (words_in k bytes)
AreWords-words_in zero bytes low = All-nil (λ word. word < 2 ^ 32)
AreWords-words_in (suc k) bytes low =
    let small : little_number 4 (drop (4 * k) bytes) < 2 ^ 32 = little_from-lt 0 4 (drop (4 * k) bytes) (IsBytes-drop (4 * k) bytes low) in
    All-append (λ word. word < 2 ^ 32) (words_in k bytes) (little_number 4 (drop (4 * k) bytes) ∷ []) (AreWords-words_in k bytes low)
    (All-cons (λ word. word < 2 ^ 32) (little_number 4 (drop (4 * k) bytes)) [] small (All-nil (λ word. word < 2 ^ 32)))

four_parts : (a b c d x : ℕ) → a < 256 → b < 256 → c < 256 → d < 256 → x ≡ a + 256 * (b + 256 * (c + 256 * d))
    → (x % 256 ≡ a) × (x / 256 % 256 ≡ b) × (x / 65536 % 256 ≡ c) × (x / 16777216 % 256 ≡ d)
four_parts a b c d x ha hb hc hd e = (omega arith, omega arith, omega arith, omega arith)

-- the bytes of the number in four bytes
four_bytes : (bytes : List ℕ) → IsBytes bytes → 4 ≤ length bytes → little_bytes 4 (little_number 4 bytes) ≡ take 4 bytes
four_bytes (a ∷ b ∷ c ∷ d ∷ rest) low long =
    let e = four_parts a b c d (little_number 4 (a ∷ b ∷ c ∷ d ∷ rest)) (low 0) (low 1) (low 2) (low 3) (omega arith) in
    rw (e.0, e.1, e.2, e.3) refl
four_bytes _ low long = absurd (omega arith)

take_four : (k : ℕ) (bytes : List ℕ) → 4 * k ≤ length bytes → take (4 * k) bytes ++ take 4 (drop (4 * k) bytes) ≡ take (4 * suc k) bytes
take_four k bytes long =
    let n : 4 * suc k ≡ length (take (4 * k) bytes) + 4 = omega (arith, length-take-le (4 * k) bytes long) in
    let parts = take-append-add (take (4 * k) bytes) (drop (4 * k) bytes) 4 in
    sym (rw (take-append-drop (4 * k) bytes, ← n) at parts)

-- one more word of these bytes
pub words_more : (i x : ℕ) (bytes rest words : List ℕ) → rest ≡ drop (4 * i) bytes → x ≡ little_number 4 rest
    → (words ++ words_in i bytes) ++ x ∷ [] ≡ words ++ words_in (i + 1) bytes
words_more i x bytes rest words er ex =
    let value : x ≡ little_number 4 (drop (4 * i) bytes) = ex ∙ ap (little_number 4) er in
    rw (add-one, ← value) (append_assoc words (words_in i bytes) (x ∷ []))

-- the bytes of words are bytes
IsBytes-cons : (b : ℕ) (bs : List ℕ) → b < 256 → IsBytes bs → IsBytes (b ∷ bs)
IsBytes-cons b bs small low zero = small
IsBytes-cons b bs small low (suc i) = low i

IsBytes-append : (a b : List ℕ) → IsBytes a → IsBytes b → IsBytes (a ++ b)
IsBytes-append [] b la lb = lb
IsBytes-append (x ∷ a) b la lb = IsBytes-cons x (a ++ b) (la 0) (IsBytes-append a b (λ i. la (suc i)) lb)

byte_small : (place word : ℕ) → byte_at place word < 256
byte_small zero word = omega arith
byte_small (suc place) word = let n : ℕ = word / 256 ^ suc place in let small : n % 256 < 256 = omega arith in small

IsBytes-number : (n place word : ℕ) → IsBytes (bytes_low_first place n word)
IsBytes-number zero place word = λ i. omega arith
IsBytes-number (suc n) place word = IsBytes-cons (byte_at place word) (bytes_low_first (suc place) n word) (byte_small place word) (IsBytes-number n (suc place) word)

IsBytes-bytes_of : (words : List ℕ) → IsBytes (bytes_of words)
IsBytes-bytes_of [] = λ i. omega arith
IsBytes-bytes_of (word ∷ words) = IsBytes-append (little_bytes 4 word) (bytes_of words) (IsBytes-number 4 0 word) (IsBytes-bytes_of words)

-- words have the bytes that they were read from
pub bytes_of-words_in : (k : ℕ) (bytes : List ℕ) → IsBytes bytes → 4 * k ≤ length bytes → bytes_of (words_in k bytes) ≡ take (4 * k) bytes
bytes_of-words_in zero bytes low long = refl
bytes_of-words_in (suc k) bytes low long =
    let rest : List ℕ = drop (4 * k) bytes in
    let four = four_bytes rest (IsBytes-drop (4 * k) bytes low) (omega (arith, length-drop (4 * k) bytes)) in
    bytes_of-append (words_in k bytes) (little_number 4 rest ∷ [])
    ∙ ap (λ front. front ++ bytes_of (little_number 4 rest ∷ [])) (bytes_of-words_in k bytes low (omega arith))
    ∙ ap (λ last. take (4 * k) bytes ++ last) (append-nil (little_bytes 4 (little_number 4 rest)) ∙ four)
    ∙ take_four k bytes (omega arith)

-- the words of a chunk behind those before
pub record AreJoined (seen words bytes : List ℕ) : Type 0 where
  pub are : AreWords (words ++ words_in (length bytes / 4) bytes)
  pub printed : seen ≡ encode_of standard (bytes_of (words ++ words_in (length bytes / 4) bytes))

pub joined : (draft : Draft) (seen chunk bytes : List ℕ) (h : AreLetters draft seen chunk) → chunk ≡ encode_of standard bytes → IsBytes bytes → length bytes % 4 ≡ 0
    → AreJoined seen h.words bytes
joined draft seen chunk bytes h is low whole =
    let k : ℕ = length bytes / 4 in
    let all : bytes_of (words_in k bytes) ≡ bytes = bytes_of-words_in k bytes low (omega arith) ∙ take_all (4 * k) bytes (omega arith) in
    let threes : length (bytes_of h.words) % 3 ≡ 0 = omega (arith, length-bytes_of h.words, h.threes) in
    record {
      are = All-append (λ word. word < 2 ^ 32) h.words (words_in k bytes) h.are (AreWords-words_in k bytes low);
      printed = h.printed ∙ ap (λ letters. encode_of standard (bytes_of h.words) ++ letters) (is ∙ ap (encode_of standard) (sym all))
          ∙ sym (encode_of-append standard (bytes_of h.words) (bytes_of (words_in k bytes)) threes)
          ∙ ap (encode_of standard) (sym (bytes_of-append h.words (words_in k bytes)));
    }

-- a whole chunk is added
pub chunk_added : (old new : Draft) (seen chunk out : List ℕ) → length out ≡ 12 → IsChunk chunk 12 out
    → ((words : List ℕ) → Holds old words → Holds new (words ++ words_in (length out / 4) out))
    → AreLetters old seen chunk → AreLetters new seen []
chunk_added old new seen chunk out sized is add h =
    let all : take 12 out ≡ out = take_all 12 out (omega arith) in
    let low : IsBytes out = subst IsBytes all is.bytes in
    let both = joined old seen chunk out h (is.printed ∙ ap (encode_of standard) all) low (omega arith) in
    record {
      words = h.words ++ words_in (length out / 4) out;
      threes = omega (arith, h.threes, length-append h.words (words_in (length out / 4) out), length-words_in (length out / 4) out);
      are = both.are;
      held = add h.words h.held;
      printed = both.printed ∙ sym (append-nil (encode_of standard (bytes_of (h.words ++ words_in (length out / 4) out))));
    }

-- letters behind whole groups are those of the bytes behind
behind : (words rest body bytes : List ℕ) → length words % 3 ≡ 0 → 0 < length rest → IsEncoded body bytes → letters body ≡ encode_of standard (bytes_of words) ++ rest
    → rest ≡ encode_of standard (drop (length (bytes_of words)) bytes)
behind words rest body bytes threes some encoded is =
    let whole : length (bytes_of words) % 3 ≡ 0 = omega (arith, length-bytes_of words) in
    (front_of (length (bytes_of words)) (encode_of standard (bytes_of words)) rest bytes whole (length_whole (bytes_of words) whole) some (sym is ∙ encoded.printed)).2

some_letters : (rest : List ℕ) → rest ≢ [] → 0 < length rest
some_letters [] some = absurd (some refl)
some_letters (b ∷ rest) some = omega arith

-- a chunk in the middle that isn't that of twelve bytes
pub bad_chunk : (draft : Draft) (chunk seen rest body : List ℕ) → length chunk ≡ 16 → ((bytes : List ℕ) → IsBytes bytes → length bytes ≡ 12 → chunk ≡ encode_of standard bytes → ⊥)
    → AreLetters draft seen chunk → letters body ≡ seen ++ rest → rest ≢ [] → (bytes : List ℕ) → IsEncoded body bytes → ⊥
bad_chunk draft chunk seen rest body full none h is some bytes encoded =
    let more = some_letters rest some in
    let long : 0 < length (chunk ++ rest) = omega (arith, length-append chunk rest) in
    let all : letters body ≡ encode_of standard (bytes_of h.words) ++ (chunk ++ rest) =
    is ∙ ap (λ front. front ++ rest) h.printed ∙ append_assoc (encode_of standard (bytes_of h.words)) chunk rest in
    let tail : List ℕ = drop (length (bytes_of h.words)) bytes in
    let low : IsBytes tail = IsBytes-drop (length (bytes_of h.words)) bytes encoded.low in
    let cut = front_of 12 chunk rest tail refl (omega arith) more (behind h.words (chunk ++ rest) body bytes h.threes long encoded all) in
    none (take 12 tail) (IsBytes-take 12 tail low) (length-take-le 12 tail (let longer = cut.0 in omega arith)) cut.1

-- a last chunk that is that of no bytes
pub bad_last : (draft : Draft) (chunk body : List ℕ) → ((bytes : List ℕ) → IsBytes bytes → chunk ≡ encode_of standard bytes → ⊥)
    → AreLetters draft (letters body) chunk → (bytes : List ℕ) → IsEncoded body bytes → ⊥
bad_last draft [] body none h bytes encoded = none [] (λ i. omega arith) (sym (encode_of-nil standard))
bad_last draft (b ∷ chunk) body none h bytes encoded =
    let low = IsBytes-drop (length (bytes_of h.words)) bytes encoded.low in
    none (drop (length (bytes_of h.words)) bytes) low (behind h.words (b ∷ chunk) body bytes h.threes (omega arith) encoded h.printed)

-- a last chunk whose bytes are no whole words
pub cut_last : (draft : Draft) (chunk body out : List ℕ) (n : ℕ) → length out ≡ 12 → IsChunk chunk n out → n % 4 ≢ 0 → AreLetters draft (letters body) chunk
    → (bytes : List ℕ) × IsEncoded body bytes × (length bytes % 4 ≢ 0)
cut_last draft chunk body out n sized is cut h =
    let threes : length (bytes_of h.words) % 3 ≡ 0 = omega (arith, length-bytes_of h.words, h.threes) in
    let len : length (take n out) ≡ n = length-take-le n out (omega (arith, is.few)) in
    let size : length (bytes_of h.words ++ take n out) ≡ 4 * length h.words + n = omega (arith, length-append (bytes_of h.words) (take n out), length-bytes_of h.words) in (
      bytes_of h.words ++ take n out,
      record {
        low = IsBytes-append (bytes_of h.words) (take n out) (IsBytes-bytes_of h.words) is.bytes;
        printed = h.printed ∙ ap (λ letters. encode_of standard (bytes_of h.words) ++ letters) is.printed ∙ sym (encode_of-append standard (bytes_of h.words) (take n out) threes);
      },
      λ e. cut (omega arith),
    )

-- the last chunk is added
pub last_added : (old new : Draft) (chunk body out : List ℕ) (n : ℕ) → length out ≡ 12 → IsChunk chunk n out → n % 4 ≡ 0
    → ((words : List ℕ) → Holds old words → Holds new (words ++ words_in (length (take n out) / 4) (take n out)))
    → AreLetters old (letters body) chunk → IsRead true body new
last_added old new chunk body out n sized is whole add h =
    let len : length (take n out) ≡ n = length-take-le n out (omega (arith, is.few)) in
    let both = joined old (letters body) chunk (take n out) h is.printed is.bytes (omega arith) in
    let words : List ℕ = h.words ++ words_in (length (take n out) / 4) (take n out) in
    record {
      words = words;
      said = (record { low = IsBytes-bytes_of words; printed = both.printed }, both.are);
      held = add h.words h.held;
    }

-- One more letter.

letters_more : (body : List ℕ) (i : ℕ) → i < length body → letters (take (i + 1) body) ≡ letters (take i body) ++ cond (not (get_or body i 0 == 10)) (get_or body i 0 ∷ []) []
letters_more body i within = filter_more (λ b. not (b == 10)) body i 0 within

letter : (b : ℕ) → b ≢ 10 → not (b == 10) ≡ true
letter b other = grind (arith, nat_tests)

one_letter : (body : List ℕ) (i : ℕ) → i < length body → get_or body i 0 ≢ 10 → letters (take (i + 1) body) ≡ letters (take i body) ++ get_or body i 0 ∷ []
one_letter body i within other = letters_more body i within ∙ rw (letter (get_or body i 0) other) refl

-- a letter that waits behind others
pub letter_waits : (draft : Draft) (body chunk : List ℕ) (i n : ℕ) → i < length body → get_or body i 0 ≢ 10 → n < length chunk
    → AreLetters draft (letters (take i body)) (take n chunk) → AreLetters draft (letters (take (i + 1) body)) (take (n + 1) (set chunk n (get_or body i 0)))
letter_waits draft body chunk i n within other room h =
    let more = one_letter body i within other in
    let put = take_more_set chunk n (get_or body i 0) room in
    record {
      words = h.words;
      threes = h.threes;
      are = h.are;
      held = h.held;
      printed = more ∙ ap (λ seen. seen ++ get_or body i 0 ∷ []) h.printed ∙ append_assoc (encode_of standard (bytes_of h.words)) (take n chunk) (get_or body i 0 ∷ [])
          ∙ ap (λ waiting. encode_of standard (bytes_of h.words) ++ waiting) (sym put);
    }

-- a letter that comes first, after a chunk
pub letter_first : (draft : Draft) (body chunk : List ℕ) (i : ℕ) → i < length body → get_or body i 0 ≢ 10 → length chunk ≡ 16
    → AreLetters draft (letters (take i body)) [] → AreLetters draft (letters (take (i + 1) body)) (take 1 (set chunk 0 (get_or body i 0)))
letter_first draft body chunk i within other sized h = letter_waits draft body chunk i 0 within other (omega arith) h

-- what is still to come begins with this letter
pub letters_behind : (body : List ℕ) (i : ℕ) → i < length body → get_or body i 0 ≢ 10
    → (letters body ≡ letters (take i body) ++ letters (drop i body)) × (letters (drop i body) ≢ [])
letters_behind body i within other =
    let both : letters body ≡ letters (take i body) ++ letters (drop i body) =
    ap letters (sym (take-append-drop i body)) ∙ filter-append (λ b. not (b == 10)) (take i body) (drop i body) in
    let first : drop i body ≡ get_or body i 0 ∷ drop (i + 1) body = drop_more body i 0 within in
    let is : letters (drop i body) ≡ get_or body i 0 ∷ letters (drop (i + 1) body) = ap letters first ∙ rw (letter (get_or body i 0) other) refl in
    (both, λ none. cc)

-- at first nothing is read
pub no_letters : (draft : Draft) → Holds draft [] → AreLetters draft [] []
no_letters draft h =
    record {
      words = [];
      threes = refl;
      are = All-nil (λ word. word < 2 ^ 32);
      held = h;
      printed = sym (append-nil (encode_of standard []) ∙ encode_of-nil standard);
    }
