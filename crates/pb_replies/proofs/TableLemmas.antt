-- The bytes of a table, and the lines of their base64 text.
use Rattle.std.proofs.Common.{◌≡◌, ℕ, zero, suc, ◌+◌, ◌-◌, ◌*◌, ◌/◌, ◌%◌, ◌<◌, ◌≤◌, min, leb, Bool, true, false, List, [], ◌∷◌, ◌++◌, length, get_or, set, take, drop, refl, sym, ap, ◌∙◌, inl, inr, ◌⊎◌, arith}
use Rattle.std.proofs.lemmas.Bool.{leb-true, leb-false}
use Rattle.std.proofs.lemmas.List.{length-take-le, length-drop, take-append-drop, take_all, take_at, drop_at, get_or-append-add, take_more, take_more_set, get_or-drop}
use Rattle.std.proofs.lemmas.List.FromFn.{length-map-range_with_len, get_or-map-range_with_len}
use Rattle.base64.specs.Engines.{standard}
use Rattle.base64.specs.GeneralPurpose.{encode_of}
use Rattle.base64.proofs.EngineFacts.{encode_of-append}
use Rattle.byteorder.specs.Endian.{little_bytes}
use Rattle.pb_tables.specs.Bodies.{bytes_of}
use Rattle.pb_tables.proofs.EncodingCuts.{length-encode}
use Rattle.pb_tables.proofs.ChunkLemmas.{length-bytes_of}
use Rattle.pb_replies.specs.Tables.{line_at, base64_lines}

-- the byte at a place belongs to the word at a quarter of it
first_byte : (word i : ℕ) (rest : List ℕ) → i < 4 → get_or (little_bytes 4 word ++ rest) i 0 ≡ get_or (little_bytes 4 word) i 0
first_byte word zero rest lt = refl
first_byte word (suc zero) rest lt = refl
first_byte word (suc (suc zero)) rest lt = refl
first_byte word (suc (suc (suc zero))) rest lt = refl
first_byte word (suc (suc (suc (suc i)))) rest lt = absurd (omega arith)

early : (i : ℕ) → (i < 4) ⊎ (4 ≤ i)
early zero = inl (omega arith)
early (suc zero) = inl (omega arith)
early (suc (suc zero)) = inl (omega arith)
early (suc (suc (suc zero))) = inl (omega arith)
early (suc (suc (suc (suc i)))) = inr (omega arith)

pub byte_there : (words : List ℕ) (i : ℕ) → i < 4 * length words →
    get_or (bytes_of words) i 0 ≡ get_or (little_bytes 4 (get_or words (i / 4) 0)) (i % 4) 0
byte_there [] i lt = absurd (omega arith)
byte_there (word ∷ words) i lt = elim (early i) [
  | inl less ↦
      let quarter : i / 4 ≡ 0 = omega (arith, less) in
      let same : i % 4 ≡ i = omega (arith, less) in
      first_byte word i (bytes_of words) less
      ∙ (ap (λ n. get_or (little_bytes 4 word) n 0) (sym same)
      ∙ ap (λ n. get_or (little_bytes 4 (get_or (word ∷ words) n 0)) (i % 4) 0) (sym quarter))
  | inr more ↦
      let j : ℕ = i - 4 in
      let place : i ≡ 4 + j = omega (arith, more) in
      let quarter : i / 4 ≡ suc (j / 4) = omega (arith, more) in
      let same : i % 4 ≡ j % 4 = omega (arith, more) in
      ap (λ n. get_or (bytes_of (word ∷ words)) n 0) place
      ∙ (get_or-append-add (little_bytes 4 word) (bytes_of words) j 0
      ∙ (byte_there words j (omega arith)
      ∙ (ap (λ n. get_or (little_bytes 4 (get_or words (j / 4) 0)) n 0) (sym same)
      ∙ ap (λ n. get_or (little_bytes 4 (get_or (word ∷ words) n 0)) (i % 4) 0) (sym quarter))))
]

-- The bytes of a line, one after the other.

pub one_byte_more : (bytes out : List ℕ) (start j v : ℕ) → start + j < length bytes → j < length out →
    take j out ≡ take j (drop start bytes) → v ≡ get_or bytes (start + j) 0 → take (j + 1) (set out j v) ≡ take (j + 1) (drop start bytes)
one_byte_more bytes out start j v inside within so_far here =
    take_more_set out j v within
    ∙ (ap (λ l. l ++ v ∷ []) so_far
    ∙ (ap (λ x. take j (drop start bytes) ++ x ∷ []) (here ∙ sym (get_or-drop start bytes j 0))
    ∙ sym (take_more (drop start bytes) j 0 (omega (arith, length-drop start bytes)))))

pub all_bytes : (bytes : List ℕ) (start count : ℕ) → count ≡ min 57 (length bytes - start) → take count (drop start bytes) ≡ take 57 (drop start bytes)
all_bytes bytes start count is = by (leb 57 (length bytes - start)) refl
  where
    by : (b : Bool) → leb 57 (length bytes - start) ≡ b → take count (drop start bytes) ≡ take 57 (drop start bytes)
    by true e =
        let many : 57 ≤ length bytes - start = leb-true 57 (length bytes - start) e in
        let whole : count ≡ 57 = omega (arith, is, many) in
        ap (λ n. take n (drop start bytes)) whole
    by false e =
        let few : length bytes - start < 57 = leb-false 57 (length bytes - start) e in
        take_all count (drop start bytes) (omega (arith, is, few, length-drop start bytes))
        ∙ sym (take_all 57 (drop start bytes) (omega (arith, few, length-drop start bytes)))

-- Each line is the text of 57 bytes.

front_is : (bytes : List ℕ) (n : ℕ) → n ≤ length bytes → n % 3 ≡ 0 →
    encode_of standard bytes ≡ encode_of standard (take n bytes) ++ encode_of standard (drop n bytes)
front_is bytes n within whole =
    let size : length (take n bytes) ≡ n = length-take-le n bytes within in
    ap (encode_of standard) (sym (take-append-drop n bytes))
    ∙ encode_of-append standard (take n bytes) (drop n bytes) (ap (λ k. k % 3) size ∙ whole)

first_line : (bytes : List ℕ) → take 76 (encode_of standard bytes) ≡ encode_of standard (take 57 bytes)
first_line bytes = elim (short (length bytes)) [
  | inl few ↦
      take_all 76 (encode_of standard bytes) (omega (arith, length-encode bytes, few))
      ∙ ap (encode_of standard) (sym (take_all 57 bytes few))
  | inr many ↦
      let size : length (take 57 bytes) ≡ 57 = length-take-le 57 bytes many in
      let letters : length (encode_of standard (take 57 bytes)) ≡ 76 = omega (arith, length-encode (take 57 bytes), size) in
      ap (take 76) (front_is bytes 57 many refl)
      ∙ take_at (encode_of standard (take 57 bytes)) (encode_of standard (drop 57 bytes)) 76 letters
]
  where
    by : (n : ℕ) (b : Bool) → leb n 57 ≡ b → (n ≤ 57) ⊎ (57 ≤ n)
    by n true e = inl (leb-true n 57 e)
    by n false e = inr (let more : 57 < n = leb-false n 57 e in omega (arith, more))

    short : (n : ℕ) → (n ≤ 57) ⊎ (57 ≤ n)
    short n = by n (leb n 57) refl

pub line_is : (bytes : List ℕ) (i : ℕ) → 57 * i ≤ length bytes →
    line_at (encode_of standard bytes) i ≡ encode_of standard (take 57 (drop (57 * i) bytes))
line_is bytes i within =
    let size : length (take (57 * i) bytes) ≡ 57 * i = length-take-le (57 * i) bytes within in
    let letters : length (encode_of standard (take (57 * i) bytes)) ≡ 76 * i = omega (arith, length-encode (take (57 * i) bytes), size) in
    ap (λ l. take 76 (drop (76 * i) l)) (front_is bytes (57 * i) within (omega arith))
    ∙ (ap (take 76) (drop_at (encode_of standard (take (57 * i) bytes)) (encode_of standard (drop (57 * i) bytes)) (76 * i) letters)
    ∙ first_line (drop (57 * i) bytes))

-- there is a line for each 57 bytes that are begun
pub count_lines : (words : List ℕ) → length (base64_lines words) ≡ (4 * length words + 56) / 57
unfolding base64_lines
count_lines words =
    let text : List ℕ = encode_of standard (bytes_of words) in
    length-map-range_with_len (line_at text) 0 ((length text + 75) / 76)
    ∙ omega (arith, length-encode (bytes_of words), length-bytes_of words)

pub line_there : (words : List ℕ) (i : ℕ) → 57 * i < 4 * length words →
    encode_of standard (take 57 (drop (57 * i) (bytes_of words))) ≡ get_or (base64_lines words) i []
unfolding base64_lines
line_there words i within =
    let text : List ℕ = encode_of standard (bytes_of words) in
    let size = length-bytes_of words in
    sym (get_or-map-range_with_len (line_at text) 0 ((length text + 75) / 76) i i [] (omega (arith, length-encode (bytes_of words), size)) (omega arith)
    ∙ line_is (bytes_of words) i (omega (arith, size)))

-- a line's letters have room
pub letters_fit : (bytes : List ℕ) → length bytes ≤ 57 → length (encode_of standard bytes) ≤ 76
letters_fit bytes few = omega (arith, length-encode bytes)
