-- Where an encoding is cut, and what its parts are encodings of.
use Rattle.std.proofs.Common.{◌≡◌, ℕ, ◌+◌, ◌*◌, ◌/◌, ◌%◌, ◌<◌, true, List, ◌++◌, length, take, drop, replicate, Ok, refl, sym, ap, subst, ◌∙◌, inl, inr, nat_eq, arith}
use Rattle.std.specs.Prelude.{MatchBool}
use Rattle.std.proofs.lemmas.Bool.{cases_Bool}
use Rattle.std.proofs.lemmas.Bool.Decides.{nat_tests}
use Rattle.std.proofs.lemmas.List.{length-append, length-take-le, length-replicate, take-append-drop, take_at, drop_at, get_or-drop}
use Rattle.base64.specs.Engines.{standard}
use Rattle.base64.specs.GeneralPurpose.{IsBytes, IsStrict, IsConsistent, encode_of, decode_of}
use Rattle.base64.specs.Rfc4648.{encode_symbols, padding_len}
use Rattle.base64.proofs.RoundTrip.{length-encode_symbols}
use Rattle.base64.proofs.EngineFacts.{decode_of-encode_of, encode_of-append, front_bytes}
use Rattle.pb_tables.specs.Chunks.{IsChunk}

pub strict : IsStrict standard
strict = (refl, refl)

pub consistent : IsConsistent standard
consistent = refl

-- bytes in front, and behind
pub IsBytes-take : (n : ℕ) (bytes : List ℕ) → IsBytes bytes → IsBytes (take n bytes)
IsBytes-take n bytes low = front_bytes (take n bytes) (drop n bytes) (subst IsBytes (sym (take-append-drop n bytes)) low)

pub IsBytes-drop : (n : ℕ) (bytes : List ℕ) → IsBytes bytes → IsBytes (drop n bytes)
IsBytes-drop n bytes low i = let same = get_or-drop n bytes i 0 in rw same (low (n + i))

-- an encoding is that of one list of bytes
pub encode_injective : (a b : List ℕ) → IsBytes a → IsBytes b → encode_of standard a ≡ encode_of standard b → a ≡ b
encode_injective a b la lb e =
    let one : decode_of standard (encode_of standard a) ≡ Ok a = decode_of-encode_of standard a consistent la in
    let two : decode_of standard (encode_of standard b) ≡ Ok b = decode_of-encode_of standard b consistent lb in
    let both : Ok a ≡ Ok b = sym one ∙ ap (decode_of standard) e ∙ two in
    cc

-- four letters for each three bytes that are begun
pub length-encode : (bytes : List ℕ) → length (encode_of standard bytes) ≡ 4 * ((length bytes + 2) / 3)
length-encode bytes =
    let symbols = length-encode_symbols standard.encode_table bytes in
    let both = length-append (encode_symbols standard.encode_table bytes) (replicate (padding_len (length bytes)) 61) in
    let pad = length-replicate {A = ℕ} (padding_len (length bytes)) 61 in
    omega (arith, both, symbols, pad)

-- two cuts at one place
same_cut : (a r x y : List ℕ) → length a ≡ length x → a ++ r ≡ x ++ y → (a ≡ x) × (r ≡ y)
same_cut a r x y len e = (
  sym (take_at a r (length x) len) ∙ ap (take (length x)) e ∙ take_at x y (length x) refl,
  sym (drop_at a r (length x) len) ∙ ap (drop (length x)) e ∙ drop_at x y (length x) refl,
)

-- what stands in front of an encoding is that of the bytes in front, where it is whole groups
pub front_of : (k : ℕ) (a r bytes : List ℕ) → k % 3 ≡ 0 → length a ≡ 4 * (k / 3) → 0 < length r → a ++ r ≡ encode_of standard bytes
    → (k < length bytes) × (a ≡ encode_of standard (take k bytes)) × (r ≡ encode_of standard (drop k bytes))
front_of k a r bytes whole len some e =
    let longer : k < length bytes = omega (arith, length-encode bytes, length-append a r, ap length e) in
    let size : length (take k bytes) ≡ k = length-take-le k bytes (omega arith) in
    let parts : encode_of standard bytes ≡ encode_of standard (take k bytes) ++ encode_of standard (drop k bytes) =
    ap (encode_of standard) (sym (take-append-drop k bytes)) ∙ encode_of-append standard (take k bytes) (drop k bytes) (omega arith) in
    let same : length a ≡ length (encode_of standard (take k bytes)) = omega (arith, length-encode (take k bytes)) in
    let cut = same_cut a r (encode_of standard (take k bytes)) (encode_of standard (drop k bytes)) same (e ∙ parts) in
    (longer, cut.0, cut.1)

pub length_whole : (bytes : List ℕ) → length bytes % 3 ≡ 0 → length (encode_of standard bytes) ≡ 4 * (length bytes / 3)
length_whole bytes whole = omega (arith, length-encode bytes)

-- whether a chunk is that of twelve bytes
pub whole_or_not : (letters out : List ℕ) (n : ℕ) → length out ≡ 12 → IsChunk letters n out
    → MatchBool (nat_eq n 12) (IsChunk letters 12 out) ((bytes : List ℕ) → IsBytes bytes → length bytes ≡ 12 → letters ≡ encode_of standard bytes → ⊥)
whole_or_not letters out n sized chunk = elim (cases_Bool (nat_eq n 12)) [
  | inl is ↦
      let same : n ≡ 12 = grind (arith, nat_tests) in
      rw is (subst (λ k. IsChunk letters k out) same chunk)
  | inr is ↦
      rw is (λ bytes low len e.
      let same : take n out ≡ bytes = encode_injective (take n out) bytes chunk.bytes low (sym chunk.printed ∙ e) in
      let size : length (take n out) ≡ n = length-take-le n out (omega (arith, chunk.few)) in
      let twelve : n ≡ 12 = omega (arith, ap length same) in
      let other : nat_eq n 12 ≡ true = grind (arith, nat_tests) in
      cc)
]
