-- One more word is held.
use Rattle.std.proofs.Common.{◌≡◌, ℕ, ◌+◌, ◌<◌, ◌≤◌, List, [], ◌∷◌, ◌++◌, length, take, refl, arith}
use Rattle.std.proofs.Math.ListN.{set}
use Rattle.std.proofs.lemmas.List.{length-append, take_all, take-append-le, take_more_set}

-- where there is room
pub held_more : (items words : List ℕ) (count word : ℕ) → length items ≡ 16384 → count < 16384 → count ≡ length words → take count items ≡ take 16384 words
    → take (count + 1) (set items count word) ≡ take 16384 (words ++ word ∷ [])
held_more items words count word sized room counted held =
    let len = length-append words (word ∷ []) in
    let before : take 16384 words ≡ words = take_all 16384 words (omega arith) in
    let after : take 16384 (words ++ word ∷ []) ≡ words ++ word ∷ [] = take_all 16384 (words ++ word ∷ []) (omega arith) in
    let one = take_more_set items count word (omega arith) in
    rw (one, held, before, after) refl

-- where there is none
pub held_full : (items words : List ℕ) (count word : ℕ) → length items ≡ 16384 → 16384 ≤ count → count ≡ length words → take count items ≡ take 16384 words
    → take (count + 1) items ≡ take 16384 (words ++ word ∷ [])
held_full items words count word sized full counted held =
    let all : take (count + 1) items ≡ items = take_all (count + 1) items (omega arith) in
    let same : take count items ≡ items = take_all count items (omega arith) in
    let front : take 16384 (words ++ word ∷ []) ≡ take 16384 words = take-append-le 16384 words (word ∷ []) (omega arith) in
    rw (all, front, ← held, same) refl
