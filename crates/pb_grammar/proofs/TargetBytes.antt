-- A target is made of the bytes of names, points and stars.
use Rattle.std.proofs.Common.{◌≡◌, ◌==◌, ℕ, ◌+◌, ◌<◌, Bool, true, false, cond, nat_le, ◌||◌, List, [], ◌∷◌, codes, Option, Some, None, refl, ap, ◌∙◌, arith}
use Rattle.std.specs.List.{list_all}
use Rattle.std.specs.Option.{option_map_or}
use Rattle.std.proofs.lemmas.Bool.{cond_both, and_from, and_parts, or_left, or_right, leb-true}
use Rattle.std.proofs.lemmas.List.Folds.{list_all-append}
use Rattle.pb_grammar.specs.Targets.{is_name_byte}
use Rattle.pb_grammar.specs.Grammar.{after_front, before_end, names_in, is_within, is_plain_target, is_listed, is_star, is_target}
use Rattle.pb_grammar.proofs.Fronts.{Follows, after_front_follows, Precedes, before_end_precedes}
use Rattle.pb_grammar.proofs.NameCounts.{names_on, names_on_all}

-- a byte that can stand in a target
abbrev pub is_target_byte : ℕ → Bool
is_target_byte b = is_name_byte b || (b == 46 || b == 42)

-- all bytes can
abbrev pub AreTargetBytes : List ℕ → Type 0
AreTargetBytes text = list_all is_target_byte text ≡ true

names_on_bytes : (text : List ℕ) (count : ℕ) (empty : Bool) → 0 < names_on count empty text → AreTargetBytes text
names_on_bytes [] count empty = λ _. refl
names_on_bytes (b ∷ bs) count empty =
    cond_both (b == 46) (cond empty 0 (names_on (count + 1) true bs)) (cond (is_name_byte b) (names_on count false bs) 0)
    (λ n. 0 < n → AreTargetBytes (b ∷ bs))
    (λ point.
    cond_both empty 0 (names_on (count + 1) true bs) (λ n. 0 < n → AreTargetBytes (b ∷ bs))
    (λ _ h. absurd (omega arith))
    (λ _ h.
    and_from (is_target_byte b) (list_all is_target_byte bs)
    (or_right (is_name_byte b) (b == 46 || b == 42) (or_left (b == 46) (b == 42) point))
    (names_on_bytes bs (count + 1) true h)))
    (λ _.
    cond_both (is_name_byte b) (names_on count false bs) 0 (λ n. 0 < n → AreTargetBytes (b ∷ bs))
    (λ is h.
    and_from (is_target_byte b) (list_all is_target_byte bs)
    (or_left (is_name_byte b) (b == 46 || b == 42) is) (names_on_bytes bs count false h))
    (λ _ h. absurd (omega arith)))

-- names with points between them
names_bytes : (low high : ℕ) (text : List ℕ) → 0 < low → is_within low high (names_in text) ≡ true → AreTargetBytes text
names_bytes low high text some h =
    let least = leb-true low (names_in text) (and_parts (nat_le low (names_in text)) (nat_le (names_in text) high) h).0 in
    names_on_bytes text 1 true (omega (arith, names_on_all text))

listed_bytes : (text : List ℕ) (found : Option (List ℕ)) → Precedes (codes ".*") text found → option_map_or is_listed found (is_plain_target text) ≡ true → AreTargetBytes text
listed_bytes text None p h = names_bytes 2 3 text (omega arith) h
listed_bytes text (Some front) p h =
    ap (list_all is_target_byte) p ∙ list_all-append is_target_byte front (codes ".*")
    ∙ and_from (list_all is_target_byte front) true (names_bytes 1 2 front (omega arith) h) refl

star_bytes : (text : List ℕ) (found : Option (List ℕ)) → Follows (codes "*") text found → option_map_or is_star found (option_map_or is_listed (before_end (codes ".*") text) (is_plain_target text)) ≡ true → AreTargetBytes text
star_bytes text None p h = listed_bytes text (before_end (codes ".*") text) (before_end_precedes (codes ".*") text) h
star_bytes text (Some name) p h = ap (list_all is_target_byte) p ∙ names_bytes 1 4 name (omega arith) h

pub target_bytes : (text : List ℕ) → is_target text ≡ true → AreTargetBytes text
unfolding is_target
target_bytes text h = star_bytes text (after_front (codes "*") text) (after_front_follows (codes "*") text) h
