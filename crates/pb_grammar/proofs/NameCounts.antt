-- How many names a text is, byte by byte.
use Rattle.std.proofs.Common.{◌≡◌, ◌==◌, ℕ, ◌+◌, ◌<◌, Bool, true, false, cond, not, nat_lt, ◌&&◌, ◌||◌, if◌then◌else◌, List, [], ◌∷◌, length, refl, ap, ◌∙◌, arith}
use Rattle.std.specs.List.{list_all, onto_first}
use Rattle.std.proofs.lemmas.Bool.{cond_both, cond-true, cond-false, lt-ltb, or_right}
use Rattle.pb_grammar.specs.Targets.{is_name_byte, is_name}
use Rattle.pb_grammar.specs.Grammar.{pieces, names_in}

-- how many names the text is where it goes on behind that many, the last of them still without a byte
-- if it is empty; 0 for any other text
abbrev pub names_on : ℕ → Bool → List ℕ → ℕ
names_on count empty [] = if empty then 0 else count
names_on count empty (b ∷ bs) =
    if b == 46
    then (if empty then 0 else names_on (count + 1) true bs)
    else (if is_name_byte b then names_on count false bs else 0)

-- the same, from the pieces of the text
pieces_on : ℕ → Bool → List (List ℕ) → ℕ
pieces_on count empty [] = 0
pieces_on count empty (p ∷ ps) =
    if (not empty || nat_lt 0 (length p)) && (list_all is_name_byte p && list_all is_name ps) then count + length ps else 0

-- a text has a piece
pieces_some : (text : List ℕ) → 0 < length (pieces text)
pieces_some [] = omega arith
pieces_some (b ∷ bs) =
    cond_both (b == 46) ([] ∷ pieces bs) (onto_first b (pieces bs)) (λ ps. 0 < length ps)
    (λ _. omega arith) (λ _. onto_some b (pieces bs))
  where
    onto_some : (b : ℕ) (ps : List (List ℕ)) → 0 < length (onto_first b ps)
    onto_some b [] = omega arith
    onto_some b (p ∷ ps) = omega arith

regrouped : (a b c : Bool) (m n : ℕ) → m ≡ n → cond (a && (b && c)) m 0 ≡ cond ((a && b) && c) n 0
regrouped true b c m n e = ap (λ k. cond (b && c) k 0) e
regrouped false b c m n e = refl

at_point : (count : ℕ) (empty : Bool) (ps : List (List ℕ)) → 0 < length ps → cond empty 0 (pieces_on (count + 1) true ps) ≡ pieces_on count empty ([] ∷ ps)
unfolding pieces_on
at_point count true ps h = refl
at_point count false [] h = absurd (omega arith)
at_point count false (p ∷ ps) h =
    regrouped (nat_lt 0 (length p)) (list_all is_name_byte p) (list_all is_name ps) (count + 1 + length ps) (count + length (p ∷ ps)) (omega arith)

begun : (empty : Bool) (b : ℕ) (p : List ℕ) → (not empty || nat_lt 0 (length (b ∷ p))) ≡ true
begun empty b p = or_right (not empty) (nat_lt 0 (length (b ∷ p))) (lt-ltb 0 (length (b ∷ p)) (omega arith))

-- the byte of a name, and another byte
one_byte : (begins same rest : Bool) (n : ℕ) → begins ≡ true → cond same (cond rest n 0) 0 ≡ cond (begins && (same && rest)) n 0
one_byte begins true rest n e = grind arith
one_byte begins false rest n e = grind arith

grouped : (a b c : Bool) → (a && (b && c)) ≡ ((a && b) && c)
grouped true b c = refl
grouped false b c = refl

at_byte : (b count : ℕ) (empty : Bool) (ps : List (List ℕ)) → 0 < length ps → cond (is_name_byte b) (pieces_on count false ps) 0 ≡ pieces_on count empty (onto_first b ps)
unfolding pieces_on
at_byte b count empty [] h = absurd (omega arith)
at_byte b count empty (p ∷ ps) h =
    one_byte (not empty || nat_lt 0 (length (b ∷ p))) (is_name_byte b) (list_all is_name_byte p && list_all is_name ps) (count + length ps) (begun empty b p)
    ∙ ap (λ t. cond ((not empty || nat_lt 0 (length (b ∷ p))) && t) (count + length ps) 0) (grouped (is_name_byte b) (list_all is_name_byte p) (list_all is_name ps))

-- the two are the same
names_on_pieces : (text : List ℕ) (count : ℕ) (empty : Bool) → names_on count empty text ≡ pieces_on count empty (pieces text)
unfolding pieces_on
names_on_pieces [] count true = refl
names_on_pieces [] count false = omega arith
names_on_pieces (b ∷ bs) count empty =
    cond_both (b == 46) ([] ∷ pieces bs) (onto_first b (pieces bs))
    (λ ps. names_on count empty (b ∷ bs) ≡ pieces_on count empty ps)
    (λ e.
    cond-true (b == 46) (cond empty 0 (names_on (count + 1) true bs)) (cond (is_name_byte b) (names_on count false bs) 0) e
    ∙ ap (λ n. cond empty 0 n) (names_on_pieces bs (count + 1) true)
    ∙ at_point count empty (pieces bs) (pieces_some bs))
    (λ e.
    cond-false (b == 46) (cond empty 0 (names_on (count + 1) true bs)) (cond (is_name_byte b) (names_on count false bs) 0) e
    ∙ ap (λ n. cond (is_name_byte b) n 0) (names_on_pieces bs count false)
    ∙ at_byte b count empty (pieces bs) (pieces_some bs))

whole : (ps : List (List ℕ)) → 0 < length ps → pieces_on 1 true ps ≡ cond (list_all is_name ps) (length ps) 0
unfolding pieces_on
whole [] h = absurd (omega arith)
whole (p ∷ ps) h =
    regrouped (nat_lt 0 (length p)) (list_all is_name_byte p) (list_all is_name ps) (1 + length ps) (length (p ∷ ps)) (omega arith)

-- a whole text
pub names_on_all : (text : List ℕ) → names_on 1 true text ≡ names_in text
unfolding names_in
names_on_all text = names_on_pieces text 1 true ∙ whole (pieces text) (pieces_some text)
