-- How the bytes of table writes are cut: at their newlines, in one way.
use Rattle.std.proofs.Common.{◌≡◌, ◌≢◌, ◌==◌, ℕ, ◌<◌, true, false, cond, List, [], ◌∷◌, ◌++◌, length, Option, Some, None, MatchOption, refl, sym, ap, subst, ◌∙◌, arith, append_assoc}
use Rattle.std.specs.List.{All, list_all, onto_first, join_with_byte}
use Rattle.std.specs.Option.{option_map}
use Rattle.std.proofs.lemmas.Bool.{cond_both, and_parts, both_ways, eqb-true, eqb-false, ne_eqb}
use Rattle.std.proofs.lemmas.List.{nil_from_length}
use Rattle.std.proofs.lemmas.List.Elements.{All-cons, All-nil, All-head, All-tail}
use Rattle.std.proofs.lemmas.List.Splits.{join_with_byte-slice_split, slice_split_at}
use Rattle.pb_grammar.specs.Grammar.{IsText, IsBodyLine, body_of, body_text, is_end, is_printable, rows}

pub record Cut (s t x y : List ℕ) : Type 0 where
  pub front : s ≡ t
  pub behind : x ≡ y

-- what stands before the first newline, and behind it
pub first_cut : (s t x y : List ℕ) → IsText s → IsText t → s ++ 10 ∷ x ≡ t ++ 10 ∷ y → Cut s t x y
first_cut [] [] x y h k e = record { front = refl; behind = cc }
first_cut [] (c ∷ cs) x y h k e = let same : c ≡ 10 = cc in absurd (All-head (λ d. d ≢ 10) c cs k same)
first_cut (b ∷ bs) [] x y h k e = let same : b ≡ 10 = cc in absurd (All-head (λ d. d ≢ 10) b bs h same)
first_cut (b ∷ bs) (c ∷ cs) x y h k e =
    let cut = first_cut bs cs x y (All-tail (λ d. d ≢ 10) b bs h) (All-tail (λ d. d ≢ 10) c cs k) cc in
    let same : b ≡ c = cc in
    record { front = ap (λ z. z ∷ bs) same ∙ ap (λ z. c ∷ z) cut.front; behind = cut.behind }

-- a text has no newline
pub newline_in : (s y : List ℕ) → IsText (s ++ 10 ∷ y) → ⊥
newline_in [] y h = All-head (λ d. d ≢ 10) 10 y h refl
newline_in (b ∷ bs) y h = newline_in bs y (All-tail (λ d. d ≢ 10) b (bs ++ 10 ∷ y) h)

pub printable_text : (s : List ℕ) → list_all is_printable s ≡ true → IsText s
printable_text [] h = All-nil (λ d. d ≢ 10)
printable_text (b ∷ bs) h =
    let parts = and_parts (is_printable b) (list_all is_printable bs) h in
    All-cons (λ d. d ≢ 10) b bs (λ e. both_ways (is_printable b) (ap is_printable e) parts.0) (printable_text bs parts.1)

-- Bodies.

pub body_more : (line : List ℕ) (lines : List (List ℕ)) (x : List ℕ) → body_text (line ∷ lines) ++ x ≡ line ++ 10 ∷ (body_text lines ++ x)
body_more line lines x =
    append_assoc (line ++ 10 ∷ []) (body_text lines) x ∙ append_assoc line (10 ∷ []) (body_text lines ++ x)

-- two bodies with an empty line behind them
pub body_cut : (ls ms : List (List ℕ)) (x y : List ℕ) → All IsBodyLine ls → All IsBodyLine ms → body_text ls ++ 10 ∷ x ≡ body_text ms ++ 10 ∷ y → x ≡ y
body_cut [] [] x y h k e = cc
body_cut [] (m ∷ ms) x y h k e =
    let is = All-head IsBodyLine m ms k in
    let cut = first_cut [] m x (body_text ms ++ 10 ∷ y) (All-nil (λ d. d ≢ 10)) is.text (e ∙ body_more m ms (10 ∷ y)) in
    absurd (omega (arith, is.some, ap length cut.front))
body_cut (l ∷ ls) [] x y h k e =
    let is = All-head IsBodyLine l ls h in
    let cut = first_cut l [] (body_text ls ++ 10 ∷ x) y is.text (All-nil (λ d. d ≢ 10)) (sym (body_more l ls (10 ∷ x)) ∙ e) in
    absurd (omega (arith, is.some, ap length cut.front))
body_cut (l ∷ ls) (m ∷ ms) x y h k e =
    let cut = first_cut l m (body_text ls ++ 10 ∷ x) (body_text ms ++ 10 ∷ y) (All-head IsBodyLine l ls h).text (All-head IsBodyLine m ms k).text (sym (body_more l ls (10 ∷ x)) ∙ e ∙ body_more m ms (10 ∷ y)) in
    body_cut ls ms x y (All-tail IsBodyLine l ls h) (All-tail IsBodyLine m ms k) cut.behind

-- a body that goes on has no empty line
pub body_open : (ls ms : List (List ℕ)) (current y : List ℕ) → All IsBodyLine ls → All IsBodyLine ms → IsText current → body_text ls ++ current ≡ body_text ms ++ 10 ∷ y → ⊥
body_open [] [] current y h k text e = newline_in [] y (subst IsText e text)
body_open [] (m ∷ ms) current y h k text e = newline_in m (body_text ms ++ 10 ∷ y) (subst IsText (e ∙ body_more m ms (10 ∷ y)) text)
body_open (l ∷ ls) [] current y h k text e =
    let is = All-head IsBodyLine l ls h in
    let cut = first_cut l [] (body_text ls ++ current) y is.text (All-nil (λ d. d ≢ 10)) (sym (body_more l ls current) ∙ e) in
    absurd (omega (arith, is.some, ap length cut.front))
body_open (l ∷ ls) (m ∷ ms) current y h k text e =
    let cut = first_cut l m (body_text ls ++ current) (body_text ms ++ 10 ∷ y) (All-head IsBodyLine l ls h).text (All-head IsBodyLine m ms k).text (sym (body_more l ls current) ∙ e ∙ body_more m ms (10 ∷ y)) in
    body_open ls ms current y (All-tail IsBodyLine l ls h) (All-tail IsBodyLine m ms k) text cut.behind

-- The lines of a body, computed.

not_newline : (s : List ℕ) → IsText s → All (λ b. (b == 10) ≡ false) s
not_newline [] h = All-nil (λ b. (b == 10) ≡ false)
not_newline (b ∷ bs) h =
    All-cons (λ d. (d == 10) ≡ false) b bs (ne_eqb b 10 (All-head (λ d. d ≢ 10) b bs h)) (not_newline bs (All-tail (λ d. d ≢ 10) b bs h))

pub body_of_text : (lines : List (List ℕ)) → All IsBodyLine lines → body_of (rows (body_text lines ++ 10 ∷ [])) ≡ Some lines
body_of_text [] h = refl
body_of_text (l ∷ ls) h =
    let is = All-head IsBodyLine l ls h in
    let empty : (length l == 0) ≡ false = ne_eqb (length l) 0 (λ e. absurd (omega (arith, is.some, e))) in
    ap (λ t. body_of (rows t)) (body_more l ls (10 ∷ []))
    ∙ ap body_of (slice_split_at (λ b. b == 10) l 10 (body_text ls ++ 10 ∷ []) (not_newline l is.text) refl)
    ∙ ap (λ t. cond t (cond (is_end (rows (body_text ls ++ 10 ∷ []))) (Some []) None) (option_map (λ lines. l ∷ lines) (body_of (rows (body_text ls ++ 10 ∷ []))))) empty
    ∙ ap (option_map (λ lines. l ∷ lines)) (body_of_text ls (All-tail IsBodyLine l ls h))

-- each piece is a text
abbrev AreTexts : List (List ℕ) → Type 0
AreTexts [] = Unit {0}
AreTexts (s ∷ ss) = IsText s × AreTexts ss

onto_texts : (b : ℕ) (ss : List (List ℕ)) → b ≢ 10 → AreTexts ss → AreTexts (onto_first b ss)
onto_texts b [] ne h = (All-cons (λ d. d ≢ 10) b [] ne (All-nil (λ d. d ≢ 10)), tt)
onto_texts b (s ∷ ss) ne h = (All-cons (λ d. d ≢ 10) b s ne h.0, h.1)

rows_texts : (bytes : List ℕ) → AreTexts (rows bytes)
rows_texts [] = (All-nil (λ d. d ≢ 10), tt)
rows_texts (b ∷ bs) =
    cond_both (b == 10) ([] ∷ rows bs) (onto_first b (rows bs)) AreTexts
    (λ _. (All-nil (λ d. d ≢ 10), rows_texts bs))
    (λ ne. onto_texts b (rows bs) (eqb-false b 10 ne) (rows_texts bs))

pub record IsBodyOf (bytes : List ℕ) (lines : List (List ℕ)) : Type 0 where
  pub body : All IsBodyLine lines
  pub printed : bytes ≡ body_text lines ++ 10 ∷ []

abbrev pub BodyFound : List ℕ → Option (List (List ℕ)) → Type 0
BodyFound bytes found = MatchOption found (Unit {0}) (IsBodyOf bytes)

end_found : (line : List ℕ) (more : List (List ℕ)) → length line ≡ 0 → is_end more ≡ true → join_with_byte 10 (line ∷ more) ≡ 10 ∷ []
end_found line [] e h = absurd (both_ways false refl h)
end_found line (piece ∷ more) e h =
    let parts = and_parts (length piece == 0) (length more == 0) h in
    let one : line ≡ [] = nil_from_length line e in
    let two : piece ≡ [] = nil_from_length piece (eqb-true (length piece) 0 parts.0) in
    let three : more ≡ [] = nil_from_length more (eqb-true (length more) 0 parts.1) in
    ap (λ l. join_with_byte 10 (l ∷ (piece ∷ more))) one
    ∙ ap (λ l. join_with_byte 10 ([] ∷ (l ∷ more))) two
    ∙ ap (λ l. join_with_byte 10 ([] ∷ ([] ∷ l))) three

line_found : (line : List ℕ) (more : List (List ℕ)) → IsText line → 0 < length line → (found : Option (List (List ℕ))) → body_of more ≡ found → BodyFound (join_with_byte 10 more) found → BodyFound (join_with_byte 10 (line ∷ more)) (option_map (λ lines. line ∷ lines) found)
line_found line [] text some None e h = tt
line_found line [] text some (Some lines) e h = cc
line_found line (m ∷ more) text some None e h = tt
line_found line (m ∷ more) text some (Some lines) e h =
    record {
      body = All-cons IsBodyLine line lines (record { text = text; some = some }) h.body;
      printed = ap (λ t. line ++ 10 ∷ t) h.printed ∙ sym (body_more line lines (10 ∷ []));
    }

body_found : (pieces : List (List ℕ)) → AreTexts pieces → BodyFound (join_with_byte 10 pieces) (body_of pieces)
body_found [] h = tt
body_found (line ∷ more) h =
    cond_both (length line == 0) (cond (is_end more) (Some []) None) (option_map (λ lines. line ∷ lines) (body_of more)) (BodyFound (join_with_byte 10 (line ∷ more)))
    (λ empty.
    cond_both (is_end more) (Some []) None (BodyFound (join_with_byte 10 (line ∷ more)))
    (λ is. record { body = All-nil IsBodyLine; printed = end_found line more (eqb-true (length line) 0 empty) is })
    (λ _. tt))
    (λ some.
    let ne = eqb-false (length line) 0 some in
    line_found line more h.0 (omega (arith, ne)) (body_of more) refl (body_found more h.1))

-- the lines that are computed are those of the body
pub rows_found : (bytes : List ℕ) → BodyFound bytes (body_of (rows bytes))
rows_found bytes =
    subst (λ t. BodyFound t (body_of (rows bytes))) (join_with_byte-slice_split 10 bytes) (body_found (rows bytes) (rows_texts bytes))

-- no body has these bytes
abbrev pub IsNoBody : List ℕ → Type 0
IsNoBody bytes = (lines : List (List ℕ)) → All IsBodyLine lines → ¬ (bytes ≡ body_text lines ++ 10 ∷ [])

pub no_lines : (bytes : List ℕ) → IsNoBody bytes → (found : Option (List (List ℕ))) → BodyFound bytes found → found ≡ None
no_lines bytes none None h = refl
no_lines bytes none (Some lines) h = absurd (none lines h.body h.printed)
