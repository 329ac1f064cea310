-- The text of a line: there is one, and it is computed.
use Rattle.std.proofs.Common.{◌≡◌, ◌≢◌, ◌==◌, ℕ, cond, List, [], ◌∷◌, ◌++◌, length, Option, Some, None, MatchOption, refl, sym, ap, subst, ◌∙◌, arith}
use Rattle.std.specs.Option.{option_map}
use Rattle.std.proofs.lemmas.Bool.{cond_both, eqb-true, eqb-false}
use Rattle.std.proofs.lemmas.List.{append_cancel_right}
use Rattle.std.proofs.lemmas.List.Elements.{All-cons, All-nil, All-head, All-tail}
use Rattle.pb_grammar.specs.Grammar.{IsText, IsLine, line_text}

-- the text that is found makes a line of the bytes
abbrev pub Found : List ℕ → Option (List ℕ) → Type 0
Found bytes found = MatchOption found ((text : List ℕ) → ¬ (IsLine bytes text)) (IsLine bytes)

no_newline : (text : List ℕ) → [] ≢ text ++ 10 ∷ []
no_newline [] p = cc
no_newline (c ∷ cs) p = cc

newline_within : (b : ℕ) (bs text : List ℕ) → IsText text → 10 ∷ (b ∷ bs) ≢ text ++ 10 ∷ []
newline_within b bs [] t p = cc
newline_within b bs (c ∷ cs) t p = All-head (λ d. d ≢ 10) c cs t cc

newline_first : (bs : List ℕ) → Found (10 ∷ bs) (cond (length bs == 0) (Some []) None)
newline_first [] = (All-nil (λ b. b ≢ 10), refl)
newline_first (b ∷ bs) =
    cond_both (length (b ∷ bs) == 0) (Some []) None (Found (10 ∷ (b ∷ bs)))
    (λ empty. absurd (omega (arith, eqb-true (length (b ∷ bs)) 0 empty)))
    (λ more. λ text line. newline_within b bs text line.0 line.1)

no_line_more : (b : ℕ) (bs text : List ℕ) → b ≢ 10 → ((rest : List ℕ) → ¬ (IsLine bs rest)) → IsText text → b ∷ bs ≢ text ++ 10 ∷ []
no_line_more b bs [] ne h t p = ne cc
no_line_more b bs (c ∷ cs) ne h t p = h cs (All-tail (λ d. d ≢ 10) c cs t, cc)

Found-more : (b : ℕ) (bs : List ℕ) → b ≢ 10 → (found : Option (List ℕ)) → Found bs found → Found (b ∷ bs) (option_map (λ text. b ∷ text) found)
Found-more b bs ne None h = λ text line. no_line_more b bs text ne h line.0 line.1
Found-more b bs ne (Some text) h = (All-cons (λ c. c ≢ 10) b text ne h.0, cc)

pub line_text_found : (bytes : List ℕ) → Found bytes (line_text bytes)
line_text_found [] = λ text line. no_newline text line.1
line_text_found (b ∷ bs) =
    cond_both (b == 10) (cond (length bs == 0) (Some []) None) (option_map (λ text. b ∷ text) (line_text bs)) (Found (b ∷ bs))
    (λ same. rw (eqb-true b 10 same) (newline_first bs))
    (λ other. Found-more b bs (eqb-false b 10 other) (line_text bs) (line_text_found bs))

-- bytes are the line of one text
pub one_line : (bytes s t : List ℕ) → IsLine bytes s → IsLine bytes t → s ≡ t
one_line bytes s t h k = append_cancel_right s t (10 ∷ []) (sym h.1 ∙ k.1)

line_found : (bytes text : List ℕ) → IsLine bytes text → (found : Option (List ℕ)) → Found bytes found → found ≡ Some text
line_found bytes text line None h = absurd (h text line)
line_found bytes text line (Some other) h = ap (λ t. Some t) (one_line bytes other text h line)

-- the text of a line is found
pub line_of : (bytes text : List ℕ) → IsLine bytes text → line_text bytes ≡ Some text
line_of bytes text line = line_found bytes text line (line_text bytes) (line_text_found bytes)

none_found : (bytes : List ℕ) → ((text : List ℕ) → ¬ (IsLine bytes text)) → (found : Option (List ℕ)) → Found bytes found → found ≡ None
none_found bytes none None h = refl
none_found bytes none (Some text) h = absurd (none text h)

-- in other bytes there is none
pub no_line : (bytes : List ℕ) → ((text : List ℕ) → ¬ (IsLine bytes text)) → line_text bytes ≡ None
no_line bytes none = none_found bytes none (line_text bytes) (line_text_found bytes)

-- nor in those that have a newline before the last
pub not_line : (bytes text : List ℕ) → ¬ (IsText text) → bytes ≡ text ++ 10 ∷ [] → line_text bytes ≡ None
not_line bytes text other h =
    no_line bytes (λ s line. other (subst IsText (append_cancel_right s text (10 ∷ []) (sym line.1 ∙ h)) line.0))
