-- An options line goes on by a byte.
use Rattle.std.proofs.Common.{◌≡◌, ◌≢◌, ◌++◌, ◌∷◌, [], ℕ, ◌+◌, ◌<◌, ◌≤◌, List, length, get_or, take, drop, sym, ap, ◌∙◌, subst, append_assoc, arith, length-append, inl, inr}
use Rattle.std.proofs.lemmas.List.{take-append-drop, take_more, drop_more}
use Rattle.std.proofs.lemmas.List.Elements.{All-push, All-nil}
use Rattle.pb_grammar.specs.Grammar.{IsText}
use Rattle.pb_session.specs.Options.{IsUnfinished, HasLine}

-- the bytes of a piece from a place on
split_at : (before piece : List ℕ) (i : ℕ) → i < length piece → before ++ piece ≡ (before ++ take i piece) ++ get_or piece i 0 ∷ drop (i + 1) piece
split_at before piece i lt =
    ap (λ (l : List ℕ). before ++ l) (sym (take-append-drop i piece)) ∙ (sym (append_assoc before (take i piece) (drop i piece))
    ∙ ap (λ (l : List ℕ). (before ++ take i piece) ++ l) (drop_one piece i lt))
  where
    drop_one : (xs : List ℕ) (k : ℕ) → k < length xs → drop k xs ≡ get_or xs k 0 ∷ drop (k + 1) xs
    drop_one xs k h = drop_more xs k 0 h

-- nothing yet
pub unfinished_first : IsUnfinished []
unfinished_first = record { text = All-nil (λ b. b ≢ 10); short = omega arith }

-- a newline ends the line
pub ends_at_newline : (before piece line : List ℕ) (i byte : ℕ) → i < length piece → byte ≡ get_or piece i 0 → byte ≡ 10 → line ≡ before ++ take i piece → IsUnfinished line → HasLine (before ++ piece) line
ends_at_newline before piece line i byte lt at newline is u =
    inl (record {
      rest = drop (i + 1) piece;
      text = u.text;
      short = u.short;
      printed = split_at before piece i lt ∙ (ap (λ (l : List ℕ). l ++ get_or piece i 0 ∷ drop (i + 1) piece) (sym is) ∙ ap (λ (b : ℕ). line ++ b ∷ drop (i + 1) piece) (sym at ∙ newline));
    })

-- one more byte of it
more_text : (line : List ℕ) (byte : ℕ) → IsText line → byte ≢ 10 → IsText (line ++ byte ∷ [])
more_text line byte t ne = All-push (λ b. b ≢ 10) line byte t ne

pub unfinished_more : (line new : List ℕ) (byte : ℕ) → byte ≢ 10 → new ≡ line ++ byte ∷ [] → length new ≤ 4096 → IsUnfinished line → IsUnfinished new
unfinished_more line new byte ne is few u = record { text = subst IsText (sym is) (more_text line byte u.text ne); short = few }

pub front_more : (before piece line new : List ℕ) (i byte : ℕ) → i < length piece → byte ≡ get_or piece i 0 → line ≡ before ++ take i piece → new ≡ line ++ byte ∷ [] → new ≡ before ++ take (i + 1) piece
front_more before piece line new i byte lt at is more =
    more ∙ (ap (λ (l : List ℕ). l ++ byte ∷ []) is ∙ (ap (λ (b : ℕ). (before ++ take i piece) ++ b ∷ []) at ∙ (append_assoc before (take i piece) (get_or piece i 0 ∷ []) ∙ ap (λ (l : List ℕ). before ++ l) (sym (take_more piece i 0 lt)))))

-- too many bytes without a newline
pub ends_too_long : (before piece line new : List ℕ) (i byte : ℕ) → i < length piece → byte ≡ get_or piece i 0 → byte ≢ 10 → line ≡ before ++ take i piece → new ≡ line ++ byte ∷ [] → 4096 < length new → IsUnfinished line → HasLine (before ++ piece) new
ends_too_long before piece line new i byte lt at ne is more long u =
    let short : length line ≤ 4096 = u.short in
    let same : length new ≡ length (line ++ byte ∷ []) = ap length more in
    inr (record {
      rest = drop (i + 1) piece;
      text = subst IsText (sym more) (more_text line byte u.text ne);
      long = omega (arith, same, length-append line (byte ∷ []), short, long);
      printed = ap (λ (l : List ℕ). before ++ l) (sym (take-append-drop (i + 1) piece)) ∙ (sym (append_assoc before (take (i + 1) piece) (drop (i + 1) piece)) ∙ ap (λ (l : List ℕ). l ++ drop (i + 1) piece) (sym (front_more before piece line new i byte lt at is more)));
    })
