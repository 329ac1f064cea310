-- What is found of a newline by the search for a byte.
use Rattle.std.proofs.Common.{◌≡◌, ◌≢◌, ℕ, suc, ◌+◌, ◌<◌, ◌≤◌, eqb, List, ◌∷◌, ◌++◌, length, take, drop, Option, Some, None, IfSome, IfNone, sym, ap, subst, ◌∙◌, arith}
use Rattle.std.specs.Prelude.{slice_index}
use Rattle.std.proofs.Math.Seq.{split_at}
use Rattle.std.proofs.lemmas.Bool.{eqb-true}
use Rattle.std.proofs.lemmas.List.{get_or-take, length-take-le, take_all}
use Rattle.std.proofs.lemmas.List.Elements.{All-from_get_or}
use Rattle.memchr.specs.Find.{IsFirstByte, Nowhere, Passes, is_byte}
use Rattle.pb_grammar.specs.Grammar.{IsText}
use Rattle.pb_replay.specs.Newlines.{IsNewline}

passes : (text : List ℕ) (place : ℕ) → slice_index text place ≡ 10 → Passes (is_byte 10) text place
passes text place e = ap (λ b. eqb b 10) e

text_before : (text : List ℕ) (n : ℕ) → n ≤ length text → Nowhere (Passes (is_byte 10) text) 0 n → IsText (take n text)
text_before text n within h =
    All-from_get_or (λ b. b ≢ 10) (take n text) 0 (λ i lt e.
    let below : i < n = omega (arith, length-take-le n text within, lt) in
    h i (omega arith) below (passes text i (sym (get_or-take n text i 0 below) ∙ e)))

pub no_newline : (text : List ℕ) (r : Option ℕ) → IsFirstByte (is_byte 10) text r → IfNone r (IsText text)
no_newline text None h = subst IsText (take_all (length text) text (omega arith)) (text_before text (length text) (omega arith) h)
no_newline text (Some place) h = tt

pub at_newline : (text : List ℕ) (r : Option ℕ) → IsFirstByte (is_byte 10) text r → IfSome r (IsNewline text)
at_newline text None h = tt
at_newline text (Some place) h =
    let next : suc place ≡ place + 1 = omega arith in
    let cut : text ≡ take place text ++ 10 ∷ drop (suc place) text = split_at text place 0 h.0.high ∙ ap (λ b. take place text ++ b ∷ drop (suc place) text) (eqb-true (slice_index text place) 10 h.1) in
    record {
      within = h.0.high;
      before = text_before text place (omega (arith, h.0.high)) h.0.before;
      parts = subst (λ k. text ≡ take place text ++ 10 ∷ drop k text) next cut;
    }
