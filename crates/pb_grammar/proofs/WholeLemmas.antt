-- Whole commands: they are computed, and end with a newline.
use Rattle.std.proofs.Common.{◌≡◌, ◌==◌, ℕ, ◌+◌, ◌<◌, ◌≤◌, true, false, List, [], ◌∷◌, ◌++◌, length, take, drop, position, Option, Some, None, inl, inr, refl, sym, ap, subst, ◌∙◌, ◌↔◌, arith, length-append, append_assoc, get_or}
use Rattle.std.specs.Option.{option_map_or}
use Rattle.std.proofs.lemmas.Bool.{eqb-true, both_ways}
use Rattle.std.proofs.lemmas.List.{nil_from_length}
use Rattle.std.proofs.lemmas.List.Quantifiers.{position-Some}
use Rattle.std.proofs.Math.Seq.{take-append_seam}
use Rattle.pb_grammar.specs.Grammar.{IsText, Opening, Opens, body_of, body_text, opening_in, opening_text, rows}
use Rattle.pb_grammar.specs.Streams.{IsWhole, is_whole, is_whole_with}
use Rattle.pb_grammar.proofs.Openings.{OpeningFound, in_opens, none_before, opens_in}
use Rattle.pb_grammar.proofs.TableTexts.{BodyFound, body_of_text, rows_found}
use Rattle.pb_grammar.proofs.TableLemmas.{cut_at_place, drop_newline, newline_after, opening_is_text, text_from}

-- the first newline decides
whole_at : (text rest : List ℕ) → IsText text → is_whole (text ++ 10 ∷ rest) ≡ is_whole_with (opening_in text) rest
unfolding is_whole
whole_at text rest h =
    ap (λ place. option_map_or (λ n. is_whole_with (opening_in (take n (text ++ 10 ∷ rest))) (drop (n + 1) (text ++ 10 ∷ rest))) place false) (newline_after text rest h)
    ∙ ap (λ t. is_whole_with (opening_in t) (drop (length text + 1) (text ++ 10 ∷ rest))) (take-append_seam text (10 ∷ rest))
    ∙ ap (is_whole_with (opening_in text)) (drop_newline text rest)

opens_none : (text : List ℕ) → ((opening : Opening) → ¬ (Opens text opening)) → (found : Option Opening) → OpeningFound text found → found ≡ None
opens_none text closed None h = refl
opens_none text closed (Some opening) h = absurd (closed opening h)

-- a whole command is found
found_whole : (bytes : List ℕ) → IsWhole bytes → is_whole bytes ≡ true
found_whole bytes (inl h) =
    ap is_whole h.line.1
    ∙ whole_at h.text [] h.line.0
    ∙ ap (λ found. is_whole_with found []) (opens_none h.text h.closed (opening_in h.text) (in_opens h.text))
found_whole bytes (inr h) =
    let first = opening_text h.opening in
    let behind = body_text h.lines ++ 10 ∷ [] in
    ap is_whole h.table.printed
    ∙ whole_at first behind (opening_is_text first h.opening h.table.opens)
    ∙ ap (λ found. is_whole_with found behind) (opens_in first h.opening h.table.opens)
    ∙ ap (λ found. option_map_or (λ lines. true) found false) (body_of_text h.lines h.table.body)

no_false : {A : Type 0} → false ≡ true → A
no_false e = absurd (both_ways false refl e)

-- what is found is a whole command

with_body : (text rest : List ℕ) (o : Opening) → Opens text o → (found : Option (List (List ℕ))) → BodyFound rest found → option_map_or (λ lines. true) found false ≡ true → IsWhole (text ++ 10 ∷ rest)
with_body text rest o h None b e = no_false e
with_body text rest o h (Some lines) b e =
    inr (record {
      opening = o;
      lines = lines;
      table = record {
        opens = subst (λ z. Opens z o) h.printed h;
        body = b.body;
        printed = ap (λ z. z ++ 10 ∷ rest) h.printed ∙ ap (λ z. opening_text o ++ 10 ∷ z) b.printed;
      };
    })

none_opens : (text : List ℕ) → opening_in text ≡ None → (opening : Opening) → ¬ (Opens text opening)
none_opens text e opening h = let found = opens_in text opening h in absurd (cc)

with_opening : (text rest : List ℕ) → IsText text → (found : Option Opening) → opening_in text ≡ found → OpeningFound text found → is_whole_with found rest ≡ true → IsWhole (text ++ 10 ∷ rest)
with_opening text rest t None e h is =
    let none : rest ≡ [] = nil_from_length rest (eqb-true (length rest) 0 is) in
    inl (record { text = text; line = (t, ap (λ z. text ++ 10 ∷ z) none); closed = none_opens text e })
with_opening text rest t (Some o) e h is = with_body text rest o h (body_of (rows rest)) (rows_found rest) is

with_place : (bytes : List ℕ) (place : Option ℕ) → position (λ b. b == 10) bytes ≡ place → option_map_or (λ n. is_whole_with (opening_in (take n bytes)) (drop (n + 1) bytes)) place false ≡ true → IsWhole bytes
with_place bytes None e is = no_false is
with_place bytes (Some n) e is =
    let at = position-Some (λ b. b == 10) bytes n 0 e in
    let within : n < length bytes = at.0 in
    let short : n ≤ length bytes = omega arith in
    let cut = cut_at_place bytes n within (eqb-true (get_or bytes n 0) 10 at.1) in
    let text = text_from (take n bytes) (none_before (λ b. b == 10) bytes n short (λ k d lt. (position-Some (λ b. b == 10) bytes n d e).2 k lt)) in
    subst IsWhole (sym cut) (with_opening (take n bytes) (drop (n + 1) bytes) text (opening_in (take n bytes)) refl (in_opens (take n bytes)) is)

whole_found : (bytes : List ℕ) → is_whole bytes ≡ true → IsWhole bytes
unfolding is_whole
whole_found bytes is = with_place bytes (position (λ b. b == 10) bytes) refl is

-- whether bytes are one whole command is computed
pub whole_iff : (bytes : List ℕ) → (is_whole bytes ≡ true) ↔ IsWhole bytes
whole_iff bytes = (whole_found bytes, found_whole bytes)

last_same : (xs ys : List ℕ) (b c : ℕ) → xs ++ b ∷ [] ≡ ys ++ c ∷ [] → b ≡ c
last_same [] [] b c e = cc
last_same [] (y ∷ ys) b c e = absurd (omega (arith, ap length e, length-append ys (c ∷ [])))
last_same (x ∷ xs) [] b c e = absurd (omega (arith, ap length e, length-append xs (b ∷ [])))
last_same (x ∷ xs) (y ∷ ys) b c e = last_same xs ys b c cc

-- the last byte of a whole command is a newline
pub whole_ended : (seen : List ℕ) (byte : ℕ) → IsWhole (seen ++ byte ∷ []) → byte ≡ 10
whole_ended seen byte (inl h) = last_same seen h.text byte 10 h.line.1
whole_ended seen byte (inr h) =
    last_same seen (opening_text h.opening ++ 10 ∷ body_text h.lines) byte 10
    (h.table.printed ∙ sym (append_assoc (opening_text h.opening) (10 ∷ body_text h.lines) (10 ∷ [])))
