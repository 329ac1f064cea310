-- Table writes: what the bytes of one say is computed, and no line is one.
use Rattle.std.proofs.Common.{◌≡◌, ◌≢◌, ◌==◌, ℕ, ◌+◌, ◌<◌, ◌≤◌, true, false, not, List, [], ◌∷◌, ◌++◌, length, take, drop, position, suc, Option, Some, None, ◌⊎◌, inl, inr, refl, sym, ap, subst, ◌∙◌, arith, length-append, take-append-drop, get_or}
use Rattle.std.specs.List.{All, list_all}
use Rattle.std.specs.Option.{option_map_or}
use Rattle.std.proofs.lemmas.Bool.{and_from, and_parts, cond_both, cond-true, cond-false, both_ways, eqb-true, ne_eqb, not_from_false, false_from_ne_true}
use Rattle.std.proofs.lemmas.List.Quantifiers.{position-Some}
use Rattle.std.proofs.lemmas.List.Elements.{All-cons, All-nil, All-head, All-tail}
use Rattle.std.proofs.Math.Seq.{take-append_seam, drop-cons}
use Rattle.pb_words.specs.declared.refusals.Refusal.{Refusal}
use Rattle.pb_grammar.specs.Grammar.{Said, IsBodyLine, IsLine, IsNoTable, IsTable, IsTableCommand, IsText, Opening, Opens, body_fault, body_of, body_text, is_target, malformed, opened, opening_in, opening_text, rows, table_in, table_said, with_body, written}
use Rattle.pb_grammar.proofs.Sayings.{position-after}
use Rattle.pb_grammar.proofs.TargetCuts.{target_iff}
use Rattle.pb_grammar.proofs.TableTexts.{BodyFound, IsNoBody, no_lines, Cut, body_of_text, first_cut, printable_text, rows_found}
use Rattle.pb_grammar.proofs.Openings.{OpeningFound, in_opens, none_before, opens_in}

pub opening_is_text : (text : List ℕ) (o : Opening) → Opens text o → IsText text
opening_is_text text o h = printable_text text h.sound.printable

none_in : (text : List ℕ) → IsText text → list_all (λ b. not (b == 10)) text ≡ true
none_in [] h = refl
none_in (b ∷ bs) h =
    and_from (not (b == 10)) (list_all (λ c. not (c == 10)) bs)
    (not_from_false (b == 10) (ne_eqb b 10 (All-head (λ d. d ≢ 10) b bs h))) (none_in bs (All-tail (λ d. d ≢ 10) b bs h))

pub text_from : (text : List ℕ) → list_all (λ b. not (b == 10)) text ≡ true → IsText text
text_from [] h = All-nil (λ d. d ≢ 10)
text_from (b ∷ bs) h =
    let parts = and_parts (not (b == 10)) (list_all (λ c. not (c == 10)) bs) h in
    All-cons (λ d. d ≢ 10) b bs (λ e. both_ways (not (b == 10)) (ap (λ c. not (c == 10)) e) parts.0) (text_from bs parts.1)

-- the first newline ends the first line
pub newline_after : (text rest : List ℕ) → IsText text → position (λ b. b == 10) (text ++ 10 ∷ rest) ≡ Some (length text)
newline_after text rest h = position-after (λ b. b == 10) text 10 rest (none_in text h) refl

pub drop_newline : (text rest : List ℕ) → drop (length text + 1) (text ++ 10 ∷ rest) ≡ rest
drop_newline [] rest = refl
drop_newline (b ∷ bs) rest =
    let e : suc (length bs) + 1 ≡ suc (length bs + 1) = omega arith in
    ap (λ n. drop n (b ∷ (bs ++ 10 ∷ rest))) e ∙ drop_newline bs rest

cut_at : (text rest : List ℕ) → IsText text → table_in (text ++ 10 ∷ rest) ≡ opened text rest
unfolding table_in
cut_at text rest h =
    ap (λ place. option_map_or (λ n. opened (take n (text ++ 10 ∷ rest)) (drop (n + 1) (text ++ 10 ∷ rest))) place malformed) (newline_after text rest h)
    ∙ ap (λ t. opened t (drop (length text + 1) (text ++ 10 ∷ rest))) (take-append_seam text (10 ∷ rest))
    ∙ ap (opened text) (drop_newline text rest)

-- what a table write says is computed
pub table_said_in : (bytes : List ℕ) (o : Opening) (lines : List (List ℕ)) → IsTable bytes o lines → table_in bytes ≡ table_said o lines
table_said_in bytes o lines h =
    ap table_in h.printed
    ∙ cut_at (opening_text o) (body_text lines ++ 10 ∷ []) (opening_is_text (opening_text o) o h.opens)
    ∙ ap (λ found. option_map_or (λ opening. with_body opening (body_text lines ++ 10 ∷ [])) found malformed) (opens_in (opening_text o) o h.opens)
    ∙ ap (λ found. option_map_or (table_said o) found malformed) (body_of_text lines h.body)

-- the bytes are a table write, or none and malformed
abbrev Read : List ℕ → Said → Type 0
Read bytes said = ((o : Opening) × (lines : List (List ℕ)) × IsTable bytes o lines) ⊎ (IsNoTable bytes × (said ≡ malformed))

table_cut : (text rest : List ℕ) (o : Opening) (lines : List (List ℕ)) → IsText text → IsTable (text ++ 10 ∷ rest) o lines → Cut text (opening_text o) rest (body_text lines ++ 10 ∷ [])
table_cut text rest o lines t h = first_cut text (opening_text o) rest (body_text lines ++ 10 ∷ []) t (opening_is_text (opening_text o) o h.opens) h.printed

read_body : (text rest : List ℕ) (o : Opening) → IsText text → Opens text o → (found : Option (List (List ℕ))) → body_of (rows rest) ≡ found → BodyFound rest found → Read (text ++ 10 ∷ rest) (option_map_or (table_said o) found malformed)
read_body text rest o t h None e b =
    inr (
      (λ other lines table.
          let same = (table_cut text rest other lines t table).behind in
          let all = ap (λ z. body_of (rows z)) same ∙ body_of_text lines table.body in
          absurd (cc)),
      refl,
    )
read_body text rest o t h (Some lines) e b =
    inl (
      o,
      lines,
      record {
        opens = subst (λ z. Opens z o) h.printed h;
        body = b.body;
        printed = ap (λ z. z ++ 10 ∷ rest) h.printed ∙ ap (λ z. opening_text o ++ 10 ∷ z) b.printed;
      },
    )

read_opening : (text rest : List ℕ) → IsText text → (found : Option Opening) → opening_in text ≡ found → OpeningFound text found → Read (text ++ 10 ∷ rest) (option_map_or (λ o. with_body o rest) found malformed)
read_opening text rest t None e h =
    inr (
      (λ other lines table.
          let same = (table_cut text rest other lines t table).front in
          let all = ap opening_in same ∙ opens_in (opening_text other) other table.opens in
          absurd (cc)),
      refl,
    )
read_opening text rest t (Some o) e h = read_body text rest o t h (body_of (rows rest)) refl (rows_found rest)

-- a list is cut at a newline
pub cut_at_place : (bytes : List ℕ) (n : ℕ) → n < length bytes → get_or bytes n 0 ≡ 10 → bytes ≡ take n bytes ++ 10 ∷ drop (n + 1) bytes
cut_at_place bytes n within newline =
    let next : suc n ≡ n + 1 = omega arith in
    sym (take-append-drop n bytes) ∙ ap (λ t. take n bytes ++ t) (drop-cons bytes n 0 within ∙ ap (λ b. b ∷ drop (suc n) bytes) newline ∙ ap (λ k. 10 ∷ drop k bytes) next)

read_place : (bytes : List ℕ) (place : Option ℕ) → position (λ b. b == 10) bytes ≡ place → Read bytes (option_map_or (λ n. opened (take n bytes) (drop (n + 1) bytes)) place malformed)
read_place bytes None e =
    inr (
      (λ other lines table.
          let all = ap (position (λ b. b == 10)) table.printed ∙ newline_after (opening_text other) (body_text lines ++ 10 ∷ []) (opening_is_text (opening_text other) other table.opens) in
          absurd (cc)),
      refl,
    )
read_place bytes (Some n) e =
    let at = position-Some (λ b. b == 10) bytes n 0 e in
    let within : n < length bytes = at.0 in
    let short : n ≤ length bytes = omega arith in
    let newline : get_or bytes n 0 ≡ 10 = eqb-true (get_or bytes n 0) 10 at.1 in
    let cut = cut_at_place bytes n within newline in
    let text = text_from (take n bytes) (none_before (λ b. b == 10) bytes n short (λ k d lt. (position-Some (λ b. b == 10) bytes n d e).2 k lt)) in
    subst (λ z. Read z (opened (take n bytes) (drop (n + 1) bytes))) (sym cut)
    (read_opening (take n bytes) (drop (n + 1) bytes) text (opening_in (take n bytes)) refl (in_opens (take n bytes)))

read : (bytes : List ℕ) → Read bytes (table_in bytes)
unfolding table_in
read bytes = read_place bytes (position (λ b. b == 10) bytes) refl

-- bytes that are no table write
pub no_table_in : (bytes : List ℕ) → IsNoTable bytes → table_in bytes ≡ malformed
no_table_in bytes none = elim (read bytes) [ inl found ↦ absurd (none found.0 found.1 found.2) | inr e ↦ e.1 ]

shorter : (first body text : List ℕ) → IsText text → first ++ 10 ∷ (body ++ 10 ∷ []) ≡ text ++ 10 ∷ [] → ⊥
shorter [] [] [] t e = absurd (omega (arith, ap length e))
shorter [] (b ∷ body) [] t e = absurd (omega (arith, ap length e))
shorter [] body (c ∷ cs) t e = let same : c ≡ 10 = cc in All-head (λ d. d ≢ 10) c cs t same
shorter (f ∷ fs) body [] t e = absurd (omega (arith, ap length e, length-append fs (10 ∷ (body ++ 10 ∷ []))))
shorter (f ∷ fs) body (c ∷ cs) t e = shorter fs body cs (All-tail (λ d. d ≢ 10) c cs t) cc

-- a table write has a newline before the last
pub table_no_line : (bytes : List ℕ) (o : Opening) (lines : List (List ℕ)) → IsTable bytes o lines → (text : List ℕ) → ¬ (IsLine bytes text)
table_no_line bytes o lines h text line = shorter (opening_text o) (body_text lines) text line.0 (sym h.printed ∙ line.1)

-- what is said of a table write
pub command_table : (bytes : List ℕ) (said : Said) → IsTableCommand bytes said → table_in bytes ≡ said
command_table bytes said h =
    table_said_in bytes h.opening h.lines h.table
    ∙ cond_both (is_target h.opening.target) (written h.opening h.lines (body_fault 0 h.lines)) malformed (λ s. s ≡ said)
    (λ is. sym (h.known ((target_iff h.opening.target).1 is)))
    (λ no. sym (h.unknown (λ w. both_ways (is_target h.opening.target) no ((target_iff h.opening.target).0 w))))

pub table_command : (bytes : List ℕ) (o : Opening) (lines : List (List ℕ)) → IsTable bytes o lines → IsTableCommand bytes (table_in bytes)
table_command bytes o lines h =
    let e = table_said_in bytes o lines h in
    record {
      opening = o;
      lines = lines;
      table = h;
      known = λ w. e ∙ cond-true (is_target o.target) (written o lines (body_fault 0 lines)) malformed ((target_iff o.target).0 w);
      unknown = λ no. e ∙ cond-false (is_target o.target) (written o lines (body_fault 0 lines)) malformed (false_from_ne_true (is_target o.target) (λ is. no ((target_iff o.target).1 is)));
    }

-- the bytes are a table write, or none
pub table_or_none : (bytes : List ℕ) → IsTableCommand bytes (table_in bytes) ⊎ IsNoTable bytes
table_or_none bytes = elim (read bytes) [ inl found ↦ inl (table_command bytes found.0 found.1 found.2) | inr e ↦ inr e.0 ]

-- An opening with what stands behind its line.

pub with_lines : (o : Opening) (behind : List ℕ) (lines : List (List ℕ)) → All IsBodyLine lines → behind ≡ body_text lines ++ 10 ∷ [] → with_body o behind ≡ table_said o lines
with_lines o behind lines are e =
    ap (λ t. option_map_or (table_said o) (body_of (rows t)) malformed) e
    ∙ ap (λ found. option_map_or (table_said o) found malformed) (body_of_text lines are)

pub without_lines : (o : Opening) (behind : List ℕ) → IsNoBody behind → with_body o behind ≡ malformed
without_lines o behind none =
    ap (λ found. option_map_or (table_said o) found malformed) (no_lines behind none (body_of (rows behind)) (rows_found behind))

pub unknown_lines : (o : Opening) (behind : List ℕ) (lines : List (List ℕ)) → is_target o.target ≡ false → All IsBodyLine lines → behind ≡ body_text lines ++ 10 ∷ [] → with_body o behind ≡ malformed
unknown_lines o behind lines other are e =
    with_lines o behind lines are e ∙ cond-false (is_target o.target) (written o lines (body_fault 0 lines)) malformed other

pub known_lines : (o : Opening) (behind : List ℕ) (lines : List (List ℕ)) (fault : Option Refusal) → is_target o.target ≡ true → All IsBodyLine lines → behind ≡ body_text lines ++ 10 ∷ [] → fault ≡ body_fault 0 lines → with_body o behind ≡ written o lines fault
known_lines o behind lines fault is are e same =
    with_lines o behind lines are e ∙ cond-true (is_target o.target) (written o lines (body_fault 0 lines)) malformed is
    ∙ ap (written o lines) (sym same)
