-- Bytes are a stimulus, or have a fault, and never both.
use Rattle.std.proofs.Common.{◌≡◌, ◌≢◌, ℕ, zero, suc, ◌+◌, ◌≤◌, ◌⊎◌, Bool, true, false, cond, List, [], ◌∷◌, ◌++◌, length, get_or, drop, refl, sym, ap, subst, ◌∙◌, inl, inr, arith, Option, Some, None, length-append}
use Rattle.std.proofs.lemmas.Option.{none-some}
use Rattle.std.proofs.lemmas.List.Elements.{All-nil, All-head, All-tail}
use Rattle.pb_stim.specs.declared.causes.Cause.{Cause}
use Rattle.pb_stim.specs.declared.causes.Cause.TheVariants as causes
use Rattle.pb_grammar.specs.Grammar.{IsText}
use Rattle.pb_stim.specs.declared.places.Place.{Place}
use Rattle.pb_stim.specs.Lines.{Line, IsLine, WritesLines, KeepRules, IsStimulus}
use Rattle.pb_stim.specs.Faults.{cut_lines, cause_of, end_cause, after, or_later, fault_from, start, first_fault}
use Rattle.pb_stim.proofs.FormLemmas.{line_says, line_read, one_line}
use Rattle.pb_stim.proofs.LineCuts.{cut_end, IsLineCut, NoNewline, First, line_cut, fault_step}
use Rattle.pb_stim.proofs.RuleLemmas.{Stands, stands, free}

-- lines that keep the rules have no fault
no_fault : (lines : List Line) (bytes : List ℕ) (place : Place) → WritesLines bytes lines → KeepRules place.last lines → place.before + length bytes ≤ 16777216 → fault_from place (cut_lines bytes) ≡ None
no_fault [] bytes place w k room =
    ap (λ b. fault_from place (cut_lines b)) w
no_fault (line ∷ lines) bytes place w k room =
    let text : List ℕ = w.0 in
    let rest : List ℕ = w.1 in
    let size : length bytes ≡ length text + length (10 ∷ rest) = ap length w.4 ∙ length-append text (10 ∷ rest) in
    let here = free place text line lines (line_read text line w.3) (omega (arith, size, room)) k in
    ap (λ b. fault_from place (cut_lines b)) w.4
    ∙ fault_step place text rest w.2
    ∙ ap (λ o. or_later place.number o (fault_from (after place text) (cut_lines rest))) here.0
    ∙ no_fault lines rest (after place text) w.5 here.1 (omega (arith, size, room))

pub stimulus_has_none : (bytes : List ℕ) (lines : List Line) → IsStimulus bytes lines → first_fault bytes ≡ None
unfolding first_fault
stimulus_has_none bytes lines s = no_fault lines bytes start s.spelled s.rules (omega (arith, s.size))

-- what is no cause here nor later
neither : (number : ℕ) (o : Option Cause) (later : Option (ℕ × Cause)) → or_later number o later ≡ None → (o ≡ None) × (later ≡ None)
neither number (Some cause) later e = absurd (none-some (number, cause) (sym e))
neither number None later e = (refl, e)

-- nothing follows the last newline
pub at_end : (place : Place) (rest : List ℕ) → end_cause place rest ≡ None → rest ≡ []
at_end place [] e = refl
at_end place (b ∷ bs) e = absurd (by_size _ e)
  where
    by_size : (t : Bool) → ◌≡◌ {A = Option Cause} (cond t (Some causes.TooLarge) (Some causes.NoNewline)) None → ⊥
    by_size true e = none-some causes.TooLarge (sym e)
    by_size false e = none-some causes.NoNewline (sym e)

-- What bytes without a fault are, from a place on.
pub record Reads (bytes : List ℕ) (place : Place) : Type 0 where
  pub lines : List Line
  pub spelled : WritesLines bytes lines
  pub rules : KeepRules place.last lines
  pub room : place.before + length bytes ≤ 16777216

last_part : (bytes : List ℕ) (place : Place) → IsText bytes → place.before ≤ 16777216 → fault_from place (cut_lines bytes) ≡ None → Reads bytes place
last_part bytes place t room e =
    let here = neither place.number (end_cause place bytes) None (sym (ap (fault_from place) (cut_end bytes t)) ∙ e) in
    let end = at_end place bytes here.0 in
    record {
      lines = [];
      spelled = end;
      rules = tt;
      room = omega (arith, room, ap length end);
    }

one_more : (bytes text rest : List ℕ) (place : Place) (s : Stands place text) → IsText text → bytes ≡ text ++ 10 ∷ rest → Reads rest (after place text) → Reads bytes place
one_more bytes text rest place s t e r =
    record {
      lines = s.line ∷ r.lines;
      spelled = (text, rest, t, line_says text s.line s.read, e, r.spelled);
      rules = s.order r.lines r.rules;
      room = omega (arith, r.room, ap length e ∙ length-append text (10 ∷ rest));
    }

-- the first line, and what bytes that are shorter are
from_cut : (n : ℕ) (shorter : (bytes : List ℕ) (place : Place) → length bytes ≤ n → place.before ≤ 16777216 → fault_from place (cut_lines bytes) ≡ None → Reads bytes place)
    → (bytes : List ℕ) (place : Place) → length bytes ≤ n + 1 → place.before ≤ 16777216 → fault_from place (cut_lines bytes) ≡ None → IsLineCut bytes → Reads bytes place
from_cut n shorter bytes place small room e (NoNewline t) = last_part bytes place t room e
from_cut n shorter bytes place small room e (First text rest t cut) =
    let both = neither place.number (cause_of place text) (fault_from (after place text) (cut_lines rest)) (sym (ap (λ b. fault_from place (cut_lines b)) cut ∙ fault_step place text rest t) ∙ e) in
    let s : Stands place text = stands place text both.0 in
    let size : length bytes ≡ length text + length (10 ∷ rest) = ap length cut ∙ length-append text (10 ∷ rest) in
    one_more bytes text rest place s t cut (shorter rest (after place text) (omega (arith, small, size)) s.room both.1)

-- by the number of bytes
reads : (n : ℕ) (bytes : List ℕ) (place : Place) → length bytes ≤ n → place.before ≤ 16777216 → fault_from place (cut_lines bytes) ≡ None → Reads bytes place
reads zero [] place small room e = last_part [] place (All-nil (λ b. b ≢ 10)) room e
reads zero (b ∷ bs) place small room e = absurd (omega (arith, small))
reads (suc n) bytes place small room e = from_cut n (reads n) bytes place (omega (arith, small)) room e (line_cut bytes)

pub faultless_is_stimulus : (bytes : List ℕ) → first_fault bytes ≡ None → (lines : List Line) × IsStimulus bytes lines
unfolding first_fault
faultless_is_stimulus bytes e =
    let r = reads (length bytes) bytes start (omega arith) (omega arith) e in
    (r.lines, record { size = omega (arith, r.room); spelled = r.spelled; rules = r.rules })

pub stimulus_or_fault : (bytes : List ℕ) → ((lines : List Line) × IsStimulus bytes lines) ⊎ ((number : ℕ) × (cause : Cause) × (first_fault bytes ≡ Some (number, cause)))
stimulus_or_fault bytes = by_fault (first_fault bytes) refl
  where
    by_fault : (o : Option (ℕ × Cause)) → first_fault bytes ≡ o → ((lines : List Line) × IsStimulus bytes lines) ⊎ ((number : ℕ) × (cause : Cause) × (first_fault bytes ≡ Some (number, cause)))
    by_fault None e = inl (faultless_is_stimulus bytes e)
    by_fault (Some f) e = inr (f.0, f.1, e)

-- Bytes are one list of lines.

-- a line ends at its first newline
pub same_cut : (a b x y : List ℕ) → IsText a → IsText b → a ++ 10 ∷ x ≡ b ++ 10 ∷ y → (a ≡ b) × (x ≡ y)
same_cut [] [] x y ta tb e = (refl, ap (drop 1) e)
same_cut [] (c ∷ b) x y ta tb e = absurd (All-head (λ d. d ≢ 10) c b tb (sym (ap (λ t. get_or t 0 0) e)))
same_cut (c ∷ a) [] x y ta tb e = absurd (All-head (λ d. d ≢ 10) c a ta (ap (λ t. get_or t 0 0) e))
same_cut (c ∷ a) (d ∷ b) x y ta tb e =
    let more = same_cut a b x y (All-tail (λ q. q ≢ 10) c a ta) (All-tail (λ q. q ≢ 10) d b tb) (ap (drop 1) e) in
    let first : c ≡ d = ap (λ t. get_or t 0 0) e in
    let others : a ≡ b = more.0 in
    (cc, more.1)

pub one_stimulus : (bytes : List ℕ) (ls ms : List Line) → WritesLines bytes ls → WritesLines bytes ms → ls ≡ ms
one_stimulus bytes [] [] h k = refl
one_stimulus bytes [] (m ∷ ms) h k = absurd (omega (arith, ap length (sym h ∙ k.4), length-append k.0 (10 ∷ k.1)))
one_stimulus bytes (l ∷ ls) [] h k = absurd (omega (arith, ap length (sym k ∙ h.4), length-append h.0 (10 ∷ h.1)))
one_stimulus bytes (l ∷ ls) (m ∷ ms) h k =
    let cut = same_cut h.0 k.0 h.1 k.1 h.2 k.2 (sym h.4 ∙ k.4) in
    let line : l ≡ m = one_line k.0 l m (subst (λ t. IsLine t l) cut.0 h.3) k.3 in
    let others : ls ≡ ms = one_stimulus k.1 ls ms (subst (λ t. WritesLines t ls) cut.1 h.5) k.5 in
    cc
