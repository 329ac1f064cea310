-- What has been read of a stimulus, line by line.
use Rattle.std.proofs.Common.{◌≡◌, ◌≢◌, ℕ, ◌+◌, ◌≤◌, List, [], ◌∷◌, ◌++◌, length, refl, sym, ap, subst, ◌∙◌, arith, Option, Some, None, IfNone, length-append, append_assoc, append-nil}
use Rattle.std.specs.List.{flat_map}
use Rattle.std.proofs.lemmas.Grind.{flat_map-append}
use Rattle.std.proofs.lemmas.Option.{same_Some}
use Rattle.pb_stim.specs.declared.causes.Cause.{Cause}
use Rattle.pb_stim.specs.declared.stimuli.Row.{Row}
use Rattle.pb_stim.specs.Stimulus.{last_tick}
use Rattle.pb_grammar.specs.Grammar.{IsText}
use Rattle.pb_stim.specs.declared.places.Place.{Place}
use Rattle.pb_stim.specs.Lines.{Line, Skipped, Level, WritesLines, KeepRules, IsStimulus, rows_of, rows_in}
use Rattle.pb_stim.specs.Reading.{line_in}
use Rattle.pb_stim.specs.Faults.{cut_lines, cause_of, end_cause, last_after, after, or_later, fault_from, start, first_fault}
use Rattle.pb_stim.proofs.FormLemmas.{line_says}
use Rattle.pb_stim.proofs.LineCuts.{cut_end, fault_step}
use Rattle.pb_stim.proofs.RuleLemmas.{Stands, stands, IsLater}
use Rattle.pb_stim.proofs.StimulusLaws.{at_end}

-- The lines before the rest are read: they have given these rows. Any lines that the rest spells go on
-- from here, and so does the search for a fault.
pub record IsRead (text rest : List ℕ) (place : Place) (rows : List Row) : Type 0 where
  pub done : List Line
  pub passed : List ℕ
  pub cut : text ≡ passed ++ rest
  pub before : place.before ≡ length passed
  pub number : place.number ≤ place.before + 1
  pub small : place.before ≤ 16777216
  pub front : (lines : List Line) → WritesLines rest lines → WritesLines text (done ++ lines)
  pub order : (lines : List Line) → KeepRules place.last lines → KeepRules 0 (done ++ lines)
  pub fault : first_fault text ≡ fault_from place (cut_lines rest)
  pub rows_are : flat_map rows_of done ≡ rows
  pub row : last_tick 0 rows ≤ place.last

-- nothing is read yet
pub read_none : (text : List ℕ) → IsRead text text start []
unfolding first_fault
read_none text =
    record {
      done = [];
      passed = [];
      cut = refl;
      before = refl;
      number = omega arith;
      small = omega arith;
      front = λ lines h. h;
      order = λ lines h. h;
      fault = refl;
      rows_are = refl;
      row = omega arith;
    }

-- the last row isn't after the last line
row_line : (rows : List Row) (first last : ℕ) (line : Line) → last_tick first rows ≤ last → IsLater last line → last_tick first (rows ++ rows_of line) ≤ last_after last (Some line)
row_line [] first last Skipped h l = h
row_line [] first last (Level tick target value) h l = omega arith
row_line (row ∷ rows) first last line h l = row_line rows row.tick last line h l

-- what one more line gives comes last
flat_map_push : {A : Type 0} (f : Line → List A) (ls : List Line) (l : Line) → flat_map f (ls ++ l ∷ []) ≡ flat_map f ls ++ f l
flat_map_push f ls l = flat_map-append f ls (l ∷ []) ∙ ap (λ x. flat_map f ls ++ x) (append-nil (f l))

-- one more line
more_by : (text rest line more : List ℕ) (place : Place) (rows : List Row) (s : Stands place line) → cause_of place line ≡ None → rest ≡ line ++ 10 ∷ more → IsText line → IsRead text rest place rows → IsRead text more (after place line) (rows ++ rows_of s.line)
more_by text rest line more place rows s none e t r =
    record {
      done = r.done ++ s.line ∷ [];
      passed = r.passed ++ (line ++ 10 ∷ []);
      cut = r.cut ∙ (ap (λ x. r.passed ++ x) (e ∙ sym (append_assoc line (10 ∷ []) more)) ∙ sym (append_assoc r.passed (line ++ 10 ∷ []) more));
      before = omega (arith, r.before, length-append r.passed (line ++ 10 ∷ []), length-append line (10 ∷ []));
      number = omega (arith, r.number);
      small = s.room;
      front = λ lines h. subst (λ all. WritesLines text all) (sym (append_assoc r.done (s.line ∷ []) lines)) (r.front (s.line ∷ lines) (line, more, t, line_says line s.line s.read, e, h));
      order = λ lines h. subst (λ all. KeepRules 0 all) (sym (append_assoc r.done (s.line ∷ []) lines)) (r.order (s.line ∷ lines) (s.order lines h));
      fault = r.fault ∙ (ap (λ b. fault_from place (cut_lines b)) e ∙ (fault_step place line more t ∙ ap (λ o. or_later place.number o (fault_from (after place line) (cut_lines more))) none));
      rows_are = flat_map_push rows_of r.done s.line ∙ ap (λ x. x ++ rows_of s.line) r.rows_are;
      row = subst (λ o. last_tick 0 (rows ++ rows_of s.line) ≤ last_after place.last o) (sym s.read) (row_line rows 0 place.last s.line r.row s.later);
    }

pub read_more : (text rest line more : List ℕ) (place : Place) (rows : List Row) (l : Line) → cause_of place line ≡ None → line_in line ≡ Some l → rest ≡ line ++ 10 ∷ more → IsText line → IsRead text rest place rows → IsRead text more (after place line) (rows ++ rows_of l)
read_more text rest line more place rows l none is e t r =
    let s : Stands place line = stands place line none in
    subst (λ m. IsRead text more (after place line) (rows ++ rows_of m)) (same_Some s.line l (sym s.read ∙ is)) (more_by text rest line more place rows s none e t r)

-- the fault of the line where the rest begins
pub fault_here : (text rest line more : List ℕ) (place : Place) (rows : List Row) (cause : Cause) → cause_of place line ≡ Some cause → rest ≡ line ++ 10 ∷ more → IsText line → IsRead text rest place rows → first_fault text ≡ Some (place.number, cause)
fault_here text rest line more place rows cause is e t r =
    r.fault ∙ (ap (λ b. fault_from place (cut_lines b)) e ∙ (fault_step place line more t ∙ ap (λ o. or_later place.number o (fault_from (after place line) (cut_lines more))) is))

-- the fault behind the last line
pub fault_at_end : (text rest : List ℕ) (place : Place) (rows : List Row) (cause : Cause) → Some cause ≡ end_cause place rest → IsText rest → IsRead text rest place rows → first_fault text ≡ Some (place.number, cause)
fault_at_end text rest place rows cause is t r =
    r.fault ∙ (ap (fault_from place) (cut_end rest t) ∙ ap (λ o. or_later place.number o None) (sym is))

-- the whole stimulus
pub read_all : (text rest : List ℕ) (place : Place) (rows : List Row) → None ≡ end_cause place rest → IsRead text rest place rows → (lines : List Line) × IsStimulus text lines × (rows ≡ rows_in lines)
read_all text rest place rows none r =
    let end = at_end place rest (sym none) in
    let same : r.done ++ [] ≡ r.done = append-nil r.done in
    let size : length text ≤ 16777216 = omega (arith, r.small, r.before, ap length r.cut, length-append r.passed rest, ap length end) in (
      r.done,
      record {
        size = size;
        spelled = subst (λ ls. WritesLines text ls) same (r.front [] end);
        rules = subst (λ ls. KeepRules 0 ls) same (r.order [] tt);
      },
      sym r.rows_are,
    )

-- what holds where there is none
pub none_case : {A : Type 0} (P : Type 0) (o : Option A) → IfNone o P → ((x : A) → o ≢ Some x) → P
none_case P None h other = h
none_case P (Some x) h other = absurd (other x refl)
