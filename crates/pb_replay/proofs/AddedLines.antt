-- The text of a line stands where the line ends.
use Rattle.std.proofs.Common.{◌≡◌, ◌≢◌, ℕ, ◌+◌, ◌-◌, ◌<◌, ℤ, List, [], ◌∷◌, ◌++◌, length, take, drop, Option, unwrap_or, sym, ap, subst, ◌∙◌, inl, inr, arith, Some, length-append, append_assoc, append-nil, slice_range, codes}
use Rattle.std.proofs.Math.Seq.{take-append_seam, drop-append_seam}
use Rattle.std.proofs.lemmas.List.Elements.{All-tail}
use Rattle.std.proofs.lemmas.Option.{same_Some}
use Rattle.std.specs.Prelude.{None}
use Rattle.pb_stim.specs.declared.stimuli.Row.{Row}
use Rattle.pb_stim.specs.Stimulus.{last_tick}
use Rattle.pb_grammar.specs.Grammar.{IsText}
use Rattle.pb_replay.specs.declared.places.Place.{Place}
use Rattle.pb_replay.specs.declared.lines.ReadDeed.{ReadDeed}
use Rattle.pb_replay.specs.declared.lines.ReadDeed.TheVariants as deeds
use Rattle.pb_replay.specs.declared.lines.ReadLine.{ReadLine}
use Rattle.pb_replay.specs.declared.lines.ReadLine.TheVariants as lines
use Rattle.pb_replay.specs.Script.{Line, Follows, SendsText, IsLine, Timed, Level}
use Rattle.pb_replay.specs.Reading.{line_in}
use Rattle.pb_replay.specs.Faults.{cause_of}
use Rattle.pb_replay.specs.Lines.{input_name, deed_of, line_of}
use Rattle.pb_replay.specs.Kept.{rows_of}
use Rattle.pb_replay.specs.Steps.{IsSpan}
use Rattle.pb_replay.specs.Adding.{EndsAt, TextEndsAt, MayBeAdded}
use Rattle.pb_replay.proofs.FormLemmas.{line_says}
use Rattle.pb_replay.proofs.InputLemmas.{input_back}
use Rattle.pb_replay.proofs.RuleLemmas.{Stands, stands, IsLater}
use Rattle.pb_replay.proofs.ReadSoFar.{IsRead}

-- the text ends with the other
abbrev EndsWith : List ℕ → List ℕ → Type 0
EndsWith text end = (front : List ℕ) × (text ≡ front ++ end)

behind : (front text end : List ℕ) → EndsWith text end → EndsWith (front ++ text) end
behind front text end h = (front ++ h.0, ap (λ x. front ++ x) h.1 ∙ sym (append_assoc front h.0 end))

follows_ends : (more text : List ℕ) → Follows more text → EndsWith more text
follows_ends more text (inl h) = (more, subst (λ t. more ≡ more ++ t) (sym h.1) (sym (append-nil more)))
follows_ends more text (inr h) = (32 ∷ [], h)

sends_ends : (rest letter : List ℕ) (session : ℕ) (text : List ℕ) → SendsText rest letter session text → EndsWith rest text
sends_ends rest letter session text h =
    subst (λ r. EndsWith r text) (sym h.4) (behind (letter ++ 32 ∷ h.0) h.1 text (follows_ends h.1 text h.3))

-- behind the tick and its space
line_ends : (line digits rest text : List ℕ) → line ≡ digits ++ 32 ∷ rest → EndsWith rest text → EndsWith line text
line_ends line digits rest text e h =
    subst (λ l. EndsWith l text) (sym e) (behind digits (32 ∷ rest) text (behind (32 ∷ []) rest text h))

-- no byte of the end is a newline
end_plain : (front end : List ℕ) → IsText (front ++ end) → IsText end
end_plain [] end h = h
end_plain (b ∷ front) end h = end_plain front end (All-tail (λ d. d ≢ 10) b (front ++ end) h)

-- the end of a line stands there
ends_at : (bytes passed rest line more text : List ℕ) (before : ℕ) → bytes ≡ passed ++ rest → rest ≡ line ++ 10 ∷ more → before ≡ length passed → IsText line → EndsWith line text → EndsAt bytes (before + length line) text
ends_at bytes passed rest line more text before cut e b t h =
    let front : List ℕ = passed ++ h.0 in
    let tail : List ℕ = text ++ 10 ∷ more in
    let whole : bytes ≡ front ++ tail = cut ∙ (ap (λ x. passed ++ x) (e ∙ (ap (λ x. x ++ 10 ∷ more) h.1 ∙ append_assoc h.0 text (10 ∷ more))) ∙ sym (append_assoc passed h.0 tail)) in
    let size : length line ≡ length h.0 + length text = ap length h.1 ∙ length-append h.0 text in
    let fronts : length front ≡ length passed + length h.0 = length-append passed h.0 in
    let end : ℕ = before + length line in
    let from : end - length text ≡ length front = omega (arith, size, fronts, b) in
    let room : end - length front ≡ length text = omega (arith, size, fronts, b) in
    record {
      room = omega (arith, size);
      within = omega (arith, ap length cut, length-append passed rest, ap length e, length-append line (10 ∷ more), b);
      same =
          ap (λ x. slice_range x (end - length text) end) whole
          ∙ ap (λ k. take (end - k) (drop k (front ++ tail))) from
          ∙ ap (λ m. take m (drop (length front) (front ++ tail))) room
          ∙ ap (λ x. take (length text) x) (drop-append_seam front tail)
          ∙ take-append_seam text (10 ∷ more);
      plain = end_plain h.0 text (subst IsText h.1 t);
    }

-- and so does the text of a deed
text_ends : (bytes passed rest line more : List ℕ) (before tick : ℕ) (deed : ReadDeed) → bytes ≡ passed ++ rest → rest ≡ line ++ 10 ∷ more → before ≡ length passed → IsText line → IsLine line (Timed tick (deed_of deed)) → TextEndsAt bytes (before + length line) deed
text_ends bytes passed rest line more before tick (deeds.Level input value) cut e b t h = tt
text_ends bytes passed rest line more before tick (deeds.Command session text) cut e b t h =
    ends_at bytes passed rest line more text.now before cut e b t (line_ends line h.0 h.1 text.now h.4 (sends_ends h.1 (codes "C") session text.now h.3))
text_ends bytes passed rest line more before tick (deeds.CloseControl session) cut e b t h = tt
text_ends bytes passed rest line more before tick (deeds.OpenData session options) cut e b t h =
    ends_at bytes passed rest line more options.now before cut e b t (line_ends line h.0 h.1 options.now h.4 (sends_ends h.1 (codes "D") session options.now h.3))
text_ends bytes passed rest line more before tick (deeds.Take session) cut e b t h = tt
text_ends bytes passed rest line more before tick (deeds.CloseData session) cut e b t h = tt
text_ends bytes passed rest line more before tick deeds.End cut e b t h = tt

-- a line that was read may be added
pub may_be_added : (bytes rest line more : List ℕ) (place : Place) (rows : List Row) (played : List Line) (read : ReadLine) → cause_of place line ≡ None → line_in line ≡ Some (line_of read) → rest ≡ line ++ 10 ∷ more → IsText line → IsRead bytes rest place rows played → MayBeAdded bytes (place.before + length line) (last_tick 0 rows) read
may_be_added bytes rest line more place rows played lines.Skipped none is e t r = tt
may_be_added bytes rest line more place rows played (lines.Timed tick deed) none is e t r =
    let s : Stands place line = stands place line none in
    let later : IsLater place.last (Timed tick (deed_of deed)) = subst (IsLater place.last) (same_Some s.line (Timed tick (deed_of deed)) (sym s.read ∙ is)) s.later in
    (omega (arith, r.row, later), text_ends bytes r.passed rest line more place.before tick deed r.cut e r.before t (line_says line (Timed tick (deed_of deed)) is))

-- where an act has no text
pub no_span : (bytes : List ℕ) → IsSpan bytes (record { from = 0; to = 0 })
no_span bytes = (omega arith, omega arith, λ k d l. absurd (omega (arith, l)))

-- the row of a level that was read
row_with : ℕ → ℤ → Option ℕ → List Row
row_with tick value input = record { tick = tick; target = unwrap_or input 0; value = value } ∷ []

pub level_row : (tick input : ℕ) (value : ℤ) → input < 10 → rows_of (Timed tick (Level (input_name input) value)) ≡ record { tick = tick; target = input; value = value } ∷ []
unfolding row_with
level_row tick input value h = ap (row_with tick value) (input_back input h)
