-- The rules that lines keep, and their tests.
use Rattle.std.proofs.Common.{◌≡◌, ℕ, ◌+◌, ◌<◌, ◌≤◌, ◌^◌, Bool, true, false, cond, ltb, leb, ◌&&◌, List, ◌∷◌, length, refl, sym, ap, subst, ◌∙◌, Option, Some, None}
use Rattle.std.proofs.lemmas.Bool.{and_parts, and_from, leb-true, le-leb, ltb-true, lt-ltb, le-ltb, ltb-false}
use Rattle.std.proofs.lemmas.Option.{none-some}
use Rattle.pb_stim.specs.declared.causes.Cause.TheVariants as causes
use Rattle.pb_replay.specs.declared.places.Place.{Place}
use Rattle.pb_replay.specs.Script.{Deed, Line, Skipped, Timed, Level, Command, CloseControl, OpenData, Take, CloseData, End, IsSession, IsInRange, KeepRules}
use Rattle.pb_replay.specs.Reading.{line_in}
use Rattle.pb_replay.specs.Faults.{session_cause, deed_cause, timed_cause, line_cause, cause_of, last_after, ended_after, after}
use Rattle.pb_replay.proofs.InputLemmas.{may_have, has_no_cause}

-- where there is no cause the tests were passed
passed : {A : Type 0} (t : Bool) (c : A) → cond t None (Some c) ≡ None → t ≡ true
passed true c e = refl
passed false c e = absurd (none-some c (sym e))

through : {A : Type 0} (t : Bool) (o : Option A) (c : A) → cond t o (Some c) ≡ None → (t ≡ true) × (o ≡ None)
through true o c e = (refl, e)
through false o c e = absurd (none-some c (sym e))

around : {A : Type 0} (t : Bool) (c : A) (o : Option A) → cond t (Some c) o ≡ None → (t ≡ false) × (o ≡ None)
around true c o e = absurd (none-some c (sym e))
around false c o e = (refl, e)

session_kept : (n : ℕ) → session_cause n ≡ None → IsSession n
session_kept n e =
    let both = and_parts (leb 1 n) (leb n 8) (passed (leb 1 n && leb n 8) causes.SessionOutOfRange e) in
    (leb-true 1 n both.0, leb-true n 8 both.1)

session_free : (n : ℕ) → IsSession n → session_cause n ≡ None
session_free n h = ap (λ t. cond t None (Some causes.SessionOutOfRange)) (and_from (leb 1 n) (leb n 8) (le-leb 1 n h.0) (le-leb n 8 h.1))

deed_kept : (deed : Deed) → deed_cause deed ≡ None → IsInRange deed
deed_kept (Level target value) e = may_have target value e
deed_kept (Command session text) e = session_kept session e
deed_kept (CloseControl session) e = session_kept session e
deed_kept (OpenData session options) e = session_kept session e
deed_kept (Take session) e = session_kept session e
deed_kept (CloseData session) e = session_kept session e
deed_kept End e = tt

deed_free : (deed : Deed) → IsInRange deed → deed_cause deed ≡ None
deed_free (Level target value) h = has_no_cause target value h
deed_free (Command session text) h = session_free session h
deed_free (CloseControl session) h = session_free session h
deed_free (OpenData session options) h = session_free session h
deed_free (Take session) h = session_free session h
deed_free (CloseData session) h = session_free session h
deed_free End h = refl

timed_kept : (last tick : ℕ) (deed : Deed) → timed_cause last tick deed ≡ None → (tick < 2 ^ 62) × (last ≤ tick) × IsInRange deed
timed_kept last tick deed e =
    let small = through (ltb tick (2 ^ 62)) _ causes.TickOutOfRange e in
    let order = through (leb last tick) _ causes.TickFalls small.1 in
    (ltb-true tick (2 ^ 62) small.0, leb-true last tick order.0, deed_kept deed order.1)

timed_free : (last tick : ℕ) (deed : Deed) → tick < 2 ^ 62 → last ≤ tick → IsInRange deed → timed_cause last tick deed ≡ None
timed_free last tick deed small order range =
    ap (λ t. cond t (cond (leb last tick) (deed_cause deed) (Some causes.TickFalls)) (Some causes.TickOutOfRange)) (lt-ltb tick (2 ^ 62) small)
    ∙ ap (λ t. cond t (deed_cause deed) (Some causes.TickFalls)) (le-leb last tick order)
    ∙ deed_free deed range

-- the line isn't below the last tick
abbrev pub IsLater : ℕ → Line → Type 0
IsLater last Skipped = Unit {0}
IsLater last (Timed tick deed) = last ≤ tick

-- A line without a cause keeps the rules, and there is room for it.
pub record Stands (place : Place) (text : List ℕ) : Type 0 where
  pub line : Line
  pub read : line_in text ≡ Some line
  pub room : place.before + length text + 1 ≤ 16777216
  pub later : IsLater place.last line
  pub order : (lines : List Line) → KeepRules (after place text).ended (after place text).last lines → KeepRules place.ended place.last (line ∷ lines)

pub room_for : (place : Place) (text : List ℕ) → cause_of place text ≡ None → place.before + length text + 1 ≤ 16777216
room_for place text e = ltb-false 16777216 (place.before + length text + 1) (around (ltb 16777216 (place.before + length text + 1)) causes.TooLarge _ e).0

pub stands : (place : Place) (text : List ℕ) → cause_of place text ≡ None → Stands place text
stands place text e = by_line (line_in text) refl (around (ltb 16777216 (place.before + length text + 1)) causes.TooLarge _ e).1
  where
    by_line : (o : Option Line) → line_in text ≡ o → line_cause place.ended place.last o ≡ None → Stands place text
    by_line None is e = absurd (none-some causes.Malformed (sym (around place.ended causes.AfterTheEnd _ e).1))
    by_line (Some Skipped) is e2 =
        record {
          line = Skipped;
          read = is;
          room = room_for place text e;
          later = tt;
          order = λ lines h. subst (λ o. KeepRules (ended_after place.ended o) (last_after place.last o) lines) is h;
        }
    by_line (Some (Timed tick deed)) is e2 =
        let begun = around place.ended causes.AfterTheEnd _ e2 in
        let kept = timed_kept place.last tick deed begun.1 in
        record {
          line = Timed tick deed;
          read = is;
          room = room_for place text e;
          later = kept.1;
          order = λ lines h. (begun.0, kept.0, kept.1, kept.2, subst (λ o. KeepRules (ended_after place.ended o) (last_after place.last o) lines) is h);
        }

-- A line that keeps the rules has no cause.
line_free : (place : Place) (text : List ℕ) (line : Line) (lines : List Line) → line_in text ≡ Some line → KeepRules place.ended place.last (line ∷ lines) → (line_cause place.ended place.last (Some line) ≡ None) × KeepRules (ended_after place.ended (Some line)) (last_after place.last (Some line)) lines
line_free place text Skipped lines is h = (refl, h)
line_free place text (Timed tick deed) lines is h =
    (ap (λ t. cond t (Some causes.AfterTheEnd) (timed_cause place.last tick deed)) h.0 ∙ timed_free place.last tick deed h.1 h.2 h.3, h.4)

pub free : (place : Place) (text : List ℕ) (line : Line) (lines : List Line) → line_in text ≡ Some line → place.before + length text + 1 ≤ 16777216 → KeepRules place.ended place.last (line ∷ lines) → (cause_of place text ≡ None) × KeepRules (after place text).ended (after place text).last lines
free place text line lines is room h =
    let r = line_free place text line lines is h in (
      ap (λ t. cond t (Some causes.TooLarge) (line_cause place.ended place.last (line_in text))) (le-ltb 16777216 (place.before + length text + 1) room)
          ∙ ap (line_cause place.ended place.last) is ∙ r.0,
      subst (λ o. KeepRules (ended_after place.ended o) (last_after place.last o) lines) (sym is) r.1,
    )
