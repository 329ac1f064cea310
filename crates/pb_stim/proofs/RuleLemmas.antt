-- The rules that lines keep, and their tests.
use Rattle.std.proofs.Common.{◌≡◌, ℕ, ◌+◌, ◌<◌, ◌≤◌, ◌^◌, Bool, true, false, cond, ltb, leb, List, ◌∷◌, length, refl, sym, ap, subst, ◌∙◌, Option, Some, None, ℤ}
use Rattle.std.proofs.lemmas.Bool.{leb-true, le-leb, ltb-true, lt-ltb, le-ltb, ltb-false}
use Rattle.std.proofs.lemmas.Option.{none-some}
use Rattle.pb_stim.specs.declared.causes.Cause.TheVariants as causes
use Rattle.pb_stim.specs.declared.places.Place.{Place}
use Rattle.pb_stim.specs.Inputs.{input_of, MayHave}
use Rattle.pb_stim.specs.Lines.{Line, Skipped, Level, KeepRules}
use Rattle.pb_stim.specs.Reading.{line_in}
use Rattle.pb_stim.specs.Faults.{level_cause, row_cause, line_cause, cause_of, last_after, after}
use Rattle.pb_stim.proofs.InputLemmas.{may_have, has_no_cause}

-- where there is no cause the tests were passed
through : {A : Type 0} (t : Bool) (o : Option A) (c : A) → cond t o (Some c) ≡ None → (t ≡ true) × (o ≡ None)
through true o c e = (refl, e)
through false o c e = absurd (none-some c (sym e))

around : {A : Type 0} (t : Bool) (c : A) (o : Option A) → cond t (Some c) o ≡ None → (t ≡ false) × (o ≡ None)
around true c o e = absurd (none-some c (sym e))
around false c o e = (refl, e)

row_kept : (last tick : ℕ) (target : List ℕ) (value : ℤ) → row_cause last tick target value ≡ None → (tick < 2 ^ 62) × (last ≤ tick) × MayHave target value
row_kept last tick target value e =
    let small = through (ltb tick (2 ^ 62)) _ causes.TickOutOfRange e in
    let order = through (leb last tick) _ causes.TickFalls small.1 in
    (ltb-true tick (2 ^ 62) small.0, leb-true last tick order.0, may_have target value order.1)

row_free : (last tick : ℕ) (target : List ℕ) (value : ℤ) → tick < 2 ^ 62 → last ≤ tick → MayHave target value → row_cause last tick target value ≡ None
row_free last tick target value small order range =
    ap (λ t. cond t (cond (leb last tick) (level_cause (input_of target) value) (Some causes.TickFalls)) (Some causes.TickOutOfRange)) (lt-ltb tick (2 ^ 62) small)
    ∙ ap (λ t. cond t (level_cause (input_of target) value) (Some causes.TickFalls)) (le-leb last tick order)
    ∙ has_no_cause target value range

-- the line isn't below the last tick
abbrev pub IsLater : ℕ → Line → Type 0
IsLater last Skipped = Unit {0}
IsLater last (Level tick target value) = last ≤ tick

-- A line without a cause keeps the rules, and there is room for it.
pub record Stands (place : Place) (text : List ℕ) : Type 0 where
  pub line : Line
  pub read : line_in text ≡ Some line
  pub room : place.before + length text + 1 ≤ 16777216
  pub later : IsLater place.last line
  pub order : (lines : List Line) → KeepRules (after place text).last lines → KeepRules place.last (line ∷ lines)

pub room_for : (place : Place) (text : List ℕ) → cause_of place text ≡ None → place.before + length text + 1 ≤ 16777216
room_for place text e = ltb-false 16777216 (place.before + length text + 1) (around (ltb 16777216 (place.before + length text + 1)) causes.TooLarge _ e).0

pub stands : (place : Place) (text : List ℕ) → cause_of place text ≡ None → Stands place text
stands place text e = by_line (line_in text) refl (around (ltb 16777216 (place.before + length text + 1)) causes.TooLarge _ e).1
  where
    by_line : (o : Option Line) → line_in text ≡ o → line_cause place.last o ≡ None → Stands place text
    by_line None is e = absurd (none-some causes.Malformed (sym e))
    by_line (Some Skipped) is e2 =
        record {
          line = Skipped;
          read = is;
          room = room_for place text e;
          later = tt;
          order = λ lines h. subst (λ o. KeepRules (last_after place.last o) lines) is h;
        }
    by_line (Some (Level tick target value)) is e2 =
        let kept = row_kept place.last tick target value e2 in
        record {
          line = Level tick target value;
          read = is;
          room = room_for place text e;
          later = kept.1;
          order = λ lines h. (kept.0, kept.1, kept.2, subst (λ o. KeepRules (last_after place.last o) lines) is h);
        }

-- A line that keeps the rules has no cause.
line_free : (place : Place) (line : Line) (lines : List Line) → KeepRules place.last (line ∷ lines) → (line_cause place.last (Some line) ≡ None) × KeepRules (last_after place.last (Some line)) lines
line_free place Skipped lines h = (refl, h)
line_free place (Level tick target value) lines h = (row_free place.last tick target value h.0 h.1 h.2, h.3)

pub free : (place : Place) (text : List ℕ) (line : Line) (lines : List Line) → line_in text ≡ Some line → place.before + length text + 1 ≤ 16777216 → KeepRules place.last (line ∷ lines) → (cause_of place text ≡ None) × KeepRules (after place text).last lines
free place text line lines is room h =
    let r = line_free place line lines h in (
      ap (λ t. cond t (Some causes.TooLarge) (line_cause place.last (line_in text))) (le-ltb 16777216 (place.before + length text + 1) room)
          ∙ ap (line_cause place.last) is ∙ r.0,
      subst (λ o. KeepRules (last_after place.last o) lines) (sym is) r.1,
    )
