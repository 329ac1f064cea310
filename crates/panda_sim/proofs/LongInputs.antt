-- The first fault of an input stands in its first 16 MiB and one byte, whatever follows them.
use Rattle.std.proofs.Common.{◌≡◌, ◌≢◌, ℕ, zero, suc, ◌+◌, ◌<◌, ◌≤◌, Bool, true, false, cond, ltb, All, List, [], ◌∷◌, ◌++◌, length, refl, sym, ap, ◌∙◌, arith, Some, None, length-append}
use Rattle.std.proofs.lemmas.Bool.{lt-ltb, ltb-true, ltb-false}
use Rattle.std.proofs.lemmas.List.{append_assoc}
use Rattle.std.proofs.lemmas.List.Elements.{All-append}
use Rattle.pb_stim.specs.declared.Cause.TheVariants as causes
use Rattle.pb_replay.specs.declared.places.Place.{Place}
use Rattle.pb_replay.specs.Reading.{line_in}
use Rattle.pb_replay.specs.Faults.{cut_lines, line_cause, cause_of, after, or_later, fault_from, start, first_fault}
use Rattle.pb_replay.proofs.LineCuts.{cut_end, IsLineCut, NoNewline, First, line_cut, fault_step}

-- this line holds the byte beyond 16 MiB
long_line : (place : Place) (text rest : List ℕ) → All (λ b. b ≢ 10) text → 16777216 < place.before + length text + 1 → fault_from place (cut_lines (text ++ 10 ∷ rest)) ≡ Some (place.number, causes.TooLarge)
long_line place text rest t long =
    fault_step place text rest t
    ∙ ap (λ b. or_later place.number (cond b (Some causes.TooLarge) (line_cause place.ended place.last (line_in text))) (fault_from (after place text) (cut_lines rest)))
    (lt-ltb 16777216 (place.before + length text + 1) long)

-- what follows the last newline holds it
long_end : (place : Place) (bytes : List ℕ) → All (λ b. b ≢ 10) bytes → place.before ≤ 16777216 → 16777216 < place.before + length bytes → fault_from place (cut_lines bytes) ≡ Some (place.number, causes.TooLarge)
long_end place [] t room long = absurd (omega (arith, room, long))
long_end place (b ∷ bs) t room long =
    ap (fault_from place) (cut_end (b ∷ bs) t)
    ∙ ap (λ x. or_later place.number (cond x (Some causes.TooLarge) (Some causes.NoNewline)) None)
    (lt-ltb 16777216 (place.before + length (b ∷ bs)) long)

-- no newline stands in what is long enough, whatever follows it
long_first : (place : Place) (bytes more : List ℕ) → All (λ b. b ≢ 10) bytes → place.before ≤ 16777216 → 16777216 < place.before + length bytes → IsLineCut more → fault_from place (cut_lines (bytes ++ more)) ≡ Some (place.number, causes.TooLarge)
long_first place bytes more t room long (NoNewline u) =
    long_end place (bytes ++ more) (All-append (λ b. b ≢ 10) bytes more t u) room (omega (arith, long, length-append bytes more))
long_first place bytes more t room long (First text rest u e) =
    ap (λ b. fault_from place (cut_lines b)) (ap (λ m. bytes ++ m) e ∙ sym (append_assoc bytes text (10 ∷ rest)))
    ∙ long_line place (bytes ++ text) rest (All-append (λ b. b ≢ 10) bytes text t u) (omega (arith, long, length-append bytes text))

-- the first line, and what bytes that are shorter have
from_cut : (n : ℕ) (shorter : (bytes more : List ℕ) (place : Place) → length bytes ≤ n → place.before ≤ 16777216 → 16777216 < place.before + length bytes → fault_from place (cut_lines (bytes ++ more)) ≡ fault_from place (cut_lines bytes))
    → (bytes more : List ℕ) (place : Place) → length bytes ≤ n + 1 → place.before ≤ 16777216 → 16777216 < place.before + length bytes → IsLineCut bytes → fault_from place (cut_lines (bytes ++ more)) ≡ fault_from place (cut_lines bytes)
from_cut n shorter bytes more place small room long (NoNewline t) =
    long_first place bytes more t room long (line_cut more) ∙ sym (long_end place bytes t room long)
from_cut n shorter bytes more place small room long (First text rest t e) =
    by_room (ltb 16777216 (place.before + length text + 1)) refl
  where
    size : length bytes ≡ length text + length (10 ∷ rest)
    size = ap length e ∙ length-append text (10 ∷ rest)

    both : bytes ++ more ≡ text ++ 10 ∷ (rest ++ more)
    both = ap (λ b. b ++ more) e ∙ append_assoc text (10 ∷ rest) more

    by_room : (b : Bool) → ltb 16777216 (place.before + length text + 1) ≡ b → fault_from place (cut_lines (bytes ++ more)) ≡ fault_from place (cut_lines bytes)
    by_room true is =
        let far : 16777216 < place.before + length text + 1 = ltb-true 16777216 (place.before + length text + 1) is in
        ap (λ b. fault_from place (cut_lines b)) both
        ∙ long_line place text (rest ++ more) t far
        ∙ sym (ap (λ b. fault_from place (cut_lines b)) e ∙ long_line place text rest t far)
    by_room false is =
        let near : place.before + length text + 1 ≤ 16777216 = ltb-false 16777216 (place.before + length text + 1) is in
        ap (λ b. fault_from place (cut_lines b)) both
        ∙ fault_step place text (rest ++ more) t
        ∙ ap (or_later place.number (cause_of place text)) (shorter rest more (after place text) (omega (arith, small, size)) near (omega (arith, long, size)))
        ∙ sym (ap (λ b. fault_from place (cut_lines b)) e ∙ fault_step place text rest t)

-- by the number of bytes
same_from : (n : ℕ) (bytes more : List ℕ) (place : Place) → length bytes ≤ n → place.before ≤ 16777216 → 16777216 < place.before + length bytes → fault_from place (cut_lines (bytes ++ more)) ≡ fault_from place (cut_lines bytes)
same_from zero bytes more place small room long = absurd (omega (arith, small, room, long))
same_from (suc n) bytes more place small room long = from_cut n (same_from n) bytes more place (omega (arith, small)) room long (line_cut bytes)

pub same_fault : (bytes more : List ℕ) → 16777216 < length bytes → first_fault (bytes ++ more) ≡ first_fault bytes
unfolding first_fault
same_fault bytes more long = same_from (length bytes) bytes more start (omega arith) (omega arith) (omega (arith, long))
