-- Queries of a field or an attribute, seen in one look.
use Rattle.std.proofs.Common.{◌≡◌, ℕ, ◌<◌, ◌≤◌, true, List, [], ◌∷◌, ◌++◌, length, take, drop, position, Option, Some, None, IfSome, refl, ap, ◌∙◌, arith, length-append}
use Rattle.std.specs.Borrow.{Bor}
use Rattle.std.specs.List.{list_all}
use Rattle.std.specs.Option.{option_and_then}
use Rattle.std.proofs.lemmas.Bool.{and_from, and_parts, cond_both}
use Rattle.std.proofs.lemmas.Bool.Decides.{nat_tests}
use Rattle.std.proofs.lemmas.List.Folds.{list_all-append}
use Rattle.std.proofs.Math.Seq.{drop-append_seam}
use Rattle.pb_grammar.specs.Grammar.{IsSound, IsText, Query, command_of, is_deciding, is_printable, is_sound, is_within, names_in, opening_at, opening_in, said_in}
use Rattle.pb_grammar.proofs.Meanings.{line_is_said, sound_said}
use Rattle.pb_grammar.proofs.Sayings.{none_decides, position-after, says_saying}
use Rattle.pb_grammar.proofs.TableTexts.{printable_text}
use Rattle.pb_grammar.proofs.TargetBytes.{AreTargetBytes, is_target_byte, target_bytes}
use Rattle.pb_grammar.proofs.TargetCuts.{plain_is_target, target_iff}

printable_byte : (b : ℕ) → is_target_byte b ≡ true → is_printable b ≡ true
printable_byte b h = grind (arith, nat_tests)

printable_target : (text : List ℕ) → AreTargetBytes text → list_all is_printable text ≡ true
printable_target [] h = refl
printable_target (b ∷ bs) h =
    let parts = and_parts (is_target_byte b) (list_all is_target_byte bs) h in
    and_from (is_printable b) (list_all is_printable bs) (printable_byte b parts.0) (printable_target bs parts.1)

-- a target with `?` behind it opens no body
no_opening : (target : List ℕ) → AreTargetBytes target → opening_in (target ++ 63 ∷ []) ≡ None
unfolding opening_in
no_opening target h =
    let text : List ℕ = target ++ 63 ∷ [] in
    cond_both (is_sound text) (option_and_then (λ n. opening_at (take n text) (drop n text)) (position is_deciding text)) None (λ found. found ≡ None)
    (λ _.
    ap (λ place. option_and_then (λ n. opening_at (take n text) (drop n text)) place) (position-after is_deciding target 63 [] (none_decides target h) refl)
    ∙ ap (λ t. opening_at (take (length target) text) t) (drop-append_seam target (63 ∷ [])))
    (λ _. refl)

-- the line is the query of this target, and nothing else
pub record IsQueried (line target : List ℕ) : Type 0 where
  pub said : said_in line ≡ Query target
  pub closed : opening_in line ≡ None
  pub text : IsText line
  pub short : length line ≤ 4096

pub is_queried : (line target : List ℕ) → line ≡ target ++ 63 ∷ [] → length target < 4096 → is_within 2 3 (names_in target) ≡ true → IsQueried line target
is_queried line target e short names =
    let is = plain_is_target target names in
    let bytes = target_bytes target is in
    let all : list_all is_printable line ≡ true = ap (list_all is_printable) e ∙ list_all-append is_printable target (63 ∷ []) ∙ and_from (list_all is_printable target) true (printable_target target bytes) refl in
    let sound : IsSound line = record { short = omega (arith, short, ap length e, length-append target (63 ∷ [])); printable = all } in
    record {
      said = sound_said line sound ∙ says_saying line (Query target) ((target_iff target).1 is, e);
      closed = ap opening_in e ∙ no_opening target bytes;
      text = printable_text line all;
      short = sound.short;
    }

-- with its newline it is a command
pub line_queried : (bytes line : List ℕ) (found : Option (Bor (List ℕ))) → bytes ≡ line ++ 10 ∷ [] → IfSome found (λ target. said_in line ≡ Query target.now) → IfSome found (λ target. IsText line) → IfSome found (λ target. command_of bytes ≡ Query target.now)
line_queried bytes line None e said text = tt
line_queried bytes line (Some target) e said text = line_is_said bytes line (text, e) ∙ said
