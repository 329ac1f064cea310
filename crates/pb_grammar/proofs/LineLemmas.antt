-- Lines fed to an assembler.
use Rattle.std.proofs.Common.{◌≡◌, ◌≢◌, ◌<◌, ◌≤◌, ◌+◌, ℕ, Bool, true, false, List, [], ◌∷◌, ◌++◌, length, take, get_or, Option, Some, None, refl, sym, ap, subst, ◌∙◌, ◌↔◌, IsTrue, inl, inr, arith, length-append}
use Rattle.std.proofs.lemmas.Bool.{cond-true, cond-false, false≢true, false_from_ne_true}
use Rattle.std.proofs.lemmas.List.{append_assoc, length-take, nil_from_length, take_more, take_all}
use Rattle.std.proofs.lemmas.List.Elements.{All-append}
use Rattle.pb_grammar.specs.Grammar.{IsText, Query, opening_in, said_in}
use Rattle.pb_grammar.specs.Streams.{IsWhole, is_whole, with_line, left_waiting}
use Rattle.pb_grammar.specs.Feeding.{Completed, Fed, HasWhole, IsEnd, IsWholeStage, Kept, begun_at, fault_of, nothing, room}
use Rattle.pb_grammar.specs.declared.stages.Stage.{Stage}
use Rattle.pb_grammar.specs.declared.stages.Stage.TheVariants as stages
use Rattle.pb_grammar.proofs.StageLemmas.{Opened, begun_of, end_whole, line_ended}
use Rattle.pb_grammar.proofs.WholeLemmas.{whole_ended, whole_iff}

-- a byte of a text completes nothing
pub text_completes_none : (seen : List ℕ) (byte : ℕ) → byte ≢ 10 → ¬ (IsWhole (seen ++ byte ∷ []))
text_completes_none seen byte other whole = other (whole_ended seen byte whole)

-- one byte of the text more
pub fed_more : (kept : Kept) (seen text : List ℕ) (i d : ℕ) → i < length text → Fed kept ((seen ++ take i text) ++ get_or text i d ∷ []) → Fed kept (seen ++ take (i + 1) text)
fed_more kept seen text i d lt h =
    subst (Fed kept) (append_assoc seen (take i text) (get_or text i d ∷ []) ∙ ap (λ t. seen ++ t) (sym (take_more text i d lt))) h

-- all of it
pub fed_all : (kept : Kept) (seen text : List ℕ) (i : ℕ) → length text ≤ i → Fed kept (seen ++ take i text) → Fed kept (seen ++ text)
fed_all kept seen text i all h = subst (λ t. Fed kept (seen ++ t)) (take_all i text all) h

-- where a command begins, or goes on
pub fed_begun : (old new : Kept) (seen : List ℕ) → new ≡ begun_at old.stage old → Fed old seen → Fed new seen
fed_begun old new seen e h =
    let begun = subst (λ k. Opened k seen) (sym e) (begun_of old old.stage seen refl h) in
    inl (begun.stage, begun.bytes)

-- the text of a first line, which is kept whole
first_fed : (stage : Stage) (bytes seen text : List ℕ) → stage ≡ stages.First → IsText text → length bytes + length text < room → Fed (record { bytes = bytes; stage = stage }) seen → Fed (record { bytes = bytes ++ text; stage = stage }) (seen ++ text)
first_fed stages.First bytes seen text e is fits (inl h) =
    let short : length seen + length text < room = omega (arith, fits, ap length h.1, length-take room seen) in
    inl (
      All-append (λ b. b ≢ 10) seen text h.0 is,
      ap (λ t. t ++ text) (h.1 ∙ take_all room seen (omega (arith, short)))
          ∙ sym (take_all room (seen ++ text) (omega (arith, short, length-append seen text))),
    )
first_fed stages.First bytes seen text e is fits (inr h) = absurd h.0
first_fed (stages.Body unknown scan) bytes seen text e is fits h = absurd (cc)
first_fed (stages.Whole fault) bytes seen text e is fits h = absurd (cc)

pub first_kept : (old new : Kept) (seen text : List ℕ) → old.stage ≡ stages.First → IsText text → length old.bytes + length text < room → new ≡ record { bytes = old.bytes ++ text; stage = old.stage } → Fed old seen → Fed new (seen ++ text)
first_kept old new seen text e is fits kept h =
    subst (λ k. Fed k (seen ++ text)) (sym kept) (first_fed old.stage old.bytes seen text e is fits h)

-- whether the newline completes a command is what the definition computes
pub completes_as : (answer : Bool) (bytes : List ℕ) → IsTrue answer ↔ IsWhole bytes → answer ≡ is_whole bytes
completes_as true bytes h = sym ((whole_iff bytes).1 (h.0 refl))
completes_as false bytes h = sym (false_from_ne_true (is_whole bytes) (λ is. false≢true (h.1 ((whole_iff bytes).0 is))))

-- what waits after the newline
pub fed_after : (answer : Bool) (kept : Kept) (seen text : List ℕ) → answer ≡ is_whole (with_line seen text) → (IsTrue answer → Fed kept []) → (¬ (IsTrue answer) → Fed kept (with_line seen text)) → Fed kept (left_waiting seen text)
fed_after true kept seen text e whole begun = subst (Fed kept) (sym (cond-true (is_whole (with_line seen text)) [] (with_line seen text) (sym e))) (whole refl)
fed_after false kept seen text e whole begun = subst (Fed kept) (sym (cond-false (is_whole (with_line seen text)) [] (with_line seen text) (sym e))) (begun false≢true)

-- A query that one look shows.

pub kept_query : (new : Kept) (line target : List ℕ) → said_in line ≡ Query target → opening_in line ≡ None → IsText line → length line ≤ 4096 → new.stage ≡ stages.Whole None → new.bytes ≡ take room (line ++ 10 ∷ []) → Completed new (line ++ 10 ∷ [])
kept_query new line target said closed text short stage bytes =
    let e = line_ended line line text (sym (take_all room line (omega (arith, short)))) closed in
    (subst (λ s. IsEnd s (line ++ 10 ∷ [])) (sym stage) (e.whole, sym (ap fault_of said) ∙ e.reason), bytes)

pub completed_whole : (new : Kept) (bytes : List ℕ) → Completed new bytes → IsWhole bytes
completed_whole new bytes h = end_whole new.stage bytes h.0

end_stage : (stage : Stage) (bytes : List ℕ) → IsEnd stage bytes → IsWholeStage stage
end_stage stages.First bytes h = h
end_stage (stages.Body unknown scan) bytes h = h
end_stage (stages.Whole fault) bytes h = tt

pub completed_has : (new : Kept) (bytes : List ℕ) → Completed new bytes → HasWhole new
completed_has new bytes h = end_stage new.stage bytes h.0

-- nothing was fed before it
taken_none : (seen : List ℕ) → [] ≡ take room seen → seen ≡ []
taken_none seen e = nil_from_length seen (omega (arith, ap length e, length-take room seen))

pub none_seen : (old : Kept) (seen : List ℕ) → old ≡ nothing → Fed old seen → seen ≡ []
none_seen old seen e h =
    elim (subst (λ k. Fed k seen) e h) [
      | inl fed ↦ taken_none seen fed.1
      | inr whole ↦ whole.1
    ]

pub record TookLine (new : Kept) (seen line : List ℕ) : Type 0 where
  pub whole : true ≡ is_whole (with_line seen line)
  pub completed : Completed new (with_line seen line)
  pub fed : Fed new (left_waiting seen line)

took : (new : Kept) (line : List ℕ) → Completed new (line ++ 10 ∷ []) → TookLine new [] line
took new line h =
    let is = sym ((whole_iff (line ++ 10 ∷ [])).1 (completed_whole new (line ++ 10 ∷ []) h)) in
    record { whole = is; completed = h; fed = fed_after true new [] line is (λ _. inr (completed_has new (line ++ 10 ∷ []) h, refl)) (λ no. absurd (no refl)) }

pub took_line : (old begun new : Kept) (seen line : List ℕ) → begun ≡ begun_at old.stage old → begun ≡ nothing → Completed new (line ++ 10 ∷ []) → Fed old seen → TookLine new seen line
took_line old begun new seen line is e done h = subst (λ s. TookLine new s line) (sym (none_seen begun seen e (fed_begun old begun seen is h))) (took new line done)

-- another line
pub fed_same : (old begun new : Kept) (seen : List ℕ) → begun ≡ begun_at old.stage old → new ≡ begun → Fed old seen → Fed new seen
fed_same old begun new seen is e h = subst (λ k. Fed k seen) (sym e) (fed_begun old begun seen is h)
