-- What an assembler keeps of the bytes of a command, byte by byte.
use Rattle.std.proofs.Common.{◌≡◌, ◌≢◌, ℕ, ◌+◌, ◌≤◌, Bool, true, false, cond, not, ltb, List, [], ◌∷◌, ◌++◌, length, take, Option, Some, None, ◌⊎◌, inl, inr, refl, sym, ap, subst, ◌∙◌, arith, length-append, append_assoc, append-nil}
use Rattle.std.proofs.lemmas.Bool.{cond_both, ltb-false, cases_lt}
use Rattle.std.proofs.lemmas.List.{length-take, take_all, take-append-le}
use Rattle.std.specs.List.{list_all}
use Rattle.std.proofs.lemmas.List.Elements.{All-append, All-cons, All-nil}
use Rattle.pb_words.specs.declared.refusals.Refusal.{Refusal}
use Rattle.pb_words.specs.declared.refusals.Refusal.TheVariants as refusals
use Rattle.pb_grammar.specs.Grammar.{Said, Query, Assign, Table, Echo, Bad, IsTable, IsText, Opening, Opens, body_fault, body_text, command_of, is_target, is_printable, line_fault, longest, malformed, opening_in, opening_text, said_in, table_said, written}
use Rattle.pb_grammar.specs.Streams.{IsWhole}
use Rattle.pb_grammar.specs.Feeding.{Completed, Fed, HasWhole, IsEnd, IsKnown, IsNext, IsStage, IsWholeStage, Kept, Scans, begun_at, fault_of, room, stage_fault}
use Rattle.pb_grammar.specs.declared.scanning.Scan.{Scan}
use Rattle.pb_grammar.specs.declared.stages.Stage.{Stage}
use Rattle.pb_grammar.specs.declared.stages.Stage.TheVariants as stages
use Rattle.pb_grammar.proofs.Meanings.{line_is_said, long_said, table_is_said}
use Rattle.pb_grammar.proofs.Openings.{OpeningFound, in_opens, opens_in}
use Rattle.pb_grammar.proofs.ScanLemmas.{body_length, first_parts, none_begun}
use Rattle.pb_grammar.proofs.TableTexts.{body_open, first_cut, newline_in}
use Rattle.pb_grammar.proofs.TableLemmas.{opening_is_text, table_said_in}

-- What isn't whole yet.

pub open_not_whole : (stage : Stage) (seen : List ℕ) → IsStage stage seen → ¬ (IsWhole seen)
open_not_whole stages.First seen h (inl w) = newline_in w.text [] (subst IsText w.line.1 h)
open_not_whole stages.First seen h (inr w) = newline_in (opening_text w.opening) (body_text w.lines ++ 10 ∷ []) (subst IsText w.table.printed h)
open_not_whole (stages.Body unknown scan) seen h (inl w) =
    let o = h.0 in
    let cut = first_cut w.text (opening_text o) [] h.1 w.line.0 (opening_is_text (opening_text o) o h.2) (sym w.line.1 ∙ h.3) in
    w.closed o (subst (λ t. Opens t o) (sym cut.front) h.2)
open_not_whole (stages.Body unknown scan) seen h (inr w) =
    let o = h.0 in
    let cut = first_cut (opening_text o) (opening_text w.opening) h.1 (body_text w.lines ++ 10 ∷ []) (opening_is_text (opening_text o) o h.2) (opening_is_text (opening_text w.opening) w.opening w.table.opens) (sym h.3 ∙ w.table.printed) in
    let scanned = h.5 in
    body_open scanned.lines w.lines scanned.current [] scanned.ended w.table.body scanned.begun (sym scanned.printed ∙ cut.behind)
open_not_whole (stages.Whole fault) seen h w = h

-- Bodies.

fault_written : (o : Opening) (lines : List (List ℕ)) (fault : Option Refusal) → fault_of (written o lines fault) ≡ fault
fault_written o lines None = refl
fault_written o lines (Some refusal) = refl

fault_said : (o : Opening) (lines : List (List ℕ)) → fault_of (table_said o lines) ≡ cond (not (is_target o.target)) (Some refusals.MalformedCommand) (body_fault 0 lines)
fault_said o lines =
    elim (is_target o.target) as (λ t. fault_of (cond t (written o lines (body_fault 0 lines)) malformed) ≡ cond (not t) (Some refusals.MalformedCommand) (body_fault 0 lines)) [
      | true ↦ fault_written o lines (body_fault 0 lines)
      | false ↦ refl
    ]

pub record Ended (bytes : List ℕ) (fault : Option Refusal) : Type 0 where
  pub whole : IsWhole bytes
  pub reason : fault ≡ fault_of (command_of bytes)

-- the empty line behind a body
pub body_ended : (unknown : Bool) (scan : Scan) (seen : List ℕ) → IsStage (stages.Body unknown scan) seen → scan.line ≡ 0 → Ended (seen ++ 10 ∷ []) (cond unknown (Some refusals.MalformedCommand) scan.fault)
body_ended unknown scan seen h e =
    let o = h.0 in
    let scanned = h.5 in
    let body : h.1 ≡ body_text scanned.lines = scanned.printed ∙ ap (λ t. body_text scanned.lines ++ t) (none_begun scan h.1 scanned e) ∙ append-nil (body_text scanned.lines) in
    let table : IsTable (seen ++ 10 ∷ []) o scanned.lines = record {
      opens = h.2;
      body = scanned.ended;
      printed = ap (λ t. t ++ 10 ∷ []) h.3 ∙ append_assoc (opening_text o) (10 ∷ h.1) (10 ∷ []) ∙ ap (λ t. opening_text o ++ 10 ∷ (t ++ 10 ∷ [])) body;
    } in
    record {
      whole = inr (record { opening = o; lines = scanned.lines; table = table });
      reason =
          ap (λ t. cond t (Some refusals.MalformedCommand) scan.fault) h.4
          ∙ ap (cond (not (is_target o.target)) (Some refusals.MalformedCommand)) scanned.found
          ∙ sym (fault_said o scanned.lines)
          ∙ ap fault_of (sym (table_said_in (seen ++ 10 ∷ []) o scanned.lines table) ∙ sym (table_is_said (seen ++ 10 ∷ []) o scanned.lines table));
    }

pub ended_here : (seen : List ℕ) (byte : ℕ) (f g : Option Refusal) → byte ≡ 10 → f ≡ g → Ended (seen ++ 10 ∷ []) g → IsWhole (seen ++ byte ∷ []) × (f ≡ fault_of (command_of (seen ++ byte ∷ [])))
ended_here seen byte f g e same h =
    (subst (λ b. IsWhole (seen ++ b ∷ [])) (sym e) h.whole, same ∙ h.reason ∙ ap (λ b. fault_of (command_of (seen ++ b ∷ []))) (sym e))

-- one more byte of a body
pub body_more_fed : (unknown : Bool) (scan next : Scan) (seen : List ℕ) (byte : ℕ) → IsStage (stages.Body unknown scan) seen → ((body : List ℕ) → Scans scan body → Scans next (body ++ byte ∷ [])) → IsStage (stages.Body unknown next) (seen ++ byte ∷ [])
body_more_fed unknown scan next seen byte h more =
    let o = h.0 in
    (o, h.1 ++ byte ∷ [], h.2, ap (λ t. t ++ byte ∷ []) h.3 ∙ append_assoc (opening_text o) (10 ∷ h.1) (byte ∷ []), h.4, more h.1 h.5)

-- First lines.

-- what is kept of a short line is the line
kept_short : (kept seen : List ℕ) → kept ≡ take room seen → length kept ≤ 4096 → kept ≡ seen
kept_short kept seen e short =
    e ∙ take_all room seen (omega (arith, short, ap length e, length-take room seen))

said_kept : (kept seen : List ℕ) → kept ≡ take room seen → said_in kept ≡ said_in seen
said_kept kept seen e =
    elim (cases_lt 4096 (length seen)) [
      | inl long ↦
          long_said kept (omega (arith, long, ap length e, length-take room seen))
          ∙ sym (long_said seen long)
      | inr short ↦ ap said_in (e ∙ take_all room seen (omega (arith, short)))
    ]

-- a first line that opens no body
pub line_ended : (kept seen : List ℕ) → IsText seen → kept ≡ take room seen → opening_in kept ≡ None → Ended (seen ++ 10 ∷ []) (fault_of (said_in kept))
line_ended kept seen text e none =
    record {
      whole =
          inl
          (record {
            text = seen;
            line = (text, refl);
            closed =
                λ o opens.
                let same = e ∙ take_all room seen (omega (arith, opens.sound.short)) in
                let some = ap opening_in same ∙ opens_in seen o opens in
                absurd (cc);
          });
      reason = ap fault_of (said_kept kept seen e ∙ sym (line_is_said (seen ++ 10 ∷ []) seen (text, refl)));
    }

-- a first line that opens one
pub line_opened : (kept seen : List ℕ) (o : Opening) (unknown : Bool) (scan : Scan) → kept ≡ take room seen → Opens kept o → unknown ≡ not (is_target o.target) → Scans scan [] → IsStage (stages.Body unknown scan) (seen ++ 10 ∷ [])
line_opened kept seen o unknown scan e opens is scanned =
    let same = kept_short kept seen e opens.sound.short in
    (o, [], subst (λ t. Opens t o) opens.printed opens, ap (λ t. t ++ 10 ∷ []) (sym same ∙ opens.printed), is, scanned)

-- what was found opens a body
pub found_opens : (text : List ℕ) (o : Opening) → Some o ≡ opening_in text → Opens text o
found_opens text o e = subst (OpeningFound text) (sym e) (in_opens text)

-- a stage that is no body
pub text_of_stage : (stage : Stage) (seen : List ℕ) → IsStage stage seen → ((unknown : Bool) (scan : Scan) → stage ≢ stages.Body unknown scan) → IsText seen
text_of_stage stages.First seen h none = h
text_of_stage (stages.Body unknown scan) seen h none = absurd (none unknown scan refl)
text_of_stage (stages.Whole fault) seen h none = absurd h

-- one more byte of a first line
pub text_more : (seen : List ℕ) (byte : ℕ) → IsText seen → byte ≢ 10 → IsText (seen ++ byte ∷ [])
text_more seen byte h ne = All-append (λ b. b ≢ 10) seen (byte ∷ []) h (All-cons (λ b. b ≢ 10) byte [] ne (All-nil (λ b. b ≢ 10)))

-- What is kept.

pub keep_more : (kept seen : List ℕ) (byte : ℕ) → kept ≡ take room seen → take room (kept ++ byte ∷ []) ≡ take room (seen ++ byte ∷ [])
keep_more kept seen byte e =
    elim (cases_lt room (length seen)) [
      | inl long ↦
          let full : length (take room seen) ≡ room = omega (arith, long, length-take room seen) in
          let most : room ≤ length (take room seen) = omega (arith, full) in
          let least : length (take room seen) ≤ room = omega (arith, full) in
          let more : room ≤ length seen = omega (arith, long) in
          ap (λ t. take room (t ++ byte ∷ [])) e
          ∙ take-append-le room (take room seen) (byte ∷ []) most
          ∙ take_all room (take room seen) least
          ∙ sym (take-append-le room seen (byte ∷ []) more)
      | inr short ↦ ap (λ t. take room (t ++ byte ∷ [])) (e ∙ take_all room seen short)
    ]

-- A command that isn't refused is kept whole.

line_short : (before : ℕ) (line : List ℕ) → line_fault before line ≡ None → before + length line + 1 ≤ 262144
line_short before line =
    cond_both (ltb longest (length line)) (Some refusals.LineTooLong) (cond (not (list_all is_printable line)) (Some refusals.NotPrintable) (cond (ltb 262144 (before + length line + 1)) (Some refusals.TableTooLong) None)) (λ x. x ≡ None → before + length line + 1 ≤ 262144)
    (λ _ e. absurd (cc))
    (λ _.
    cond_both (not (list_all is_printable line)) (Some refusals.NotPrintable) (cond (ltb 262144 (before + length line + 1)) (Some refusals.TableTooLong) None) (λ x. x ≡ None → before + length line + 1 ≤ 262144)
    (λ _ e. absurd (cc))
    (λ _.
    cond_both (ltb 262144 (before + length line + 1)) (Some refusals.TableTooLong) None (λ x. x ≡ None → before + length line + 1 ≤ 262144)
    (λ _ e. absurd (cc))
    (λ short _. ltb-false 262144 (before + length line + 1) short)))

body_short : (before : ℕ) (lines : List (List ℕ)) → before ≤ 262144 → body_fault before lines ≡ None → before + length (body_text lines) ≤ 262144
body_short before [] h e = omega (arith, h)
body_short before (l ∷ ls) h e =
    let parts = first_parts (line_fault before l) (body_fault (before + length l + 1) ls) e in
    let rest = body_short (before + length l + 1) ls (line_short before l parts.one) parts.two in
    omega (arith, rest, body_length l ls)

no_fault : (t : Bool) (f : Option Refusal) → cond t (Some refusals.MalformedCommand) f ≡ None → f ≡ None
no_fault true f e = absurd (cc)
no_fault false f e = e

pub whole_short : (bytes : List ℕ) → IsWhole bytes → fault_of (command_of bytes) ≡ None → length bytes ≤ room
whole_short bytes (inl h) e =
    elim (cases_lt 4096 (length h.text)) [
      | inl long ↦
          let bad = ap fault_of (line_is_said bytes h.text h.line ∙ long_said h.text long) in
          absurd (cc)
      | inr short ↦ omega (arith, short, ap length h.line.1, length-append h.text (10 ∷ []))
    ]
whole_short bytes (inr h) e =
    let said = ap fault_of (table_is_said bytes h.opening h.lines h.table ∙ table_said_in bytes h.opening h.lines h.table) ∙ fault_said h.opening h.lines in
    let none = no_fault (not (is_target h.opening.target)) (body_fault 0 h.lines) (sym said ∙ e) in
    let short = body_short 0 h.lines (omega arith) none in
    omega (arith, short, h.table.opens.sound.short, ap length h.table.printed, length-append (opening_text h.opening) (10 ∷ (body_text h.lines ++ 10 ∷ [])), length-append (body_text h.lines) (10 ∷ []))

-- Commands and their refusals.

pub fault_bad : (said : Said) (refusal : Refusal) → Some refusal ≡ fault_of said → said ≡ Bad refusal
fault_bad (Query target) refusal e = absurd (cc)
fault_bad (Assign target value) refusal e = absurd (cc)
fault_bad (Table target append base64 body) refusal e = absurd (cc)
fault_bad (Echo text) refusal e = absurd (cc)
fault_bad (Bad other) refusal e = cc

pub fault_known : (said : Said) → None ≡ fault_of said → IsKnown said
fault_known (Query target) e = tt
fault_known (Assign target value) e = tt
fault_known (Table target append base64 body) e = tt
fault_known (Echo text) e = tt
fault_known (Bad other) e = absurd (cc)

-- One byte fed.

pub record Opened (kept : Kept) (seen : List ℕ) : Type 0 where
  pub stage : IsStage kept.stage seen
  pub bytes : kept.bytes ≡ take room seen

pub begun_of : (kept : Kept) (stage : Stage) (seen : List ℕ) → kept.stage ≡ stage → (IsStage stage seen × (kept.bytes ≡ take room seen)) ⊎ (IsWholeStage stage × (seen ≡ [])) → Opened (begun_at stage kept) seen
begun_of kept stages.First seen e (inl h) = record { stage = subst (λ s. IsStage s seen) (sym e) h.0; bytes = h.1 }
begun_of kept stages.First seen e (inr h) = absurd h.0
begun_of kept (stages.Body unknown scan) seen e (inl h) = record { stage = subst (λ s. IsStage s seen) (sym e) h.0; bytes = h.1 }
begun_of kept (stages.Body unknown scan) seen e (inr h) = absurd h.0
begun_of kept (stages.Whole fault) seen e (inl h) = absurd h.0
begun_of kept (stages.Whole fault) seen e (inr h) = record { stage = subst IsText (sym h.1) (All-nil (λ b. b ≢ 10)); bytes = ap (take room) (sym h.1) }

-- an assembler before and after a byte
pub record Step (old new : Kept) (byte : ℕ) : Type 0 where
  pub begun : Kept
  pub begins : begun ≡ begun_at old.stage old
  pub kept : List ℕ
  pub same : kept ≡ begun.bytes
  pub stage : Stage
  pub next : (seen : List ℕ) → IsStage begun.stage seen → kept ≡ take room seen → IsNext stage (seen ++ byte ∷ [])
  pub made : new ≡ record { bytes = take room (begun.bytes ++ byte ∷ []); stage = stage }

pub record Stepped (new : Kept) (all : List ℕ) : Type 0 where
  pub stage : IsNext new.stage all
  pub bytes : new.bytes ≡ take room all

pub stepped : (old new : Kept) (byte : ℕ) → Step old new byte → (seen : List ℕ) → Fed old seen → Stepped new (seen ++ byte ∷ [])
stepped old new byte s seen fed =
    let begun = subst (λ k. Opened k seen) (sym s.begins) (begun_of old old.stage seen refl fed) in
    subst (λ k. Stepped k (seen ++ byte ∷ [])) (sym s.made)
    (record {
      stage = s.next seen begun.stage (s.same ∙ begun.bytes);
      bytes = keep_more s.begun.bytes seen byte begun.bytes;
    })

whole_next : (stage : Stage) (all : List ℕ) → IsNext stage all → IsWholeStage stage → IsEnd stage all
whole_next stages.First all h w = absurd w
whole_next (stages.Body unknown scan) all h w = absurd w
whole_next (stages.Whole fault) all h w = h

open_next : (stage : Stage) (all : List ℕ) → IsNext stage all → ¬ (IsWholeStage stage) → IsStage stage all
open_next stages.First all h w = h
open_next (stages.Body unknown scan) all h w = h
open_next (stages.Whole fault) all h w = absurd (w tt)

pub end_whole : (stage : Stage) (all : List ℕ) → IsEnd stage all → IsWhole all
end_whole stages.First all h = absurd h
end_whole (stages.Body unknown scan) all h = absurd h
end_whole (stages.Whole fault) all h = h.0

end_fault : (stage : Stage) (all : List ℕ) → IsEnd stage all → stage_fault stage ≡ fault_of (command_of all)
end_fault stages.First all h = absurd h
end_fault (stages.Body unknown scan) all h = absurd h
end_fault (stages.Whole fault) all h = h.1

whole_stage : (stage : Stage) → IsWholeStage stage ⊎ (¬ (IsWholeStage stage))
whole_stage stages.First = inr (λ w. w)
whole_stage (stages.Body unknown scan) = inr (λ w. w)
whole_stage (stages.Whole fault) = inl tt

pub whole_fed : (new : Kept) (all : List ℕ) → Stepped new all → HasWhole new → IsWhole all
whole_fed new all s w = end_whole new.stage all (whole_next new.stage all s.stage w)

pub fed_whole : (new : Kept) (all : List ℕ) → Stepped new all → IsWhole all → HasWhole new
fed_whole new all s whole =
    elim (whole_stage new.stage) [
      | inl w ↦ w
      | inr other ↦ absurd (open_not_whole new.stage all (open_next new.stage all s.stage other) whole)
    ]

pub completed : (new : Kept) (all : List ℕ) → Stepped new all → HasWhole new → Completed new all
completed new all s w = (whole_next new.stage all s.stage w, s.bytes)

pub still_fed : (new : Kept) (all : List ℕ) → Stepped new all → ¬ (HasWhole new) → Fed new all
still_fed new all s other = inl (open_next new.stage all s.stage other, s.bytes)

-- What is handed out.

pub refused : (kept : Kept) (bytes : List ℕ) (refusal : Refusal) → Completed kept bytes → stage_fault kept.stage ≡ Some refusal → command_of bytes ≡ Bad refusal
refused kept bytes refusal h e = fault_bad (command_of bytes) refusal (sym e ∙ end_fault kept.stage bytes h.0)

pub record Given (kept : Kept) (bytes : List ℕ) : Type 0 where
  pub all : kept.bytes ≡ bytes
  pub known : IsKnown (command_of bytes)

pub given : (kept : Kept) (bytes : List ℕ) → Completed kept bytes → stage_fault kept.stage ≡ None → Given kept bytes
given kept bytes h e =
    let none = sym e ∙ end_fault kept.stage bytes h.0 in
    record {
      all = h.1 ∙ take_all room bytes (whole_short bytes (end_whole kept.stage bytes h.0) (sym none));
      known = fault_known (command_of bytes) none;
    }

kept_of : List ℕ → Stage → Kept
kept_of x s = record { bytes = x; stage = s }

pub same_kept : (k : Kept) (x : List ℕ) (s : Stage) → x ≡ k.bytes → s ≡ k.stage → record { bytes = x; stage = s } ≡ k
unfolding kept_of
same_kept k x s e f = ap (λ b. kept_of b s) e ∙ ap (kept_of k.bytes) f
