-- A body, scanned byte by byte.
use Rattle.std.proofs.Common.{◌≡◌, ℕ, ◌+◌, ◌-◌, ◌<◌, ◌≤◌, true, cond, not, ltb, min, nat_le, List, [], ◌∷◌, ◌++◌, length, Option, Some, None, inl, inr, refl, sym, ap, ◌∙◌, arith, length-append, append_assoc, append-nil}
use Rattle.std.specs.List.{All, list_all}
use Rattle.std.proofs.lemmas.Bool.{cond_both, cond-true, cond-false, lt-ltb, le-ltb, ltb-false, leb-false, le-leb, lt-leb, cases_lt}
use Rattle.std.proofs.lemmas.Grind.{flat_map-append}
use Rattle.std.proofs.lemmas.List.Elements.{All-append, All-cons, All-nil}
use Rattle.pb_words.specs.declared.refusals.Refusal.{Refusal}
use Rattle.pb_words.specs.declared.refusals.Refusal.TheVariants as refusals
use Rattle.pb_grammar.specs.Grammar.{IsBodyLine, body_fault, body_text, first_of, is_printable, line_fault}
use Rattle.pb_grammar.specs.Feeding.{Scans, own_fault}
use Rattle.pb_grammar.specs.declared.scanning.Scan.{Scan}
use Rattle.pb_grammar.proofs.TableTexts.{body_cut, body_open}

-- Faults.

first_none : (f : Option Refusal) → first_of f None ≡ f
first_none None = refl
first_none (Some r) = refl

first_assoc : (f g h : Option Refusal) → first_of f (first_of g h) ≡ first_of (first_of f g) h
first_assoc None g h = refl
first_assoc (Some r) g h = refl

pub record None_both (f g : Option Refusal) : Type 0 where
  pub one : f ≡ None
  pub two : g ≡ None

pub first_parts : (f g : Option Refusal) → first_of f g ≡ None → None_both f g
first_parts None g h = record { one = refl; two = h }
first_parts (Some r) g h = absurd (cc)

first_same : (f own x y : Option Refusal) → f ≡ x → (f ≡ None → own ≡ y) → first_of f own ≡ first_of x y
first_same None own x y e h = h refl ∙ ap (λ z. first_of z y) e
first_same (Some r) own x y e h = ap (λ z. first_of z y) e

pub body_length : (line : List ℕ) (lines : List (List ℕ)) → length (body_text (line ∷ lines)) ≡ length line + 1 + length (body_text lines)
body_length line lines = omega (arith, length-append (line ++ 10 ∷ []) (body_text lines), length-append line (10 ∷ []))

-- a body with one more line
pub body_push : (lines : List (List ℕ)) (line : List ℕ) → body_text (lines ++ line ∷ []) ≡ body_text lines ++ (line ++ 10 ∷ [])
body_push lines line =
    flat_map-append (λ l. l ++ 10 ∷ []) lines (line ∷ []) ∙ ap (λ t. body_text lines ++ t) (append-nil (line ++ 10 ∷ []))

fault_push : (before : ℕ) (lines : List (List ℕ)) (line : List ℕ) → body_fault before (lines ++ line ∷ []) ≡ first_of (body_fault before lines) (line_fault (before + length (body_text lines)) line)
fault_push before [] line =
    let e : before ≡ before + 0 = omega arith in
    first_none (line_fault before line) ∙ ap (λ n. line_fault n line) e
fault_push before (l ∷ ls) line =
    let n : ℕ = before + length l + 1 in
    let e : n + length (body_text ls) ≡ before + length (body_text (l ∷ ls)) = omega (arith, body_length l ls) in
    ap (first_of (line_fault before l)) (fault_push n ls line)
    ∙ first_assoc (line_fault before l) (body_fault n ls) (line_fault (n + length (body_text ls)) line)
    ∙ ap (λ k. first_of (first_of (line_fault before l) (body_fault n ls)) (line_fault k line)) e

-- a line's fault, by what a scan has counted of it
last_part : (room line before : ℕ) → room + before ≡ 262144 → cond (nat_le room line) (Some refusals.TableTooLong) None ≡ cond (ltb 262144 (before + line + 1)) (Some refusals.TableTooLong) None
last_part room line before left =
    elim (cases_lt 262144 (before + line + 1)) [
      | inl long ↦ cond-true (nat_le room line) (Some refusals.TableTooLong) None (le-leb room line (omega arith)) ∙ sym (cond-true (ltb 262144 (before + line + 1)) (Some refusals.TableTooLong) None (lt-ltb 262144 (before + line + 1) long))
      | inr short ↦ cond-false (nat_le room line) (Some refusals.TableTooLong) None (lt-leb room line (omega arith)) ∙ sym (cond-false (ltb 262144 (before + line + 1)) (Some refusals.TableTooLong) None (le-ltb 262144 (before + line + 1) short))
    ]

own_line : (scan : Scan) (current : List ℕ) (before : ℕ) → scan.line ≡ min (length current) 4097 → scan.printable ≡ list_all is_printable current → scan.room + before ≡ 262144 → own_fault scan ≡ line_fault before current
own_line scan current before counted clean left =
    elim (cases_lt 4096 (length current)) [
      | inl long ↦
          cond-true (ltb 4096 scan.line) (Some refusals.LineTooLong) _ (lt-ltb 4096 scan.line (omega arith))
          ∙ sym (cond-true (ltb 4096 (length current)) (Some refusals.LineTooLong) _ (lt-ltb 4096 (length current) long))
      | inr short ↦
          let same : scan.line ≡ length current = omega arith in
          ap (λ n. cond (ltb 4096 n) (Some refusals.LineTooLong) (cond (not scan.printable) (Some refusals.NotPrintable) (cond (nat_le scan.room n) (Some refusals.TableTooLong) None))) same
          ∙ ap (λ p. cond (ltb 4096 (length current)) (Some refusals.LineTooLong) (cond (not p) (Some refusals.NotPrintable) (cond (nat_le scan.room (length current)) (Some refusals.TableTooLong) None))) clean
          ∙ ap (λ x. cond (ltb 4096 (length current)) (Some refusals.LineTooLong) (cond (not (list_all is_printable current)) (Some refusals.NotPrintable) x)) (last_part scan.room (length current) before left)
    ]

record Small (scan : Scan) : Type 0 where
  line : scan.line ≤ 4096
  room : scan.line < scan.room

own_none : (scan : Scan) → own_fault scan ≡ None → Small scan
own_none scan =
    cond_both (ltb 4096 scan.line) (Some refusals.LineTooLong) (cond (not scan.printable) (Some refusals.NotPrintable) (cond (nat_le scan.room scan.line) (Some refusals.TableTooLong) None)) (λ x. x ≡ None → Small scan)
    (λ _ e. absurd (cc))
    (λ short.
    cond_both (not scan.printable) (Some refusals.NotPrintable) (cond (nat_le scan.room scan.line) (Some refusals.TableTooLong) None) (λ x. x ≡ None → Small scan)
    (λ _ e. absurd (cc))
    (λ _.
    cond_both (nat_le scan.room scan.line) (Some refusals.TableTooLong) None (λ x. x ≡ None → Small scan)
    (λ _ e. absurd (cc))
    (λ fits _. record { line = ltb-false 4096 scan.line short; room = leb-false scan.room scan.line fits })))

-- the newline of a line that isn't empty
pub newline_scanned : (scan next : Scan) (body : List ℕ) → 0 < scan.line → next.room ≡ scan.room - scan.line - 1 → next.line ≡ 0 → next.printable ≡ true → next.fault ≡ first_of scan.fault (own_fault scan) → Scans scan body → Scans next (body ++ 10 ∷ [])
newline_scanned scan next body some room line printable fault h =
    record {
      lines = h.lines ++ h.current ∷ [];
      current = [];
      printed =
          ap (λ t. t ++ 10 ∷ []) h.printed ∙ append_assoc (body_text h.lines) h.current (10 ∷ [])
          ∙ sym (body_push h.lines h.current) ∙ sym (append-nil (body_text (h.lines ++ h.current ∷ [])));
      ended =
          let long : 0 < length h.current = omega (arith, h.counted) in
          All-append IsBodyLine h.lines (h.current ∷ []) h.ended
          (All-cons IsBodyLine h.current [] (record { text = h.begun; some = long }) (All-nil IsBodyLine));
      begun = All-nil (λ b. b ≡ 10 → ⊥);
      counted = line;
      clean = printable;
      found =
          let zero : length (body_text h.lines) ≡ 0 + length (body_text h.lines) = omega arith in
          fault
          ∙ first_same scan.fault (own_fault scan) (body_fault 0 h.lines) (line_fault (length (body_text h.lines)) h.current) h.found
          (λ none. own_line scan h.current (length (body_text h.lines)) h.counted h.clean (h.left none))
          ∙ ap (λ n. first_of (body_fault 0 h.lines) (line_fault n h.current)) zero
          ∙ sym (fault_push 0 h.lines h.current);
      left =
          λ none.
          let parts = first_parts scan.fault (own_fault scan) (sym fault ∙ none) in
          let small = own_none scan parts.two in
          let left = h.left parts.one in
          omega (arith, small.line, small.room, left, room, h.counted, ap length (body_push h.lines h.current), length-append (body_text h.lines) (h.current ++ 10 ∷ []), length-append h.current (10 ∷ []));
    }

none_of : (s : List ℕ) → length s ≡ 0 → s ≡ []
none_of [] e = refl
none_of (b ∷ bs) e = absurd (omega arith)

-- no line is begun
pub none_begun : (scan : Scan) (body : List ℕ) → (h : Scans scan body) → scan.line ≡ 0 → h.current ≡ []
none_begun scan body h e = none_of h.current (omega (arith, h.counted, e))

-- The end of a body.

pub record Lined (behind : List ℕ) (scan : Scan) : Type 0 where
  pub lines : List (List ℕ)
  pub body : All IsBodyLine lines
  pub printed : behind ≡ body_text lines ++ 10 ∷ []
  pub same : scan.fault ≡ body_fault 0 lines

pub right_end : (scan : Scan) (body behind : List ℕ) → Scans scan body → scan.line ≡ 0 → behind ≡ body ++ 10 ∷ [] → Lined behind scan
right_end scan body behind h e all =
    record {
      lines = h.lines;
      body = h.ended;
      printed = all ∙ ap (λ t. t ++ 10 ∷ []) (h.printed ∙ ap (λ t. body_text h.lines ++ t) (none_begun scan body h e) ∙ append-nil (body_text h.lines));
      same = h.found;
    }

-- an empty line before the end
pub early_end : (scan : Scan) (body rest behind : List ℕ) → Scans scan body → scan.line ≡ 0 → behind ≡ (body ++ 10 ∷ rest) ++ 10 ∷ [] → (lines : List (List ℕ)) → All IsBodyLine lines → behind ≡ body_text lines ++ 10 ∷ [] → ⊥
early_end scan body rest behind h e all lines are printed =
    let front : body ≡ body_text h.lines = h.printed ∙ ap (λ t. body_text h.lines ++ t) (none_begun scan body h e) ∙ append-nil (body_text h.lines) in
    let cut = body_cut h.lines lines (rest ++ 10 ∷ []) [] h.ended are (sym (ap (λ t. t ++ 10 ∷ (rest ++ 10 ∷ [])) front) ∙ sym (append_assoc body (10 ∷ rest) (10 ∷ [])) ∙ sym all ∙ printed) in
    absurd (omega (arith, ap length cut, length-append rest (10 ∷ [])))

-- a line that isn't empty at the end
pub late_end : (scan : Scan) (body behind : List ℕ) → Scans scan body → 0 < scan.line → behind ≡ body ++ 10 ∷ [] → (lines : List (List ℕ)) → All IsBodyLine lines → behind ≡ body_text lines ++ 10 ∷ [] → ⊥
late_end scan body behind h some all lines are printed =
    let long : 0 < length h.current = omega (arith, h.counted) in
    let ended = All-append IsBodyLine h.lines (h.current ∷ []) h.ended (All-cons IsBodyLine h.current [] (record { text = h.begun; some = long }) (All-nil IsBodyLine)) in
    body_open (h.lines ++ h.current ∷ []) lines [] [] ended are (All-nil (λ b. b ≡ 10 → ⊥))
    (append-nil (body_text (h.lines ++ h.current ∷ [])) ∙ body_push h.lines h.current ∙ sym (append_assoc (body_text h.lines) h.current (10 ∷ [])) ∙ sym (ap (λ t. t ++ 10 ∷ []) h.printed) ∙ sym all ∙ printed)
