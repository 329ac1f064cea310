-- A SEQ over many ticks under the same inputs: it counts the ticks of a phase down, or it rests.
use Rattle.std.proofs.Common.{◌≡◌, ℕ, zero, suc, ◌+◌, ◌-◌, ◌%◌, ◌^◌, ◌<◌, ◌⊎◌, inl, inr, ◌==◌, nat_lt, not, Bool, true, false, if◌then◌else◌, List, Some, None, lit<, refl, ap, sym, subst, ◌∙◌, arith}
use Rattle.std.proofs.lemmas.Bool.{lt-ltb, ltb-true, ltb-false, ne_eqb, false≢true}
use Rattle.std.proofs.lemmas.Nat.{mod_below}
use Rattle.std.proofs.Math.Nat.{mod-eq_of_lt, mod_self}
use Rattle.pb_buses.specs.declared.inputs.Inputs.{Inputs}
use Rattle.pb_buses.specs.Rules.{after, IsCalm, AreCalm, IsHorizon}
use Rattle.pb_buses.proofs.RuleLemmas.{never, until}
use Rattle.pb_buses.proofs.CoastLemmas.{first_calm, rest_calm}
use Rattle.pb_tables.specs.declared.seq_rows.SeqRow.{SeqRow}
use Rattle.pb_seq.specs.declared.settings.SeqSettings.{SeqSettings}
use Rattle.pb_seq.specs.declared.registers.SeqRegisters.{SeqRegisters}
use Rattle.pb_seq.specs.declared.registers.SeqState.{SeqState}
use Rattle.pb_seq.specs.declared.registers.SeqState.TheVariants as states
use Rattle.pb_seq.specs.Seq.{Sequencer, next, uncounted, rules, turned, try, begun, clear, rewritten, disabled, wait_enable, wait_trigger, first_phase, phase_one, phase_two, one_tick_fewer, end_of_repeat, end_of_line, end_of_table, next_line, next_line_repeat, next_table_repeat, goes_on, rows_of, present_row, is_met, is_in_phase_one, enable}
use Rattle.pb_buses.specs.Edges.{rises}
use Rattle.pb_seq.specs.Parts.{in_phase, is_in_phase, with_ticks, coasted, AreStill}

-- Out of phases.

-- how registers depend on the ticks that were left: not at all, or they keep them
Follows : (ℕ → SeqRegisters) → Type 0
Follows f = ((k : ℕ) → f k ≡ f 0) ⊎ ((k : ℕ) → f k ≡ with_ticks (f 0) k)

follows_not : (f : ℕ → SeqRegisters) → ((k : ℕ) → f k ≡ f 0) → Follows f
unfolding Follows
follows_not f h = inl h

follows_keeps : (f : ℕ → SeqRegisters) → ((k : ℕ) → f k ≡ with_ticks (f 0) k) → Follows f
unfolding Follows
follows_keeps f h = inr h

follows_if : (b : Bool) (f g : ℕ → SeqRegisters) → Follows f → Follows g → Follows (λ k. if b then f k else g k)
follows_if true f g p q = p
follows_if false f g p q = q

-- what they are with the ticks left that they have
steady : (f : ℕ → SeqRegisters) → Follows f → (k : ℕ) → f ((f k).ticks_left) ≡ f k
unfolding Follows
steady f (inl h) k = h ((f k).ticks_left) ∙ sym (h k)
steady f (inr h) k =
    let left : SeqRegisters → ℕ = λ x. x.ticks_left in
    ap f (ap left (h k))

follows_try :
    (settings : SeqSettings) (table : List ℕ) (r : SeqRegisters) (inputs : Inputs) →
    Follows (λ k. try settings table (with_ticks r k) inputs)
follows_try settings table r inputs =
    let row : SeqRow = present_row table r in
    follows_if (is_met row inputs) (λ k. first_phase settings row (with_ticks r k)) (λ k. wait_trigger (with_ticks r k))
    (follows_if (row.time1 == 0) (λ k. phase_two settings row (with_ticks r k)) (λ k. phase_one settings row (with_ticks r k))
    (follows_not (λ k. phase_two settings row (with_ticks r k)) (λ k. refl))
    (follows_not (λ k. phase_one settings row (with_ticks r k)) (λ k. refl)))
    (follows_not (λ k. wait_trigger (with_ticks r k)) (λ k. refl))

-- at a state
abbrev at : SeqRegisters → SeqState → ℕ → SeqRegisters
at r state k = record r { state = state; ticks_left = k }

follows_turned :
    (state : SeqState) → is_in_phase state ≡ false →
    (settings : SeqSettings) (table : List ℕ) (r : SeqRegisters) (inputs : Inputs) →
    Follows (λ k. turned settings table (at r state k) inputs)
follows_turned states.Unready h settings table r inputs =
    follows_if r.written (λ k. rewritten table (at r states.Unready k)) (λ k. at r states.Unready k)
    (follows_not (λ k. rewritten table (at r states.Unready k)) (λ k. refl))
    (follows_keeps (λ k. at r states.Unready k) (λ k. refl))
follows_turned states.WaitEnable h settings table r inputs =
    follows_if r.written (λ k. rewritten table (at r states.WaitEnable k))
    (λ k. if not (enable inputs) then disabled (at r states.WaitEnable k)
    else wait_enable settings table (at r states.WaitEnable k) inputs)
    (follows_not (λ k. rewritten table (at r states.WaitEnable k)) (λ k. refl))
    (follows_if (not (enable inputs)) (λ k. disabled (at r states.WaitEnable k))
    (λ k. wait_enable settings table (at r states.WaitEnable k) inputs)
    (follows_not (λ k. disabled (at r states.WaitEnable k)) (λ k. refl))
    (follows_if (rises r.enable_before (enable inputs))
    (λ k. try settings table (begun (at r states.WaitEnable k)) inputs) (λ k. at r states.WaitEnable k)
    (follows_try settings table (begun (at r states.WaitEnable 0)) inputs)
    (follows_keeps (λ k. at r states.WaitEnable k) (λ k. refl))))
follows_turned states.WaitTrigger h settings table r inputs =
    follows_if r.written (λ k. rewritten table (at r states.WaitTrigger k))
    (λ k. if not (enable inputs) then disabled (at r states.WaitTrigger k)
    else try settings table (at r states.WaitTrigger k) inputs)
    (follows_not (λ k. rewritten table (at r states.WaitTrigger k)) (λ k. refl))
    (follows_if (not (enable inputs)) (λ k. disabled (at r states.WaitTrigger k))
    (λ k. try settings table (at r states.WaitTrigger k) inputs)
    (follows_not (λ k. disabled (at r states.WaitTrigger k)) (λ k. refl))
    (follows_try settings table (at r states.WaitTrigger 0) inputs))
follows_turned states.Phase1 h settings table r inputs = absurd (false≢true (sym h))
follows_turned states.Phase2 h settings table r inputs = absurd (false≢true (sym h))

-- In a phase.

-- where a SEQ is in its table
abbrev place : SeqRegisters → ℕ × ℕ × ℕ
place r = (r.line, r.line_repeat, r.table_repeat)

abbrev first : ℕ × ℕ × ℕ → ℕ
first p = p.0

abbrev second : ℕ × ℕ × ℕ → ℕ
second p = p.1

abbrev third : ℕ × ℕ × ℕ → ℕ
third p = p.2

-- it is elsewhere, or at another state
Moved : SeqRegisters → SeqRegisters → Type 0
Moved r x = (¬ (place x ≡ place r)) ⊎ (¬ (x.state ≡ r.state))

moved_place : (r x : SeqRegisters) → ¬ (place x ≡ place r) → Moved r x
unfolding Moved
moved_place r x h = inl h

moved_state : (r x : SeqRegisters) → ¬ (x.state ≡ r.state) → Moved r x
unfolding Moved
moved_state r x h = inr h

not_moved : (r x : SeqRegisters) → Moved r x → place x ≡ place r → x.state ≡ r.state → ⊥
unfolding Moved
not_moved r x (inl h) p s = h p
not_moved r x (inr h) p s = h s

moved_if : (r : SeqRegisters) (b : Bool) (x y : SeqRegisters) → Moved r x → Moved r y → Moved r (if b then x else y)
moved_if r true x y p q = p
moved_if r false x y p q = q

moved_try :
    (settings : SeqSettings) (table : List ℕ) (r x : SeqRegisters) (inputs : Inputs) →
    ¬ (place x ≡ place r) → Moved r (try settings table x inputs)
moved_try settings table r x inputs h =
    let row : SeqRow = present_row table x in
    moved_if r (is_met row inputs) (first_phase settings row x) (wait_trigger x)
    (moved_if r (row.time1 == 0) (phase_two settings row x) (phase_one settings row x)
    (moved_place r (phase_two settings row x) h) (moved_place r (phase_one settings row x) h))
    (moved_place r (wait_trigger x) h)

grows : (n : ℕ) → ¬ (n + 1 ≡ n)
grows n e = omega (arith, e)

goes_round_by : (m n : ℕ) (b : Bool) → nat_lt (n + 1) m ≡ b → 1 < m → n < m → (n + 1) % m ≡ n → ⊥
goes_round_by m n true t h small e = grows n (sym (mod-eq_of_lt (ltb-true (n + 1) m t)) ∙ e)
goes_round_by m n false t h small e =
    let last : n + 1 ≡ m = omega (arith, ltb-false (n + 1) m t, small) in
    let rest : ℕ → ℕ = λ k. k % m in
    let none : (n + 1) % m ≡ 0 = ap rest last ∙ mod_self m in
    omega (arith, none, e, last, h)

goes_round : (m n : ℕ) → 1 < m → ¬ ((n + 1) % m ≡ n)
goes_round m n h e =
    let below : ℕ → Type 0 = λ k. k < m in
    goes_round_by m n (nat_lt (n + 1) m) refl h (subst below e (mod_below (n + 1) m (omega (arith, h)))) e

-- phase 2 over: nothing stays as it was
moved_end :
    (settings : SeqSettings) (table : List ℕ) (r : SeqRegisters) (inputs : Inputs) →
    Moved (record r { state = states.Phase2 }) (end_of_repeat settings table (record r { state = states.Phase2 }) inputs)
moved_end settings table r inputs =
    let x : SeqRegisters = record r { state = states.Phase2 } in
    moved_if x (goes_on (present_row table x).repeats x.line_repeat)
    (try settings table (next_line_repeat x) inputs) (end_of_line settings table x inputs)
    (moved_try settings table x (next_line_repeat x) inputs
    (λ e. goes_round (2 ^ 32) x.line_repeat (lit< tt) (ap second e)))
    (moved_if x (nat_lt x.line (rows_of table))
    (try settings table (next_line x) inputs) (end_of_table settings table x inputs)
    (moved_try settings table x (next_line x) inputs (λ e. grows x.line (ap first e)))
    (moved_if x (goes_on settings.repeats x.table_repeat)
    (try settings table (next_table_repeat x) inputs) (clear x states.WaitEnable)
    (moved_try settings table x (next_table_repeat x) inputs
    (λ e. goes_round (2 ^ 32) x.table_repeat (lit< tt) (ap third e)))
    (moved_state x (clear x states.WaitEnable) (λ e. false≢true (ap is_in_phase e)))))

-- the last tick of a phase moves it
moved_in_phase :
    (state : SeqState) → is_in_phase state ≡ true →
    (settings : SeqSettings) (table : List ℕ) (r : SeqRegisters) (inputs : Inputs) →
    nat_lt 1 r.ticks_left ≡ false →
    Moved (record r { state = state }) (in_phase settings table (record r { state = state }) inputs)
moved_in_phase states.Unready h settings table r inputs e = absurd (false≢true h)
moved_in_phase states.WaitEnable h settings table r inputs e = absurd (false≢true h)
moved_in_phase states.WaitTrigger h settings table r inputs e = absurd (false≢true h)
moved_in_phase states.Phase1 h settings table r inputs e =
    let x : SeqRegisters = record r { state = states.Phase1 } in
    rw e (moved_state x (phase_two settings (present_row table x) x) (λ p. false≢true (ap is_in_phase_one p)))
moved_in_phase states.Phase2 h settings table r inputs e = rw e (moved_end settings table r inputs)

-- enabled, in a phase
turned_in_phase :
    (state : SeqState) → is_in_phase state ≡ true →
    (settings : SeqSettings) (table : List ℕ) (r : SeqRegisters) (inputs : Inputs) →
    r.written ≡ false → enable inputs ≡ true →
    turned settings table (record r { state = state }) inputs
    ≡ in_phase settings table (record r { state = state }) inputs
turned_in_phase states.Unready h settings table r inputs w e = absurd (false≢true h)
turned_in_phase states.WaitEnable h settings table r inputs w e = absurd (false≢true h)
turned_in_phase states.WaitTrigger h settings table r inputs w e = absurd (false≢true h)
turned_in_phase states.Phase1 h settings table r inputs w e = rw (w, e) refl
turned_in_phase states.Phase2 h settings table r inputs w e = rw (w, e) refl

-- not enabled, in a phase
turned_disabled :
    (state : SeqState) → is_in_phase state ≡ true →
    (settings : SeqSettings) (table : List ℕ) (r : SeqRegisters) (inputs : Inputs) →
    r.written ≡ false → enable inputs ≡ false →
    turned settings table (record r { state = state }) inputs ≡ disabled (record r { state = state })
turned_disabled states.Unready h settings table r inputs w e = absurd (false≢true h)
turned_disabled states.WaitEnable h settings table r inputs w e = absurd (false≢true h)
turned_disabled states.WaitTrigger h settings table r inputs w e = absurd (false≢true h)
turned_disabled states.Phase1 h settings table r inputs w e = rw (w, e) refl
turned_disabled states.Phase2 h settings table r inputs w e = rw (w, e) refl

module _ (inputs : Inputs) where
  -- one tick, and what is calm at it
  abbrev later : Sequencer → Sequencer
  later b = next b inputs 0

  abbrev IsStill : Sequencer → Type 0
  IsStill b = uncounted inputs (later b) ≡ uncounted inputs b

  -- the sequencer after a tick that turns its registers into these
  abbrev kept : Sequencer → SeqRegisters → Sequencer
  kept b x = record b { registers = record x { enable_before = enable inputs; written = false } }

  abbrev timed : Sequencer → ℕ → Sequencer
  timed b k = record b { registers = with_ticks b.registers k }

  -- Out of phases a calm tick leaves what the next one leaves too.
  settled : (b : Sequencer) → is_in_phase b.registers.state ≡ false → IsStill b → later (later b) ≡ later b
  settled b h still =
      let r : SeqRegisters = b.registers in
      let left : ℕ = (later b).registers.ticks_left in
      let put : Sequencer → Sequencer = λ x. timed x left in
      let f : ℕ → SeqRegisters = λ k. turned b.settings b.table (with_ticks r k) inputs in
      let is : later b ≡ timed b left = ap put still in
      ap later is ∙ ap (kept b) (steady f (follows_turned r.state h b.settings b.table r inputs) r.ticks_left)

  fixed : (m t : ℕ) (b : Sequencer) → later b ≡ b → after rules inputs t m b ≡ b
  fixed zero t b h = refl
  fixed (suc m) t b h =
      let go : Sequencer → Sequencer = λ x. after rules inputs (t + 1) m x in
      ap go h ∙ fixed m (t + 1) b h

  rests :
      (m t : ℕ) (b : Sequencer) → is_in_phase b.registers.state ≡ false → IsStill b →
      after rules inputs t (suc m) b ≡ later b
  rests m t b h still = fixed m (t + 1) (later b) (settled b h still)

  still_calm : (t : ℕ) (b : Sequencer) → IsStill b → IsCalm rules inputs t b
  still_calm t b still = record { quiet = refl; still = still }

  record Rests (t : ℕ) (b : Sequencer) : Type 0 where
    out : is_in_phase b.registers.state ≡ false
    calm : IsStill b

  resting : (t : ℕ) (b : Sequencer) → Rests t b → IsCalm rules inputs t b × Rests (t + 1) (later b)
  resting t b h =
      let in_state : Sequencer → Bool = λ x. is_in_phase x.registers.state in
      let plain : Sequencer → Sequencer = λ x. uncounted inputs x in
      let out' : is_in_phase (later b).registers.state ≡ false = ap in_state h.calm ∙ h.out in
      let calm' : IsStill (later b) = ap plain (settled b h.out h.calm) in
      (still_calm t b h.calm, record { out = out'; calm = calm' })

  never_moves :
      (t : ℕ) (b : Sequencer) → is_in_phase b.registers.state ≡ false → IsStill b → IsHorizon rules inputs t b None
  never_moves t b h still = never rules inputs Rests resting t b (record { out = h; calm = still })

  -- In a phase.
  record Counts (b : Sequencer) : Type 0 where
    inside : is_in_phase b.registers.state ≡ true
    unwritten : b.registers.written ≡ false
    enabled : enable inputs ≡ true
    before : b.registers.enable_before ≡ true

  turned_counts :
      (b : Sequencer) → Counts b → later b ≡ kept b (in_phase b.settings b.table b.registers inputs)
  turned_counts b h =
      ap (kept b)
      (turned_in_phase b.registers.state h.inside b.settings b.table b.registers inputs h.unwritten h.enabled)

  -- the last tick of a phase isn't calm
  ends : (b : Sequencer) → Counts b → nat_lt 1 b.registers.ticks_left ≡ false → ¬ (IsStill b)
  ends b h e still =
      let r : SeqRegisters = b.registers in
      let x : SeqRegisters = in_phase b.settings b.table r inputs in
      let plain : Sequencer → Sequencer = λ y. uncounted inputs y in
      let same : uncounted inputs (kept b x) ≡ uncounted inputs b = sym (ap plain (turned_counts b h)) ∙ still in
      let here : Sequencer → ℕ × ℕ × ℕ = λ y. place y.registers in
      let what : Sequencer → SeqState = λ y. y.registers.state in
      not_moved r x (moved_in_phase r.state h.inside b.settings b.table r inputs e) (ap here same) (ap what same)

  -- another tick is one tick fewer
  goes_down :
      (b : Sequencer) → Counts b → nat_lt 1 b.registers.ticks_left ≡ true →
      later b ≡ timed b (b.registers.ticks_left - 1)
  goes_down b h e =
      let r : SeqRegisters = b.registers in
      let fewer : in_phase b.settings b.table r inputs ≡ one_tick_fewer r = rw e refl in
      let with_before : Bool → Sequencer =
      λ v. record b { registers = record (one_tick_fewer r) { enable_before = v; written = false } } in
      let with_mark : Bool → Sequencer = λ v. record b { registers = record (one_tick_fewer r) { written = v } } in
      turned_counts b h ∙ ap (kept b) fewer ∙ ap with_before (h.enabled ∙ sym h.before) ∙ ap with_mark (sym h.unwritten)

  goes_down_still : (b : Sequencer) → Counts b → nat_lt 1 b.registers.ticks_left ≡ true → IsStill b
  goes_down_still b h e =
      let plain : Sequencer → Sequencer = λ y. uncounted inputs y in
      ap plain (goes_down b h e)

  -- a calm tick in a phase counts
  counts_enabled :
      (b : Sequencer) (v : Bool) → enable inputs ≡ v → is_in_phase b.registers.state ≡ true →
      b.registers.written ≡ false → IsStill b → v ≡ true
  counts_enabled b true e h w still = refl
  counts_enabled b false e h w still =
      let r : SeqRegisters = b.registers in
      let gone : later b ≡ kept b (disabled r) =
      ap (kept b) (turned_disabled r.state h b.settings b.table r inputs w e) in
      let inside : Sequencer → Bool = λ y. is_in_phase y.registers.state in
      sym (ap inside gone) ∙ ap inside still ∙ h

  still_counts : (b : Sequencer) → is_in_phase b.registers.state ≡ true → IsStill b → Counts b
  still_counts b h still =
      let mark : Sequencer → Bool = λ y. y.registers.written in
      let kept_enable : Sequencer → Bool = λ y. y.registers.enable_before in
      let w : b.registers.written ≡ false = sym (ap mark still) in
      let e : enable inputs ≡ true = counts_enabled b (enable inputs) refl h w still in
      record { inside = h; unwritten = w; enabled = e; before = sym (ap kept_enable still) ∙ e }

  still_left_by :
      (b : Sequencer) (v : Bool) → nat_lt 1 b.registers.ticks_left ≡ v → Counts b → IsStill b →
      nat_lt 1 b.registers.ticks_left ≡ true
  still_left_by b true e h still = e
  still_left_by b false e h still = absurd (ends b h e still)

  still_left : (b : Sequencer) → Counts b → IsStill b → nat_lt 1 b.registers.ticks_left ≡ true
  still_left b h still = still_left_by b (nat_lt 1 b.registers.ticks_left) refl h still

  timed_counts : (b : Sequencer) (k : ℕ) → Counts b → Counts (timed b k)
  timed_counts b k h =
      record { inside = h.inside; unwritten = h.unwritten; enabled = h.enabled; before = h.before }

  record Left (n t : ℕ) (b : Sequencer) : Type 0 where
    counts : Counts b
    left : b.registers.ticks_left ≡ suc n

  none_left : (t : ℕ) (b : Sequencer) → Left zero t b → ¬ (IsCalm rules inputs t b)
  none_left t b h c = ends b h.counts (rw h.left refl) c.still

  one_fewer :
      (n t : ℕ) (b : Sequencer) → Left (suc n) t b → IsCalm rules inputs t b × Left n (t + 1) (later b)
  one_fewer n t b h =
      let more : nat_lt 1 b.registers.ticks_left ≡ true = lt-ltb 1 b.registers.ticks_left (omega (arith, h.left)) in
      let there : Sequencer → Type 0 = λ x. Left n (t + 1) x in
      let fewer : b.registers.ticks_left - 1 ≡ suc n = omega (arith, h.left) in
      let goal : Left n (t + 1) (timed b (b.registers.ticks_left - 1)) =
      record { counts = timed_counts b (b.registers.ticks_left - 1) h.counts; left = fewer } in
      (still_calm t b (goes_down_still b h.counts more), subst there (sym (goes_down b h.counts more)) goal)

  counts_down :
      (t : ℕ) (b : Sequencer) → is_in_phase b.registers.state ≡ true → IsStill b →
      IsHorizon rules inputs t b (Some (b.registers.ticks_left - 1))
  counts_down t b h still =
      let c : Counts b = still_counts b h still in
      let many : 1 < b.registers.ticks_left = ltb-true 1 b.registers.ticks_left (still_left b c still) in
      let one : b.registers.ticks_left ≡ suc (b.registers.ticks_left - 1) = omega (arith, many) in
      until rules inputs Left none_left one_fewer (b.registers.ticks_left - 1) t b (record { counts = c; left = one })

  -- Many calm ticks.
  counted :
      (m t : ℕ) (b : Sequencer) → is_in_phase b.registers.state ≡ true → AreCalm rules inputs t m b →
      after rules inputs t m b ≡ timed b (b.registers.ticks_left - m)
  counted zero t b h calm =
      let put : ℕ → Sequencer = λ k. timed b k in
      let none : b.registers.ticks_left ≡ b.registers.ticks_left - 0 = omega arith in
      ap put none
  counted (suc m) t b h calm =
      let still : IsStill b = (first_calm rules inputs m t b calm).still in
      let c : Counts b = still_counts b h still in
      let down = goes_down b c (still_left b c still) in
      let inside : Sequencer → Bool = λ y. is_in_phase y.registers.state in
      let put : Sequencer → Sequencer = λ y. timed y (y.registers.ticks_left - m) in
      let at_time : ℕ → Sequencer = λ k. timed b k in
      let fewer : (b.registers.ticks_left - 1) - m ≡ b.registers.ticks_left - suc m = omega arith in
      counted m (t + 1) (later b) (ap inside down ∙ h) (rest_calm rules inputs m t b calm) ∙ ap put down ∙ ap at_time fewer

  coasted_by :
      (m t : ℕ) (b : Sequencer) (v : Bool) → is_in_phase b.registers.state ≡ v → AreCalm rules inputs t m b →
      record b { registers = coasted b.settings b.table b.registers inputs m } ≡ after rules inputs t m b
  coasted_by zero t b v e calm = refl
  coasted_by (suc m) t b true e calm =
      let some : suc m == 0 ≡ false = ne_eqb (suc m) 0 (λ p. omega (arith, p)) in
      rw (some, e) (sym (counted (suc m) t b e calm))
  coasted_by (suc m) t b false e calm =
      let some : suc m == 0 ≡ false = ne_eqb (suc m) 0 (λ p. omega (arith, p)) in
      rw (some, e) (sym (rests m t b e (first_calm rules inputs m t b calm).still))

  pub coasts :
      (m t : ℕ) (b : Sequencer) → AreCalm rules inputs t m b →
      record b { registers = coasted b.settings b.table b.registers inputs m } ≡ after rules inputs t m b
  coasts m t b calm = coasted_by m t b (is_in_phase b.registers.state) refl calm

  -- The same, for the registers alone.
  all_still : (b : Sequencer) → AreStill b.settings b.table b.registers inputs → IsStill b
  all_still b h =
      let put : SeqRegisters → Sequencer = λ x. record b { registers = x } in
      ap put h

  pub horizon_none :
      (t : ℕ) (b : Sequencer) → AreStill b.settings b.table b.registers inputs →
      is_in_phase b.registers.state ≡ false → IsHorizon rules inputs t b None
  horizon_none t b h e = never_moves t b e (all_still b h)

  pub horizon_some :
      (t : ℕ) (b : Sequencer) → AreStill b.settings b.table b.registers inputs →
      is_in_phase b.registers.state ≡ true → IsHorizon rules inputs t b (Some (b.registers.ticks_left - 1))
  horizon_some t b h e = counts_down t b e (all_still b h)
