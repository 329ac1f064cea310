-- A PULSE under the same inputs: when a step changes nothing, and for how many steps.
use Rattle.std.proofs.Common.{◌≡◌, ℕ, suc, ◌+◌, ◌<◌, ◌≤◌, Bool, true, false, refl, sym, ap, subst, ◌∙◌, arith, List, [], Option, Some, None}
use Rattle.pb_buses.specs.declared.inputs.Inputs.{Inputs}
use Rattle.pb_buses.specs.declared.edges.Edge.{Edge}
use Rattle.pb_buses.specs.declared.edges.Edge.TheVariants as edges
use Rattle.pb_buses.specs.Edges.{rises, has_edge}
use Rattle.pb_buses.specs.Rules.{IsCalm, IsHorizon}
use Rattle.pb_buses.proofs.RuleLemmas.{never, until}
use Rattle.pb_pulse.specs.declared.trains.Train.{Train}
use Rattle.pb_pulse.specs.Queue.{is_any_on, left}
use Rattle.pb_pulse.specs.Holding.{IsStill, IsStillFor}
use Rattle.pb_pulse.specs.Pulse.{Generator, enable, trig, next, rules}

no_rise : (b : Bool) → rises b b ≡ false
no_rise true = refl
no_rise false = refl

no_edge : (edge : Edge) (b : Bool) → has_edge edge b b ≡ false
no_edge edges.Rising b = no_rise b
no_edge edges.Falling b = no_rise b
no_edge edges.Either b = rw (no_rise b) refl

-- the block with another queue and output, and with other kept inputs
abbrev with_output : Generator → List Train → Bool → Generator
with_output generator queue out =
    record { settings = generator.settings; queue = queue; registers = record generator.registers { out = out } }

abbrev with_kept : Generator → Bool → Bool → Generator
with_kept generator e t =
    record {
      settings = generator.settings;
      queue = generator.queue;
      registers = record generator.registers { enable_before = e; trig_before = t };
    }

abbrev shaped : Inputs → Generator → Generator
shaped inputs generator = with_kept generator (enable inputs) (trig inputs)

shaped_enabled :
    (inputs : Inputs) (generator : Generator) (tick : ℕ) → enable inputs ≡ true →
    next (shaped inputs generator) inputs tick
    ≡ with_output (shaped inputs generator) (left tick generator.queue) (is_any_on tick generator.queue)
shaped_enabled inputs generator tick on =
    let e : has_edge generator.settings.trig_edge (trig inputs) (trig inputs) ≡ false = no_edge _ _ in
    rw (on, e) refl

shaped_disabled :
    (inputs : Inputs) (generator : Generator) (tick : ℕ) → enable inputs ≡ false →
    next (shaped inputs generator) inputs tick ≡ with_output (shaped inputs generator) [] false
shaped_disabled inputs generator tick off = rw off refl

module _ (inputs : Inputs) (generator : Generator) where
  -- the inputs are those of the tick before
  pub record AreKept : Type 0 where
    pub enabled : generator.registers.enable_before ≡ enable inputs
    pub triggered : generator.registers.trig_before ≡ trig inputs

  shape : AreKept → generator ≡ shaped inputs generator
  shape kept =
      ap (λ (e : Bool). with_kept generator e generator.registers.trig_before) kept.enabled
      ∙ ap (λ (t : Bool). with_kept generator (enable inputs) t) kept.triggered

  next_enabled :
      (tick : ℕ) → AreKept → enable inputs ≡ true →
      next generator inputs tick ≡ with_output generator (left tick generator.queue) (is_any_on tick generator.queue)
  next_enabled tick kept on =
      let P : Generator → Type 0 = λ b. next b inputs tick ≡ with_output b (left tick b.queue) (is_any_on tick b.queue) in
      subst P (sym (shape kept)) (shaped_enabled inputs generator tick on)

  next_disabled :
      (tick : ℕ) → AreKept → enable inputs ≡ false → next generator inputs tick ≡ with_output generator [] false
  next_disabled tick kept off =
      let P : Generator → Type 0 = λ b. next b inputs tick ≡ with_output b [] false in
      subst P (sym (shape kept)) (shaped_disabled inputs generator tick off)

  -- the block with its own queue and output
  same_output :
      (queue : List Train) (out : Bool) → queue ≡ generator.queue → out ≡ generator.registers.out →
      with_output generator queue out ≡ generator
  same_output queue out q o = ap (λ (q : List Train). with_output generator q out) q ∙ ap (with_output generator generator.queue) o

  same_by :
      (tick : ℕ) → AreKept → enable inputs ≡ true → IsStill generator.registers.out generator.queue tick →
      next generator inputs tick ≡ generator
  same_by tick kept on still = next_enabled tick kept on ∙ same_output _ _ still.stay still.level

  still_by :
      (tick : ℕ) → AreKept → enable inputs ≡ true → next generator inputs tick ≡ generator →
      IsStill generator.registers.out generator.queue tick
  still_by tick kept on same =
      let e = sym (next_enabled tick kept on) ∙ same in
      record {
        stay = ap (λ (b : Generator). b.queue) e;
        level = ap (λ (b : Generator). b.registers.out) e;
      }

  -- for ever, and for so many ticks
  forever :
      (tick : ℕ) → ((t : ℕ) → tick ≤ t → next generator inputs t ≡ generator) →
      IsHorizon rules inputs tick generator None
  forever tick same =
      let P : ℕ → Generator → Type 0 = λ t b. (b ≡ generator) × (tick ≤ t) in
      let keeps : (t : ℕ) (b : Generator) → P t b → IsCalm rules inputs t b × P (t + 1) (next b inputs t) = λ t b h.
      let after_it : next b inputs t ≡ generator = ap (λ (b : Generator). next b inputs t) h.0 ∙ same t h.1 in
      (record { quiet = refl; still = after_it ∙ sym h.0 }, (after_it, omega (arith, h.1))) in
      never rules inputs P keeps tick generator (refl, omega arith)

  so_long :
      (tick n : ℕ) → ((t : ℕ) → tick ≤ t → t < tick + n → next generator inputs t ≡ generator) →
      ¬ (next generator inputs (tick + n) ≡ generator) → IsHorizon rules inputs tick generator (Some n)
  so_long tick n same moves =
      let Left : ℕ → ℕ → Generator → Type 0 = λ k t b. (b ≡ generator) × (tick ≤ t) × (t + k ≡ tick + n) in
      let ends : (t : ℕ) (b : Generator) → Left 0 t b → ¬ (IsCalm rules inputs t b) = λ t b h calm.
      let end : t ≡ tick + n = omega (arith, h.2) in
      let here : next generator inputs t ≡ generator =
      ap (λ (b : Generator). next b inputs t) (sym h.0) ∙ calm.still ∙ h.0 in
      moves (ap (next generator inputs) (sym end) ∙ here) in
      let falls : (k t : ℕ) (b : Generator) → Left (suc k) t b → IsCalm rules inputs t b × Left k (t + 1) (next b inputs t) = λ k t b h.
      let after_it : next b inputs t ≡ generator =
      ap (λ (b : Generator). next b inputs t) h.0 ∙ same t h.1 (omega (arith, h.2)) in
      (record { quiet = refl; still = after_it ∙ sym h.0 }, (after_it, omega (arith, h.1), omega (arith, h.2))) in
      until rules inputs Left ends falls n tick generator (refl, omega arith, refl)

  -- enabled: as long as the queue is still
  pub still_horizon :
      (tick : ℕ) (n : Option ℕ) → AreKept → enable inputs ≡ true →
      IsStillFor tick generator.registers.out generator.queue n → IsHorizon rules inputs tick generator n
  still_horizon tick None kept on still =
      forever tick (λ t from. same_by t kept on (still t from))
  still_horizon tick (Some n) kept on still =
      so_long tick n (λ t from below. same_by t kept on (still.0 t from below))
      (λ same. still.1 (still_by (tick + n) kept on same))

  -- not enabled: for ever, once the queue is empty and the output low
  pub rests :
      (tick : ℕ) → AreKept → enable inputs ≡ false → generator.queue ≡ [] → generator.registers.out ≡ false →
      IsHorizon rules inputs tick generator None
  rests tick kept off empty low =
      forever tick (λ t from. next_disabled t kept off ∙ same_output [] false (sym empty) (sym low))
