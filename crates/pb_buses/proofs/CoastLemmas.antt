-- What calm steps leave, and the horizon of blocks without running counts.
use Rattle.std.proofs.Common.{◌≡◌, ℕ, zero, suc, ◌+◌, ◌≤◌, ◌↔◌, refl, ap, sym, ◌∙◌, arith, add-zero, inl, inr, Some, None}
use Rattle.std.proofs.lemmas.Bool.{cases_lt}
use Rattle.pb_buses.specs.declared.inputs.Inputs.{Inputs}
use Rattle.pb_buses.specs.declared.inputs.Outputs.{Outputs}
use Rattle.pb_buses.specs.declared.emits.Emit.TheVariants as emits
use Rattle.pb_buses.specs.Rules.{Rules, after, IsCalm, AreCalm, IsHorizon, CountsAreUnseen}
use Rattle.pb_buses.proofs.RuleLemmas.{never}

later : (t k : ℕ) → (t + 1) + k ≡ t + suc k
later t k = omega arith

module _ {B : Type 0} (rules : Rules B) (inputs : Inputs) where
  -- the first of calm steps, and those behind it
  pub first_calm : (n t : ℕ) (b : B) → AreCalm rules inputs t (suc n) b → IsCalm rules inputs t b
  first_calm n t b calm = let first = calm 0 (omega arith) in rw (add-zero t) at first

  pub rest_calm :
      (n t : ℕ) (b : B) → AreCalm rules inputs t (suc n) b → AreCalm rules inputs (t + 1) n (rules.next b inputs t)
  rest_calm n t b calm k below = rw (later t k) (calm (suc k) (omega arith))

  -- calm steps leave all but the running counts as it is
  pub coasted :
      (n t : ℕ) (b : B) → AreCalm rules inputs t n b →
      rules.uncounted inputs (after rules inputs t n b) ≡ rules.uncounted inputs b
  coasted zero t b calm = refl
  coasted (suc n) t b calm =
      coasted n (t + 1) (rules.next b inputs t) (rest_calm n t b calm) ∙ (first_calm n t b calm).still

  -- the next n steps are calm exactly where n isn't above the horizon
  pub within :
      (t n h : ℕ) (b : B) → IsHorizon rules inputs t b (Some h) → AreCalm rules inputs t n b ↔ (n ≤ h)
  within t n h b is = (
    λ calm. elim (cases_lt h n) [ inl more ↦ absurd (is.1 (calm h more)) | inr small ↦ small ],
    λ small k below. is.0 k (omega arith),
  )

  -- and they leave what is shown as it is
  pub shows_the_same :
      (shown : B → Outputs) → CountsAreUnseen rules shown → (t n : ℕ) (b : B) → AreCalm rules inputs t n b →
      shown (after rules inputs t n b) ≡ shown b
  shows_the_same shown unseen t n b calm =
      sym (unseen.outputs inputs (after rules inputs t n b)) ∙ ap shown (coasted n t b calm) ∙ unseen.outputs inputs b

-- a kind that emits nothing, has no running counts, and doesn't look at the tick
pub record HasNoCounts {B : Type 0} (rules : Rules B) : Type 0 where
  pub quiet : (inputs : Inputs) (t : ℕ) (b : B) → rules.emitted b inputs t ≡ emits.Nothing
  pub whole : (inputs : Inputs) (b : B) → rules.uncounted inputs b ≡ b
  pub timeless : (inputs : Inputs) (s t : ℕ) (b : B) → rules.next b inputs s ≡ rules.next b inputs t

module _ {B : Type 0} (rules : Rules B) (kind : HasNoCounts rules) (inputs : Inputs) where
  abbrev Stays : ℕ → B → Type 0
  Stays t b = rules.next b inputs t ≡ b

  keeps : (t : ℕ) (b : B) → Stays t b → IsCalm rules inputs t b × Stays (t + 1) (rules.next b inputs t)
  keeps t b h = (
    record { quiet = kind.quiet inputs t b; still = ap (rules.uncounted inputs) h },
    ap (λ b. rules.next b inputs (t + 1)) h ∙ kind.timeless inputs (t + 1) t b,
  )

  -- what the next step leaves as it is stays so
  pub stays : (t : ℕ) (b : B) → rules.next b inputs t ≡ b → IsHorizon rules inputs t b None
  stays t b h = never rules inputs Stays keeps t b h

  -- what the next step changes isn't calm
  pub changes : (t : ℕ) (b : B) → (rules.next b inputs t ≡ b → ⊥) → IsHorizon rules inputs t b (Some 0)
  changes t b h = (
    λ k below. absurd (omega arith),
    λ calm. let first : IsCalm rules inputs t b = rw (add-zero t) at calm in
        h (sym (kind.whole inputs (rules.next b inputs t)) ∙ first.still ∙ kind.whole inputs b),
  )

  -- calm steps leave the block as it is
  pub unmoved : (n t : ℕ) (b : B) → AreCalm rules inputs t n b → b ≡ after rules inputs t n b
  unmoved n t b calm =
      sym (kind.whole inputs b) ∙ sym (coasted rules inputs n t b calm) ∙ kind.whole inputs (after rules inputs t n b)
