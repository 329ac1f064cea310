-- Many ticks of a block under the same inputs: what calm steps leave, and how a horizon is shown.
use Rattle.std.proofs.Common.{◌≡◌, ℕ, zero, suc, ◌+◌, refl, arith, add-zero, zero-add, Some, None}
use Rattle.pb_buses.specs.declared.inputs.Inputs.{Inputs}
use Rattle.pb_buses.specs.Rules.{Rules, after, IsCalm, AreCalm, IsHorizon}

later : (t k : ℕ) → (t + 1) + k ≡ t + suc k
later t k = omega arith

module _ {B : Type 0} (rules : Rules B) (inputs : Inputs) where
  -- the ticks of two parts are those of the first, and then those of the second
  pub after-two :
      (m n t : ℕ) (b : B) →
      after rules inputs t (m + n) b ≡ after rules inputs (t + m) n (after rules inputs t m b)
  after-two zero n t b = rw (zero-add n, add-zero t) refl
  after-two (suc m) n t b =
      let e : suc m + n ≡ suc (m + n) = omega arith in
      rw (e, ← later t m) (after-two m n (t + 1) (rules.next b inputs t))

  -- a calm step in front of calm ones
  pub AreCalm-first :
      (n t : ℕ) (b : B) → IsCalm rules inputs t b → AreCalm rules inputs (t + 1) n (rules.next b inputs t) →
      AreCalm rules inputs t (suc n) b
  AreCalm-first n t b first rest zero below = rw (add-zero t) first
  AreCalm-first n t b first rest (suc k) below =
      rw (← later t k) (rest k (omega arith))

  module _ (P : ℕ → B → Type 0)
      (keeps : (t : ℕ) (b : B) → P t b → IsCalm rules inputs t b × P (t + 1) (rules.next b inputs t)) where
    all_calm : (n t : ℕ) (b : B) → P t b → AreCalm rules inputs t n b
    all_calm zero t b h = λ k below. absurd (omega arith)
    all_calm (suc n) t b h =
        AreCalm-first n t b (keeps t b h).0 (all_calm n (t + 1) (rules.next b inputs t) (keeps t b h).1)

    -- a fact that calm steps keep: no step is ever anything else
    pub never : (t : ℕ) (b : B) → P t b → IsHorizon rules inputs t b None
    never t b h = λ n. all_calm n t b h

  -- "so many calm steps are left" goes down by one, and where none is left the step isn't calm
  module _ (Left : ℕ → ℕ → B → Type 0)
      (ends : (t : ℕ) (b : B) → Left zero t b → ¬ (IsCalm rules inputs t b))
      (falls : (n t : ℕ) (b : B) → Left (suc n) t b → IsCalm rules inputs t b × Left n (t + 1) (rules.next b inputs t)) where
    pub until : (n t : ℕ) (b : B) → Left n t b → IsHorizon rules inputs t b (Some n)
    until zero t b h = ((λ k below. absurd (omega arith)), rw (add-zero t) (ends t b h))
    until (suc n) t b h =
        let rest = until n (t + 1) (rules.next b inputs t) (falls n t b h).1 in
        (AreCalm-first n t b (falls n t b h).0 rest.0, rw (← later t n) rest.1)
