-- A kind of block inside a wider one, whose rules are those of the block inside: then so they are over many
-- ticks.
use Rattle.std.proofs.Common.{◌≡◌, ℕ, zero, suc, ◌+◌, refl, ap, sym, subst, ◌∙◌, Option, Some, None}
use Rattle.pb_buses.specs.declared.inputs.Inputs.{Inputs}
use Rattle.pb_buses.specs.Rules.{Rules, after, IsCalm, AreCalm, IsHorizon}

pub record Wraps {A B : Type 0} (inner : Rules A) (outer : Rules B) (wrap : A → B) : Type 0 where
  pub goes_on : (inputs : Inputs) (t : ℕ) (b : A) → outer.next (wrap b) inputs t ≡ wrap (inner.next b inputs t)
  pub emits : (inputs : Inputs) (t : ℕ) (b : A) → outer.emitted (wrap b) inputs t ≡ inner.emitted b inputs t
  pub rests : (inputs : Inputs) (b : A) → outer.uncounted inputs (wrap b) ≡ wrap (inner.uncounted inputs b)
  pub apart : (a b : A) → wrap a ≡ wrap b → a ≡ b

module _ {A B : Type 0} (inner : Rules A) (outer : Rules B) (wrap : A → B) (w : Wraps inner outer wrap) (inputs : Inputs) where
  later : (n t : ℕ) (b : A) → after outer inputs t n (wrap b) ≡ wrap (after inner inputs t n b)
  later zero t b = refl
  later (suc n) t b =
      ap (after outer inputs (t + 1) n) (w.goes_on inputs t b) ∙ later n (t + 1) (inner.next b inputs t)

  still_outside : (t : ℕ) (b : A) → IsCalm inner inputs t b → IsCalm outer inputs t (wrap b)
  still_outside t b calm =
      record {
        quiet = w.emits inputs t b ∙ calm.quiet;
        still =
            ap (outer.uncounted inputs) (w.goes_on inputs t b) ∙ w.rests inputs (inner.next b inputs t)
            ∙ ap wrap calm.still ∙ sym (w.rests inputs b);
      }

  still_inside : (t : ℕ) (b : A) → IsCalm outer inputs t (wrap b) → IsCalm inner inputs t b
  still_inside t b calm =
      record {
        quiet = sym (w.emits inputs t b) ∙ calm.quiet;
        still =
            w.apart (inner.uncounted inputs (inner.next b inputs t)) (inner.uncounted inputs b) (
            sym (w.rests inputs (inner.next b inputs t)) ∙ sym (ap (outer.uncounted inputs) (w.goes_on inputs t b))
            ∙ calm.still ∙ w.rests inputs b);
      }

  calm_outside : (n t : ℕ) (b : A) → AreCalm inner inputs t n b → AreCalm outer inputs t n (wrap b)
  calm_outside n t b calm k below =
      subst (λ (x : B). IsCalm outer inputs (t + k) x) (sym (later k t b))
      (still_outside (t + k) (after inner inputs t k b) (calm k below))

  calm_at : (k t : ℕ) (b : A) → IsCalm outer inputs (t + k) (after outer inputs t k (wrap b)) → IsCalm inner inputs (t + k) (after inner inputs t k b)
  calm_at k t b calm =
      still_inside (t + k) (after inner inputs t k b) (subst (λ (x : B). IsCalm outer inputs (t + k) x) (later k t b) calm)

  -- the horizon of the block inside is that of the whole
  horizon_outside : (t : ℕ) (b : A) (n : Option ℕ) → IsHorizon inner inputs t b n → IsHorizon outer inputs t (wrap b) n
  horizon_outside t b None is = λ n. calm_outside n t b (is n)
  horizon_outside t b (Some h) is = (calm_outside h t b is.0, λ calm. is.1 (calm_at h t b calm))

  pub wrapped_horizon :
      (t : ℕ) (whole : B) (b : A) (n : Option ℕ) → wrap b ≡ whole → IsHorizon inner inputs t b n →
      IsHorizon outer inputs t whole n
  wrapped_horizon t whole b n is known =
      subst (λ (x : B). IsHorizon outer inputs t x n) is (horizon_outside t b n known)

  -- and so are its calm steps, and what they leave
  pub wrapped_calm :
      (n t : ℕ) (whole : B) (b : A) → wrap b ≡ whole → AreCalm outer inputs t n whole → AreCalm inner inputs t n b
  wrapped_calm n t whole b is calm k below =
      calm_at k t b (subst (λ (x : B). IsCalm outer inputs (t + k) (after outer inputs t k x)) (sym is) (calm k below))

  pub wrapped_after :
      (n t : ℕ) (whole : B) (b left : A) → wrap b ≡ whole → left ≡ after inner inputs t n b →
      wrap left ≡ after outer inputs t n whole
  wrapped_after n t whole b left is known = ap wrap known ∙ sym (later n t b) ∙ ap (after outer inputs t n) is
