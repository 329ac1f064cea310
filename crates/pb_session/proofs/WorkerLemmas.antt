-- A capture worker goes on by an advance.
use Rattle.std.proofs.Common.{◌≡◌, ◌++◌, ◌∷◌, [], ℕ, ◌+◌, ◌<◌, List, Option, sym, ap, ◌∙◌, subst, refl, arith, length-append, inl, inr}
use Rattle.pb_ports.specs.Moments.{IsTick, Tells}
use Rattle.pb_ports.specs.Ports.{Rose}
use Rattle.pb_turn.specs.Seeing.{Known}
use Rattle.pb_core.specs.declared.Event.TheVariants as events
use Rattle.pb_core.specs.declared.Entry.{Entry}
use Rattle.pb_core.specs.Answer.{CoreState}
use Rattle.pb_session.specs.Calls.{Adds}
use Rattle.pb_session.specs.Workers.{AreAdvances, AddsAny, Advances}
use Rattle.pb_session.proofs.CallLemmas.{adds_more}

are_more : (moments others rest : Option (List ℕ)) (entries : List Entry) (e : Entry) (moment : ℕ) → AreAdvances moments entries others → IsTick moment → Tells others moment rest
    → e.event ≡ events.Advance moment 10000 → AreAdvances moments (entries ++ e ∷ []) rest
are_more moments others rest [] e moment h small tells is = (moment, rest, small, subst (λ (m : Option (List ℕ)). Tells m moment rest) h tells, is, refl)
are_more moments others rest (d ∷ entries) e moment h small tells is = (h.0, h.1, h.2, h.3, h.4, are_more h.1 others rest entries e moment h.5 small tells is)

module _ {V : Type 0} (opening : V → CoreState) where
  any_more : (start pass new : Known Entry V) (entries : List Entry) (e : Entry) → AddsAny opening start pass entries → Adds opening pass new (e ∷ []) → AddsAny opening start new (entries ++ e ∷ [])
  any_more start pass new [] e same a = subst (λ (p : Known Entry V). Adds opening p new (e ∷ [])) same a
  any_more start pass new (d ∷ entries) e h a = adds_more opening start pass new (d ∷ entries) (e ∷ []) h a

  pub advances_first : (pass : Known Entry V) (moments : Option (List ℕ)) → Advances opening 0 pass pass moments moments
  advances_first pass moments = record { entries = []; count = refl; adds = refl; are = refl }

  pub advances_more : (start pass new : Known Entry V) (turns moment : ℕ) (moments others rest last : Option (List ℕ)) (e : Entry) → IsTick moment → Tells others moment rest → last ≡ rest
      → e.event ≡ events.Advance moment 10000 → Adds opening pass new (e ∷ []) → Advances opening turns start pass moments others → Advances opening (turns + 1) start new moments last
  advances_more start pass new turns moment moments others rest last e small tells same is a h =
      record {
        entries = h.entries ++ e ∷ [];
        count = length-append h.entries (e ∷ []) ∙ ap (λ (n : ℕ). n + 1) h.count;
        adds = any_more start pass new h.entries e h.adds a;
        are = are_more moments others last h.entries e moment h.are small (subst (λ (m : Option (List ℕ)). Tells others moment m) (sym same) tells) is;
      }

-- a count that rose isn't 0
pub rose_some : (old new : ℕ) → Rose old new → 0 < new
rose_some old new rose = elim rose [ inl more ↦ omega (arith, more) | inr last ↦ omega (arith, last) ]
