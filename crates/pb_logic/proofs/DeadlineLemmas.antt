-- The kinds without running counts, and when their steps leave them as they are.
use Rattle.std.proofs.Common.{◌≡◌, ℕ, Bool, None, refl, ap, sym, ◌∙◌}
use Rattle.pb_buses.specs.declared.Inputs.{Inputs}
use Rattle.pb_buses.specs.Rules.{IsHorizon}
use Rattle.pb_buses.proofs.CoastLemmas.{HasNoCounts, stays}
use Rattle.pb_logic.specs.declared.srgates.SrgateRegisters.{SrgateRegisters}
use Rattle.pb_logic.specs.declared.divs.DivRegisters.{DivRegisters}
use Rattle.pb_logic.specs.declared.counters.CounterRegisters.{CounterRegisters}
use Rattle.pb_logic.specs.Lut as lut
use Rattle.pb_logic.specs.Srgate as srgate
use Rattle.pb_logic.specs.Div as div
use Rattle.pb_logic.specs.Counter as counter

pub lut_has_none : HasNoCounts lut.rules
lut_has_none = record { quiet = λ inputs t b. refl; whole = λ inputs b. refl; timeless = λ inputs s t b. refl }

pub lut_stays : (inputs : Inputs) (t : ℕ) (inside b : lut.LutState) (out : Bool) → inside ≡ b → out ≡ lut.output_after inside.settings inputs → out ≡ inside.registers.out
    → IsHorizon lut.rules inputs t b None
lut_stays inputs t inside b out is later same =
    stays lut.rules lut_has_none inputs t b
    (ap (λ (u : lut.LutState). lut.next u inputs t) (sym is)
    ∙ ap (λ o. (record { settings = inside.settings; registers = record { out = o } })) (sym later ∙ same) ∙ is)

pub srgate_has_none : HasNoCounts srgate.rules
srgate_has_none = record { quiet = λ inputs t b. refl; whole = λ inputs b. refl; timeless = λ inputs s t b. refl }

pub srgate_stays : (inputs : Inputs) (t : ℕ) (inside b : srgate.SrgateState) (after : SrgateRegisters) → inside ≡ b → after ≡ srgate.registers_after b inputs → after ≡ inside.registers
    → IsHorizon srgate.rules inputs t b None
srgate_stays inputs t inside b after is later same =
    stays srgate.rules srgate_has_none inputs t b
    (ap (λ r. (record { settings = b.settings; registers = r })) (sym later ∙ same ∙ ap (λ (u : srgate.SrgateState). u.registers) is))

pub div_has_none : HasNoCounts div.rules
div_has_none = record { quiet = λ inputs t b. refl; whole = λ inputs b. refl; timeless = λ inputs s t b. refl }

pub div_stays : (inputs : Inputs) (t : ℕ) (inside b : div.DivState) (after : DivRegisters) → inside ≡ b → after ≡ div.registers_after b inputs → after ≡ inside.registers
    → IsHorizon div.rules inputs t b None
div_stays inputs t inside b after is later same =
    stays div.rules div_has_none inputs t b
    (ap (λ r. (record { settings = b.settings; registers = r })) (sym later ∙ same ∙ ap (λ (u : div.DivState). u.registers) is))

pub counter_has_none : HasNoCounts counter.rules
counter_has_none = record { quiet = λ inputs t b. refl; whole = λ inputs b. refl; timeless = λ inputs s t b. refl }

pub counter_stays : (inputs : Inputs) (t : ℕ) (inside b : counter.CounterState) (after : CounterRegisters) → inside ≡ b → after ≡ counter.registers_after b inputs → after ≡ inside.registers
    → IsHorizon counter.rules inputs t b None
counter_stays inputs t inside b after is later same =
    stays counter.rules counter_has_none inputs t b
    (ap (λ r. (record { settings = b.settings; registers = r })) (sym later ∙ same ∙ ap (λ (u : counter.CounterState). u.registers) is))
