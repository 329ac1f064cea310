-- A PCOMP has no running counts, and when its steps leave it as it is.
use Rattle.std.proofs.Common.{◌≡◌, ◌==◌, ◌&&◌, ℕ, ℤ, Bool, true, int_eq, None, refl, ap, sym, ◌∙◌}
use Rattle.std.proofs.Math.Bool.{beq}
use Rattle.std.specs.Cmp.{booleans_Decides}
use Rattle.std.proofs.lemmas.Bool.{and_parts}
use Rattle.std.proofs.lemmas.Bool.Decides.{Decides-eqb, Decides-int_eq}
use Rattle.pb_buses.specs.declared.Inputs.{Inputs}
use Rattle.pb_buses.specs.Rules.{IsHorizon}
use Rattle.pb_buses.proofs.CoastLemmas.{HasNoCounts, stays}
use Rattle.pb_pcomp.specs.declared.registers.PcompRegisters.{PcompRegisters}
use Rattle.pb_pcomp.specs.contracts.registers.PcompStatePartialEq.TheImpl as state_impl
use Rattle.pb_pcomp.specs.contracts.registers.SignPartialEq.TheImpl as sign_impl
use Rattle.pb_pcomp.specs.declared.registers.PcompState.{PcompState}
use Rattle.pb_pcomp.specs.declared.registers.PcompState.TheVariants as states
use Rattle.pb_pcomp.specs.declared.registers.Sign.{Sign}
use Rattle.pb_pcomp.specs.declared.registers.Sign.TheVariants as signs
use Rattle.pb_pcomp.specs.Pcomp.{Compare, rules, registers_after}

pub has_none : HasNoCounts rules
has_none = record { quiet = λ inputs t b. refl; whole = λ inputs b. refl; timeless = λ inputs s t b. refl }

-- What the code compares, register by register.
abbrev same_state : PcompState → PcompState → Bool
same_state x y = state_impl.eq-value.it x y

abbrev same_sign : Sign → Sign → Bool
same_sign x y = sign_impl.eq-value.it x y

state_tells : (x y : PcompState) → same_state x y ≡ true → x ≡ y
state_tells states.WaitEnable states.WaitEnable e = refl
state_tells states.WaitDir states.WaitDir e = refl
state_tells states.WaitPreStart states.WaitPreStart e = refl
state_tells states.WaitRising states.WaitRising e = refl
state_tells states.WaitFalling states.WaitFalling e = refl
state_tells _ _ e = cc

sign_tells : (x y : Sign) → same_sign x y ≡ true → x ≡ y
sign_tells signs.Positive signs.Positive e = refl
sign_tells signs.Negative signs.Negative e = refl
sign_tells _ _ e = cc

alike : (s t : PcompState) (a b c d e f : Bool) (m n : ℕ) (i j k l : ℤ) (g h : Sign) → s ≡ t → a ≡ b → c ≡ d → m ≡ n → i ≡ j → k ≡ l → g ≡ h → e ≡ f
    → (let left : PcompRegisters = record { state = s; out = a; active = c; produced = m; origin = i; base = k; sign = g; enable_before = e } in left)
    ≡ record { state = t; out = b; active = d; produced = n; origin = j; base = l; sign = h; enable_before = f }
alike s t a b c d e f m n i j k l g h p0 p1 p2 p3 p4 p5 p6 p7 = cc

pub same_registers : (x y : PcompRegisters)
    → true ≡ (same_state x.state y.state && (beq x.out y.out && (beq x.active y.active && ((x.produced == y.produced) && (int_eq x.origin y.origin && (int_eq x.base y.base && (same_sign x.sign y.sign && beq x.enable_before y.enable_before)))))))
    → x ≡ y
same_registers x y h =
    let p0 = and_parts (same_state x.state y.state) _ (sym h) in
    let p1 = and_parts (beq x.out y.out) _ p0.1 in
    let p2 = and_parts (beq x.active y.active) _ p1.1 in
    let p3 = and_parts (x.produced == y.produced) _ p2.1 in
    let p4 = and_parts (int_eq x.origin y.origin) _ p3.1 in
    let p5 = and_parts (int_eq x.base y.base) _ p4.1 in
    let p6 = and_parts (same_sign x.sign y.sign) (beq x.enable_before y.enable_before) p5.1 in
    alike x.state y.state x.out y.out x.active y.active x.enable_before y.enable_before x.produced y.produced x.origin y.origin x.base y.base x.sign y.sign
    (state_tells x.state y.state p0.0) ((booleans_Decides x.out y.out).0 p1.0) ((booleans_Decides x.active y.active).0 p2.0)
    ((Decides-eqb x.produced y.produced).0 p3.0) ((Decides-int_eq x.origin y.origin).0 p4.0) ((Decides-int_eq x.base y.base).0 p5.0)
    (sign_tells x.sign y.sign p6.0) ((booleans_Decides x.enable_before y.enable_before).0 p6.1)

pub compare_stays : (inputs : Inputs) (t : ℕ) (inside b : Compare) (after : PcompRegisters) → inside ≡ b → after ≡ registers_after b inputs → after ≡ inside.registers → IsHorizon rules inputs t b None
compare_stays inputs t inside b after is later same =
    stays rules has_none inputs t b
    (ap (λ r. (record { settings = b.settings; registers = r })) (sym later ∙ same ∙ ap (λ (u : Compare). u.registers) is))
