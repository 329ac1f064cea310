-- The horizon of a CLOCK, and its count after many ticks.
use Rattle.std.proofs.Common.{◌≡◌, ◌≢◌, ℕ, zero, suc, ◌+◌, ◌-◌, ◌/◌, ◌%◌, ◌<◌, ◌≤◌, ◌==◌, ◌⊎◌, true, false, max, min, nat_lt, nat_le, if◌then◌else◌, Some, None, refl, ap, sym, subst, ◌∙◌, inl, inr, arith}
use Rattle.std.proofs.lemmas.Bool.{cases_lt, cond-true, cond-false, cond_both, lt-ltb, le-ltb, lt-leb, le-leb}
use Rattle.std.proofs.lemmas.Bool.Decides.{not_from_Decides, Decides-eqb}
use Rattle.std.proofs.Math.Nat.{add-mod_left, mod_self, mod-eq_of_lt}
use Rattle.pb_buses.specs.declared.Inputs.{Inputs}
use Rattle.pb_buses.specs.Rules.{after, IsCalm, AreCalm, IsHorizon}
use Rattle.pb_buses.proofs.RuleLemmas.{never, until}
use Rattle.pb_buses.proofs.CoastLemmas.{coasted}
use Rattle.pb_logic.specs.declared.clocks.ClockSettings.{ClockSettings}
use Rattle.pb_logic.specs.Clock.{ClockState, enable, period_of, width_of, rules}

two_ticks : (settings : ClockSettings) → 2 ≤ period_of settings
two_ticks settings = omega arith

some_width : (settings : ClockSettings) → 0 < width_of settings
some_width settings =
    cond_both (settings.width == 0) (period_of settings / 2) settings.width (λ w. 0 < w)
    (λ none. omega arith)
    (λ some. let other : settings.width ≢ 0 = not_from_Decides (settings.width == 0) (Decides-eqb settings.width 0) some in omega arith)

-- how the count goes on
count_over : (period count : ℕ) → period ≤ count + 1 → (if nat_le period (count + 1) then 0 else count + 1) ≡ 0
count_over period count h = cond-true (nat_le period (count + 1)) 0 (count + 1) (le-leb period (count + 1) h)

count_on : (period count : ℕ) → count + 1 < period → (if nat_le period (count + 1) then 0 else count + 1) ≡ count + 1
count_on period count h = cond-false (nat_le period (count + 1)) 0 (count + 1) (lt-leb period (count + 1) h)

-- the count goes round the period
round_first : (period count : ℕ) → 2 ≤ period → (if nat_le period (count + 1) then 0 else count + 1) ≡ (min count (period - 1) + 1) % period
round_first period count two = elim (cases_lt (count + 1) period) [
  | inl less ↦
      let e : min count (period - 1) + 1 ≡ count + 1 = omega arith in
      count_on period count less ∙ sym (ap (λ x. x % period) e ∙ mod-eq_of_lt less)
  | inr over ↦
      let e : min count (period - 1) + 1 ≡ period = omega arith in
      count_over period count over ∙ sym (ap (λ x. x % period) e ∙ mod_self period)
]

round_more : (period count n : ℕ) → 2 ≤ period
    → (min (if nat_le period (count + 1) then 0 else count + 1) (period - 1) + suc n) % period ≡ (min count (period - 1) + suc (suc n)) % period
round_more period count n two = elim (cases_lt (count + 1) period) [
  | inl less ↦
      let e : min (count + 1) (period - 1) + suc n ≡ min count (period - 1) + suc (suc n) = omega arith in
      ap (λ c. (min c (period - 1) + suc n) % period) (count_on period count less) ∙ ap (λ x. x % period) e
  | inr over ↦
      let few : min 0 (period - 1) + suc n ≡ suc n = omega arith in
      let many : min count (period - 1) + suc (suc n) ≡ period + suc n = omega arith in
      ap (λ c. (min c (period - 1) + suc n) % period) (count_over period count over) ∙ ap (λ x. x % period) few
      ∙ sym (ap (λ x. x % period) many ∙ add-mod_left period (suc n))
]

-- so many ticks are left until the output rises
abbrev pub IsLow : ℕ → ℕ → ℕ → ℕ → Type 0
IsLow period width count n =
    ((n ≡ 0) × (count < width)) ⊎ ((width ≤ count) × (0 < n) × ((count + n ≡ period) ⊎ ((n ≡ 1) × (period ≤ count))))

low_over : (period width count n : ℕ) → 0 < width → period ≤ count + 1 → IsLow period width count (suc n) → IsLow period width 0 n
low_over period width count n some over (inl h) = absurd (omega (arith, h.0))
low_over period width count n some over (inr (low, left, inl e)) = inl (omega arith, some)
low_over period width count n some over (inr (low, left, inr e)) = inl (omega (arith, e.0), some)

low_on : (period width count n : ℕ) → count + 1 < period → IsLow period width count (suc n) → IsLow period width (count + 1) n
low_on period width count n on (inl h) = absurd (omega (arith, h.0))
low_on period width count n on (inr (low, left, inl e)) = inr (omega arith, omega arith, inl (omega arith))
low_on period width count n on (inr (low, left, inr e)) = absurd (omega (arith, e.1))

low_falls : (period width count n : ℕ) → 0 < width → IsLow period width count (suc n) → IsLow period width (if nat_le period (count + 1) then 0 else count + 1) n
low_falls period width count n some h = elim (cases_lt (count + 1) period) [
  | inl on ↦ rw (count_on period count on) (low_on period width count n on h)
  | inr over ↦ rw (count_over period count over) (low_over period width count n some over h)
]

low_now : (period width count n : ℕ) → IsLow period width count (suc n) → width ≤ count
low_now period width count n (inl h) = absurd (omega (arith, h.0))
low_now period width count n (inr h) = h.0

low_ends : (period width count : ℕ) → IsLow period width count 0 → count < width
low_ends period width count (inl h) = h.1
low_ends period width count (inr h) = absurd (omega (arith, h.1))

-- where the output is low and stays so, it rises with the next period
pub low_left : (period width count n : ℕ) → width ≤ count → n ≡ max (period - count) 1 → IsLow period width count n
low_left period width count n low e = elim (cases_lt count period) [
  | inl less ↦ inr (low, omega arith, inl (omega arith))
  | inr over ↦ inr (low, omega arith, inr (omega arith, over))
]

module _ (inputs : Inputs) where
  -- a step is calm where the output stays
  calm_from : (t : ℕ) (b : ClockState) → (rules.next b inputs t).registers.out ≡ b.registers.out → IsCalm rules inputs t b
  calm_from t b same =
      record {
        quiet = refl;
        still = ap (λ out. (record { settings = b.settings; registers = record { count = 0; out = out } })) same;
      }

  calm_out : (t : ℕ) (b : ClockState) → IsCalm rules inputs t b → (rules.next b inputs t).registers.out ≡ b.registers.out
  calm_out t b calm = ap (λ (c : ClockState). c.registers.out) calm.still

  -- Not enabled.
  module _ (off : enable inputs ≡ false) where
    off_out : (t : ℕ) (b : ClockState) → (rules.next b inputs t).registers.out ≡ false
    off_out t b = rw off refl

    abbrev OffLow : ℕ → ClockState → Type 0
    OffLow t b = b.registers.out ≡ false

    pub off_low : (t : ℕ) (b : ClockState) → b.registers.out ≡ false → IsHorizon rules inputs t b None
    off_low t b h = never rules inputs OffLow (λ t b h. (calm_from t b (off_out t b ∙ sym h), off_out t b)) t b h

    abbrev OffHigh : ℕ → ℕ → ClockState → Type 0
    OffHigh n t b = (n ≡ 0) × (b.registers.out ≡ true)

    pub off_high : (t : ℕ) (b : ClockState) → b.registers.out ≡ true → IsHorizon rules inputs t b (Some 0)
    off_high t b h =
        until rules inputs OffHigh
        (λ t b h calm. let e : false ≡ true = sym (off_out t b) ∙ calm_out t b calm ∙ h.1 in cc)
        (λ n t b h. absurd (omega (arith, h.0))) 0 t b (refl, h)

    pub off_count : (n t : ℕ) (b : ClockState) → (after rules inputs t (suc n) b).registers.count ≡ 0
    off_count zero t b = rw off refl
    off_count (suc n) t b = off_count n (t + 1) (rules.next b inputs t)

  -- Enabled.
  module _ (on : enable inputs ≡ true) where
    next_out : (t : ℕ) (b : ClockState) → (rules.next b inputs t).registers.out ≡ nat_lt b.registers.count (width_of b.settings)
    next_out t b = rw on refl

    next_count : (t : ℕ) (b : ClockState) → (rules.next b inputs t).registers.count ≡ (if nat_le (period_of b.settings) (b.registers.count + 1) then 0 else b.registers.count + 1)
    next_count t b = rw on refl

    goes_on : (t : ℕ) (b : ClockState) → b.registers.count + 1 < period_of b.settings → (rules.next b inputs t).registers.count ≡ b.registers.count + 1
    goes_on t b h = next_count t b ∙ count_on (period_of b.settings) b.registers.count h

    goes_over : (t : ℕ) (b : ClockState) → period_of b.settings ≤ b.registers.count + 1 → (rules.next b inputs t).registers.count ≡ 0
    goes_over t b h = next_count t b ∙ count_over (period_of b.settings) b.registers.count h

    -- the output turns at once
    abbrev Turns : ℕ → ℕ → ClockState → Type 0
    Turns n t b = (n ≡ 0) × (nat_lt b.registers.count (width_of b.settings) ≢ b.registers.out)

    pub turns_now : (t : ℕ) (b : ClockState) → nat_lt b.registers.count (width_of b.settings) ≢ b.registers.out → IsHorizon rules inputs t b (Some 0)
    turns_now t b h =
        until rules inputs Turns (λ t b h calm. h.1 (sym (next_out t b) ∙ calm_out t b calm)) (λ n t b h. absurd (omega (arith, h.0))) 0 t b (refl, h)

    -- the output is high, and falls where the count comes to the width
    record High (n t : ℕ) (b : ClockState) : Type 0 where
      out : b.registers.out ≡ true
      left : b.registers.count + n ≡ width_of b.settings
      low : width_of b.settings < period_of b.settings

    high_ends : (t : ℕ) (b : ClockState) → High 0 t b → IsCalm rules inputs t b → ⊥
    high_ends t b h calm =
        let left = h.left in
        let level : nat_lt b.registers.count (width_of b.settings) ≡ false = le-ltb b.registers.count (width_of b.settings) (omega arith) in
        let e : false ≡ true = sym level ∙ sym (next_out t b) ∙ calm_out t b calm ∙ h.out in
        cc

    high_falls : (n t : ℕ) (b : ClockState) → High (suc n) t b → IsCalm rules inputs t b × High n (t + 1) (rules.next b inputs t)
    high_falls n t b h =
        let left = h.left in
        let low = h.low in
        let level : nat_lt b.registers.count (width_of b.settings) ≡ true = lt-ltb b.registers.count (width_of b.settings) (omega arith) in
        let out : (rules.next b inputs t).registers.out ≡ true = next_out t b ∙ level in
        let count : (rules.next b inputs t).registers.count ≡ b.registers.count + 1 = goes_on t b (omega arith) in (
          calm_from t b (out ∙ sym h.out),
          record { out = out; left = ap (λ c. c + n) count ∙ one_on b.registers.count n (width_of b.settings) left; low = low },
        )
      where
        one_on : (count n width : ℕ) → count + suc n ≡ width → (count + 1) + n ≡ width
        one_on count n width e = omega arith

    pub falls_at : (n t : ℕ) (b : ClockState) → b.registers.out ≡ true → b.registers.count + n ≡ width_of b.settings → width_of b.settings < period_of b.settings
        → IsHorizon rules inputs t b (Some n)
    falls_at n t b out left low = until rules inputs High high_ends high_falls n t b (record { out = out; left = left; low = low })

    -- the output is low, and rises where the count begins anew
    record Low (n t : ℕ) (b : ClockState) : Type 0 where
      out : b.registers.out ≡ false
      left : IsLow (period_of b.settings) (width_of b.settings) b.registers.count n

    rise_ends : (t : ℕ) (b : ClockState) → Low 0 t b → IsCalm rules inputs t b → ⊥
    rise_ends t b h calm =
        let level : nat_lt b.registers.count (width_of b.settings) ≡ true =
        lt-ltb b.registers.count (width_of b.settings) (low_ends (period_of b.settings) (width_of b.settings) b.registers.count h.left) in
        let e : true ≡ false = sym level ∙ sym (next_out t b) ∙ calm_out t b calm ∙ h.out in
        cc

    rise_falls : (n t : ℕ) (b : ClockState) → Low (suc n) t b → IsCalm rules inputs t b × Low n (t + 1) (rules.next b inputs t)
    rise_falls n t b h =
        let level : nat_lt b.registers.count (width_of b.settings) ≡ false =
        le-ltb b.registers.count (width_of b.settings) (low_now (period_of b.settings) (width_of b.settings) b.registers.count n h.left) in
        let out : (rules.next b inputs t).registers.out ≡ false = next_out t b ∙ level in
        let left = low_falls (period_of b.settings) (width_of b.settings) b.registers.count n (some_width b.settings) h.left in (
          calm_from t b (out ∙ sym h.out),
          record { out = out; left = subst (λ c. IsLow (period_of b.settings) (width_of b.settings) c n) (sym (next_count t b)) left },
        )

    pub rises_at : (n t : ℕ) (b : ClockState) → b.registers.out ≡ false → IsLow (period_of b.settings) (width_of b.settings) b.registers.count n → IsHorizon rules inputs t b (Some n)
    rises_at n t b out left = until rules inputs Low rise_ends rise_falls n t b (record { out = out; left = left })

    -- the output is high for the whole period
    record Full (t : ℕ) (b : ClockState) : Type 0 where
      out : b.registers.out ≡ true
      within : b.registers.count < width_of b.settings
      full : period_of b.settings ≤ width_of b.settings

    full_keeps : (t : ℕ) (b : ClockState) → Full t b → IsCalm rules inputs t b × Full (t + 1) (rules.next b inputs t)
    full_keeps t b h =
        let within = h.within in
        let full = h.full in
        let some = some_width b.settings in
        let out : (rules.next b inputs t).registers.out ≡ true = next_out t b ∙ lt-ltb b.registers.count (width_of b.settings) within in (
          calm_from t b (out ∙ sym h.out),
          record {
            out = out;
            within = elim (cases_lt (b.registers.count + 1) (period_of b.settings)) [
              | inl less ↦ rw (goes_on t b less) (omega arith)
              | inr over ↦ rw (goes_over t b over) some
            ];
            full = full;
          },
        )

    pub stays_high : (t : ℕ) (b : ClockState) → b.registers.out ≡ true → b.registers.count < width_of b.settings → period_of b.settings ≤ width_of b.settings
        → IsHorizon rules inputs t b None
    stays_high t b out within full = never rules inputs Full full_keeps t b (record { out = out; within = within; full = full })

    -- the count goes round the period
    on_count : (n t : ℕ) (b : ClockState) → (after rules inputs t (suc n) b).registers.count ≡ (min b.registers.count (period_of b.settings - 1) + suc n) % period_of b.settings
    on_count zero t b = next_count t b ∙ round_first (period_of b.settings) b.registers.count (two_ticks b.settings)
    on_count (suc n) t b =
        on_count n (t + 1) (rules.next b inputs t)
        ∙ ap (λ c. (min c (period_of b.settings - 1) + suc n) % period_of b.settings) (next_count t b)
        ∙ round_more (period_of b.settings) b.registers.count n (two_ticks b.settings)

  -- after calm ticks, with this count
  coasted_to : (n t : ℕ) (b : ClockState) (count : ℕ) → AreCalm rules inputs t n b → (after rules inputs t n b).registers.count ≡ count
      → record { settings = b.settings; registers = record { count = count; out = b.registers.out } } ≡ after rules inputs t n b
  coasted_to n t b count calm e =
      let later : ClockState = after rules inputs t n b in
      ap (λ (u : ClockState). (record { settings = u.settings; registers = record { count = count; out = u.registers.out } })) (sym (coasted rules inputs n t b calm))
      ∙ ap (λ c. (record { settings = later.settings; registers = record { count = c; out = later.registers.out } })) (sym e)

  coasted_on : (n t : ℕ) (b : ClockState) (count : ℕ) → enable inputs ≡ true → 0 < n → AreCalm rules inputs t n b
      → count ≡ (min b.registers.count (period_of b.settings - 1) + n) % period_of b.settings
      → record { settings = b.settings; registers = record { count = count; out = b.registers.out } } ≡ after rules inputs t n b
  coasted_on zero t b count on some calm e = absurd (omega arith)
  coasted_on (suc n) t b count on some calm e = coasted_to (suc n) t b count calm (on_count on n t b ∙ sym e)

  pub coast_on : (n t : ℕ) (inside b : ClockState) (count : ℕ) → inside ≡ b → enable inputs ≡ true → 0 < n → AreCalm rules inputs t n b
      → count ≡ (min inside.registers.count (period_of inside.settings - 1) + n) % period_of inside.settings
      → record { settings = inside.settings; registers = record { count = count; out = inside.registers.out } } ≡ after rules inputs t n b
  coast_on n t inside b count is on some calm e =
      subst (λ u. record { settings = inside.settings; registers = record { count = count; out = inside.registers.out } } ≡ after rules inputs t n u) is
      (coasted_on n t inside count on some (subst (λ u. AreCalm rules inputs t n u) (sym is) calm) e)

  coasted_off : (n t : ℕ) (b : ClockState) → enable inputs ≡ false → 0 < n → AreCalm rules inputs t n b
      → record { settings = b.settings; registers = record { count = 0; out = b.registers.out } } ≡ after rules inputs t n b
  coasted_off zero t b off some calm = absurd (omega arith)
  coasted_off (suc n) t b off some calm = coasted_to (suc n) t b 0 calm (off_count off n t b)

  pub coast_off : (n t : ℕ) (inside b : ClockState) → inside ≡ b → enable inputs ≡ false → 0 < n → AreCalm rules inputs t n b
      → record { settings = inside.settings; registers = record { count = 0; out = inside.registers.out } } ≡ after rules inputs t n b
  coast_off n t inside b is off some calm =
      subst (λ u. record { settings = inside.settings; registers = record { count = 0; out = inside.registers.out } } ≡ after rules inputs t n u) is
      (coasted_off n t inside off some (subst (λ u. AreCalm rules inputs t n u) (sym is) calm))
