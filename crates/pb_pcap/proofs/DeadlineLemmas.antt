-- A PCAP over many ticks under the same inputs: what a calm tick leaves, and that all after it are calm.
use Rattle.std.proofs.Common.{◌≡◌, ℕ, zero, suc, ◌+◌, ◌%◌, ◌^◌, ◌<◌, ℤ, pos, ◌+ℤ◌, ◌*ℤ◌, Bool, true, false, List, [], ◌∷◌, Option, Some, None, if◌then◌else◌, refl, ap, sym, subst, ◌∙◌, arith, add-zero}
use Rattle.std.specs.Option.{option_map}
use Rattle.std.specs.Int.{w64, int_wrap, int_min, int_max}
use Rattle.std.proofs.lemmas.Int.{int_wrap-add_left}
use Rattle.std.proofs.lemmas.Bool.{false≢true}
use Rattle.std.proofs.Math.Nat.{mod-add-mod}
use Rattle.std.proofs.Math.IntN.{suc_ℤ-*ℤ, zero-*ℤ, +ℤ_idl, +ℤ_comm, +ℤ_assoc}
use Rattle.pb_buses.specs.declared.Inputs.{Inputs}
use Rattle.pb_buses.specs.declared.Edge.{Edge}
use Rattle.pb_buses.specs.declared.Edge.TheVariants as edges
use Rattle.pb_buses.specs.Edges.{has_edge}
use Rattle.pb_buses.specs.Rules.{after, IsCalm, AreCalm, IsHorizon}
use Rattle.pb_buses.proofs.RuleLemmas.{never}
use Rattle.pb_buses.proofs.CoastLemmas.{first_calm}
use Rattle.pb_pcap.specs.declared.settings.PcapSettings.{PcapSettings}
use Rattle.pb_pcap.specs.declared.samples.PcapSamples.{PcapSamples}
use Rattle.pb_pcap.specs.declared.registers.PcapRegisters.{PcapRegisters}
use Rattle.pb_pcap.specs.declared.registers.PcapMode.{PcapMode}
use Rattle.pb_pcap.specs.declared.registers.PcapMode.TheVariants as modes
use Rattle.pb_pcap.specs.Each.{each, added}
use Rattle.pb_pcap.specs.Pcap.{Capture, enable, gate, trig, is_triggered, is_running_mode, is_quiet_in, next_sample, with_sample, captured, uncounted, uncounted_samples, rules}
use Rattle.pb_pcap.specs.Resting.{Holds, AreKept, Rests, IsSteady, added_times, with_more, samples_coasted, coasted_in, coasted}
use Rattle.pb_pcap.proofs.QuietLemmas.{quiet_emits}

-- Sums.

each_same : (f g : ℤ → ℤ → ℤ) → ((x y : ℤ) → f x y ≡ g x y) → (xs ys : List ℤ) → each f xs ys ≡ each g xs ys
each_same f g h [] ys = refl
each_same f g h (x ∷ xs) [] = refl
each_same f g h (x ∷ xs) (y ∷ ys) = ap (λ z. z ∷ each f xs ys) (h x y) ∙ ap (λ l. g x y ∷ l) (each_same f g h xs ys)

each_twice :
    (f g k : ℤ → ℤ → ℤ) → ((x y : ℤ) → g (f x y) y ≡ k x y) → (xs ys : List ℤ) →
    each g (each f xs ys) ys ≡ each k xs ys
each_twice f g k h [] ys = refl
each_twice f g k h (x ∷ xs) [] = refl
each_twice f g k h (x ∷ xs) (y ∷ ys) =
    ap (λ z. z ∷ each g (each f xs ys) ys) (h x y) ∙ ap (λ l. k x y ∷ l) (each_twice f g k h xs ys)

-- one position more, and many after it
one_time : (y : ℤ) → pos 1 *ℤ y ≡ y
one_time y = suc_ℤ-*ℤ (pos 0) y ∙ ap (λ z. z +ℤ y) (zero-*ℤ y) ∙ +ℤ_idl y

once : (x y : ℤ) → added x y ≡ added_times (pos 1) x y
once x y =
    ap (λ z. int_wrap w64 (x +ℤ z)) (sym (one_time y))

many : (n : ℕ) (x y : ℤ) → added_times (pos n) (added_times (pos 1) x y) y ≡ added_times (pos (suc n)) x y
many n x y =
    let s : pos (suc n) *ℤ y ≡ pos n *ℤ y +ℤ y = suc_ℤ-*ℤ (pos n) y in
    let e : pos 1 *ℤ y +ℤ pos n *ℤ y ≡ pos (suc n) *ℤ y =
    ap (λ z. z +ℤ pos n *ℤ y) (one_time y) ∙ +ℤ_comm y (pos n *ℤ y) ∙ sym s in
    int_wrap-add_left w64 (x +ℤ pos 1 *ℤ y) (pos n *ℤ y)
    ∙ ap (int_wrap w64) (+ℤ_assoc x (pos 1 *ℤ y) (pos n *ℤ y) ∙ ap (λ z. x +ℤ z) e)

sums_once : (xs ys : List ℤ) → each added xs ys ≡ each (added_times (pos 1)) xs ys
sums_once xs ys = each_same added (added_times (pos 1)) once xs ys

sums_many :
    (n : ℕ) (xs ys : List ℤ) →
    each (added_times (pos n)) (each (added_times (pos 1)) xs ys) ys ≡ each (added_times (pos (suc n))) xs ys
sums_many n xs ys = each_twice (added_times (pos 1)) (added_times (pos n)) (added_times (pos (suc n))) (many n) xs ys

counted_on : (n k : ℕ) → ((n + 1) % 2 ^ 64 + k) % 2 ^ 64 ≡ (n + suc k) % 2 ^ 64
counted_on n k =
    let e : (n + 1) + k ≡ n + suc k = omega arith in
    mod-add-mod (n + 1) (2 ^ 64) k ∙ ap (λ m. m % 2 ^ 64) e

-- Samples.

abbrev these : PcapSamples → ℕ → List ℤ → List ℤ → List ℤ → ℕ → PcapSamples
these s count sums least greatest ts_end =
    record s { count = count; sums = sums; least = least; greatest = greatest; ts_end = ts_end }

one_sample : (s : PcapSamples) (ts : ℕ) (bus : List ℤ) → Holds s bus → next_sample s ts bus ≡ with_more s ts 1 bus
one_sample s ts bus h =
    let count : ℕ = (s.count + 1) % 2 ^ 64 in
    let ts_end : ℕ = (ts + 1) % 2 ^ 64 in
    let greatest : List ℤ = each int_max s.greatest bus in
    let sums : List ℤ = each (added_times (pos 1)) s.sums bus in
    ap (λ l. these s count l (each int_min s.least bus) greatest ts_end) (sums_once s.sums bus)
    ∙ ap (λ l. these s count sums l greatest ts_end) h.0
    ∙ ap (λ l. these s count sums s.least l ts_end) h.1

more_samples :
    (s : PcapSamples) (ts k : ℕ) (bus : List ℤ) →
    with_more (with_more s ts 1 bus) ((ts + 1) % 2 ^ 64) k bus ≡ with_more s ts (suc k) bus
more_samples s ts k bus =
    let sums : List ℤ = each (added_times (pos k)) (each (added_times (pos 1)) s.sums bus) bus in
    let ends : ℕ = ((ts + 1) % 2 ^ 64 + k) % 2 ^ 64 in
    let all : List ℤ = each (added_times (pos (suc k))) s.sums bus in
    ap (λ c. these s c sums s.least s.greatest ends) (counted_on s.count k)
    ∙ ap (λ l. these s ((s.count + suc k) % 2 ^ 64) l s.least s.greatest ends) (sums_many k s.sums bus)
    ∙ ap (λ e. these s ((s.count + suc k) % 2 ^ 64) all s.least s.greatest e) (counted_on ts k)

one_tick_of :
    (g : Bool) (s : Option PcapSamples) (ts : ℕ) (bus : List ℤ) → AreKept g s bus →
    (if g then Some (with_sample s ts bus) else s) ≡ samples_coasted g s ts 1 bus
one_tick_of false s ts bus h = refl
one_tick_of true None ts bus h = absurd h
one_tick_of true (Some s) ts bus h = ap (λ x. Some x) (one_sample s ts bus h)

more_ticks_of :
    (g : Bool) (s : Option PcapSamples) (ts k : ℕ) (bus : List ℤ) →
    samples_coasted g (samples_coasted g s ts 1 bus) ((ts + 1) % 2 ^ 64) k bus ≡ samples_coasted g s ts (suc k) bus
more_ticks_of false s ts k bus = refl
more_ticks_of true None ts k bus = refl
more_ticks_of true (Some s) ts k bus = ap (λ x. Some x) (more_samples s ts k bus)

still_kept :
    (g : Bool) (s : Option PcapSamples) (ts k : ℕ) (bus : List ℤ) → AreKept g s bus →
    AreKept g (samples_coasted g s ts k bus) bus
still_kept false s ts k bus h = h
still_kept true None ts k bus h = h
still_kept true (Some s) ts k bus h = h

is_there : Option PcapSamples → Bool
is_there None = false
is_there (Some s) = true

least_of : Option PcapSamples → List ℤ
least_of None = []
least_of (Some s) = s.least

greatest_of : Option PcapSamples → List ℤ
greatest_of None = []
greatest_of (Some s) = s.greatest

-- an input that stays has no edge
no_edge : (edge : Edge) (v : Bool) → has_edge edge v v ≡ false
no_edge edges.Rising true = refl
no_edge edges.Rising false = refl
no_edge edges.Falling true = refl
no_edge edges.Falling false = refl
no_edge edges.Either true = refl
no_edge edges.Either false = refl

module _ (i : Inputs) where
  untriggered : (s : PcapSettings) (r : PcapRegisters) → r.trig_before ≡ trig i → is_triggered s r i ≡ false
  untriggered s r h = ap (λ v. has_edge s.trig_edge v (trig i)) h ∙ no_edge s.trig_edge (trig i)

  -- the registers after a tick, with their mode and this input kept
  abbrev at : PcapMode → PcapRegisters → PcapRegisters
  at mode r = record r { mode = mode }

  abbrev kept : PcapMode → PcapSettings → PcapRegisters → PcapRegisters
  kept mode s r = record (captured mode s (at mode r) i) { trig_before = trig i }

  -- a calm tick
  one_tick :
      (mode : PcapMode) (s : PcapSettings) (r : PcapRegisters) → r.trig_before ≡ trig i → Rests mode (at mode r) i →
      kept mode s r ≡ coasted_in mode (at mode r) i 1
  one_tick modes.Idle s r h rests =
      let put : Bool → Bool → PcapRegisters = λ a t. record r { mode = modes.Idle; active = a; trig_before = t } in
      ap (λ a. put a (trig i)) (sym rests) ∙ ap (put r.active) (sym h)
  one_tick modes.Armed s r h rests =
      let put : Bool → Bool → PcapRegisters = λ a t. record r { mode = modes.Armed; active = a; trig_before = t } in
      rw rests.0 (ap (λ a. put a (trig i)) (sym rests.1) ∙ ap (put r.active) (sym h))
  one_tick modes.Running s r h rests =
      let put : Bool → Option PcapSamples → PcapRegisters =
      λ t x. record r { mode = modes.Running; ts = (r.ts + 1) % 2 ^ 64; samples = x; trig_before = t } in
      let now : Option PcapSamples = if gate i then Some (with_sample r.samples r.ts i.bus) else r.samples in
      rw (rests.0, untriggered s r h)
      (ap (λ t. put t now) (sym h) ∙ ap (put r.trig_before) (one_tick_of (gate i) r.samples r.ts i.bus rests.1))

  -- more of them
  more_ticks :
      (mode : PcapMode) (r : PcapRegisters) (k : ℕ) →
      coasted (coasted_in mode (at mode r) i 1) i k ≡ coasted_in mode (at mode r) i (suc k)
  more_ticks modes.Idle r k = refl
  more_ticks modes.Armed r k = refl
  more_ticks modes.Running r k =
      let put : ℕ → Option PcapSamples → PcapRegisters =
      λ t x. record r { mode = modes.Running; ts = t; samples = x } in
      ap (λ t. put t (samples_coasted (gate i) (samples_coasted (gate i) r.samples r.ts 1 i.bus) ((r.ts + 1) % 2 ^ 64) k i.bus))
      (counted_on r.ts k)
      ∙ ap (put ((r.ts + suc k) % 2 ^ 64)) (more_ticks_of (gate i) r.samples r.ts k i.bus)

  stays_steady :
      (mode : PcapMode) (r : PcapRegisters) (k : ℕ) → IsSteady (at mode r) i →
      IsSteady (coasted_in mode (at mode r) i k) i
  stays_steady modes.Idle r k h = h
  stays_steady modes.Armed r k h = h
  stays_steady modes.Running r k h = (h.0, (h.1.0, still_kept (gate i) r.samples r.ts k i.bus h.1.1))

  abbrev coast_by : ℕ → Capture → Capture
  coast_by k b = record b { registers = coasted b.registers i k }

  steps_on : (t : ℕ) (b : Capture) → IsSteady b.registers i → rules.next b i t ≡ coast_by 1 b
  steps_on t b h =
      let put : PcapRegisters → Capture = λ r. record b { registers = r } in
      ap put (one_tick b.registers.mode b.settings b.registers h.0 h.1)

  stays : (k : ℕ) (b : Capture) → IsSteady b.registers i → IsSteady (coast_by k b).registers i
  stays k b h = stays_steady b.registers.mode b.registers k h

  steps_many :
      (k t : ℕ) (b : Capture) → IsSteady b.registers i → after rules i t (suc k) b ≡ coast_by (suc k) b
  steps_many zero t b h = steps_on t b h
  steps_many (suc k) t b h =
      let put : PcapRegisters → Capture = λ r. record b { registers = r } in
      ap (λ x. after rules i (t + 1) (suc k) x) (steps_on t b h)
      ∙ steps_many k (t + 1) (coast_by 1 b) (stays 1 b h)
      ∙ ap put (more_ticks b.registers.mode b.registers (suc k))

  -- Steady is calm.
  quiet_in : (mode : PcapMode) (s : PcapSettings) (r : PcapRegisters) → IsSteady (at mode r) i → is_quiet_in mode s (at mode r) i ≡ true
  quiet_in modes.Idle s r h = refl
  quiet_in modes.Armed s r h = refl
  quiet_in modes.Running s r h = rw (h.1.0, untriggered s r h.0) refl

  left_uncounted :
      (g : Bool) (s : Option PcapSamples) (ts k : ℕ) (bus : List ℤ) → gate i ≡ g →
      option_map (uncounted_samples i) (samples_coasted g s ts k bus) ≡ option_map (uncounted_samples i) s
  left_uncounted false s ts k bus e = refl
  left_uncounted true None ts k bus e = refl
  left_uncounted true (Some s) ts k bus e =
      let put : ℕ → Option PcapSamples = λ t. Some (record (uncounted_samples i s) { ts_end = t }) in
      let none : (n : ℕ) → (if gate i then 0 else n) ≡ 0 = λ n. rw e refl in
      ap put (none ((ts + k) % 2 ^ 64)) ∙ sym (ap put (none s.ts_end))

  uncounted_in :
      (mode : PcapMode) (s : PcapSettings) (r : PcapRegisters) (k : ℕ) →
      uncounted i (record { settings = s; registers = coasted_in mode (at mode r) i k })
      ≡ uncounted i (record { settings = s; registers = at mode r })
  uncounted_in modes.Idle s r k = refl
  uncounted_in modes.Armed s r k = refl
  uncounted_in modes.Running s r k =
      let put : Option PcapSamples → Capture =
      λ x. record { settings = s; registers = record r { mode = modes.Running; ts = 0; samples = x } } in
      ap put (left_uncounted (gate i) r.samples r.ts k i.bus refl)

  steady_calm : (t : ℕ) (b : Capture) → IsSteady b.registers i → IsCalm rules i t b
  steady_calm t b h =
      record {
        quiet = quiet_emits b i t (quiet_in b.registers.mode b.settings b.registers h);
        still =
            ap (uncounted i) (steps_on t b h) ∙ uncounted_in b.registers.mode b.settings b.registers 1;
      }

  abbrev Steady : ℕ → Capture → Type 0
  Steady t b = IsSteady b.registers i

  steady_goes_on : (t : ℕ) (b : Capture) → Steady t b → IsCalm rules i t b × Steady (t + 1) (rules.next b i t)
  steady_goes_on t b h =
      (steady_calm t b h, subst (λ (x : Capture). IsSteady x.registers i) (sym (steps_on t b h)) (stays 1 b h))

  pub never_moves : (t : ℕ) (b : Capture) → IsSteady b.registers i → IsHorizon rules i t b None
  never_moves t b h = never rules i Steady steady_goes_on t b h

  -- Calm is steady.
  further_by :
      (g : Bool) (s : Option PcapSamples) (ts : ℕ) (bus : List ℤ) →
      option_map (uncounted_samples i) (if g then Some (with_sample s ts bus) else s) ≡ option_map (uncounted_samples i) s →
      AreKept g s bus
  unfolding is_there least_of greatest_of
  further_by false s ts bus e = tt
  further_by true None ts bus e = false≢true (sym (ap is_there e))
  further_by true (Some s) ts bus e = (ap least_of e, ap greatest_of e)

  abbrev Still : PcapMode → PcapSettings → PcapRegisters → Type 0
  Still mode s r =
      uncounted i (record { settings = s; registers = kept mode s r })
      ≡ uncounted i (record { settings = s; registers = at mode r })

  armed_rests : (v : Bool) (s : PcapSettings) (r : PcapRegisters) → enable i ≡ v → Still modes.Armed s r → Rests modes.Armed (at modes.Armed r) i
  armed_rests false s r e still =
      let same = rw e at still in
      (e, sym (ap (λ (b : Capture). b.registers.active) same))
  armed_rests true s r e still =
      let same = rw e at still in
      absurd (false≢true (sym (ap (λ (b : Capture). is_running_mode b.registers.mode) same)))

  running_rests :
      (v : Bool) (s : PcapSettings) (r : PcapRegisters) → enable i ≡ v → r.trig_before ≡ trig i → Still modes.Running s r →
      Rests modes.Running (at modes.Running r) i
  running_rests false s r e h still =
      let same = rw e at still in
      absurd (false≢true (ap (λ (b : Capture). is_running_mode b.registers.mode) same))
  running_rests true s r e h still =
      let same = rw (e, untriggered s r h) at still in
      (e, further_by (gate i) r.samples r.ts i.bus (ap (λ (b : Capture). b.registers.samples) same))

  still_rests :
      (mode : PcapMode) (s : PcapSettings) (r : PcapRegisters) → r.trig_before ≡ trig i → Still mode s r →
      Rests mode (at mode r) i
  still_rests modes.Idle s r h still = sym (ap (λ (b : Capture). b.registers.active) still)
  still_rests modes.Armed s r h still = armed_rests (enable i) s r refl still
  still_rests modes.Running s r h still = running_rests (enable i) s r refl h still

  pub calm_steady : (t : ℕ) (b : Capture) → IsCalm rules i t b → IsSteady b.registers i
  calm_steady t b calm =
      let before : b.registers.trig_before ≡ trig i = sym (ap (λ (x : Capture). x.registers.trig_before) calm.still) in
      (before, still_rests b.registers.mode b.settings b.registers before calm.still)

  pub moves_now : (t : ℕ) (b : Capture) → ¬ (IsSteady b.registers i) → IsHorizon rules i t b (Some 0)
  moves_now t b h = (
    λ k below. absurd (omega arith),
    λ calm. let first : IsCalm rules i t b = rw (add-zero t) at calm in h (calm_steady t b first),
  )

  coasts_some :
      (n t : ℕ) (b : Capture) → 0 < n → AreCalm rules i t n b → coast_by n b ≡ after rules i t n b
  coasts_some zero t b some calm = absurd (omega arith)
  coasts_some (suc n) t b some calm =
      sym (steps_many n t b (calm_steady t b (first_calm rules i n t b calm)))

  pub coasts :
      (n t : ℕ) (inside b : Capture) → inside ≡ b → 0 < n → AreCalm rules i t n b →
      record inside { registers = coasted inside.registers i n } ≡ after rules i t n b
  coasts n t inside b is some calm =
      let later : Capture → Type 0 = λ x. coast_by n inside ≡ after rules i t n x in
      subst later is (coasts_some n t inside some (subst (λ x. AreCalm rules i t n x) (sym is) calm))
