-- A train: from when to when it is on or off.
use Rattle.std.proofs.Common.{◌≡◌, ℕ, zero, suc, ◌+◌, ◌-◌, ◌*◌, ◌/◌, ◌%◌, ◌<◌, ◌≤◌, inl, inr, Bool, true, false, refl, sym, ap, ◌∙◌, arith, nat_lt}
use Rattle.std.proofs.lemmas.Bool.{cases_lt}
use Rattle.std.proofs.lemmas.Nat.{mul-le, div_below, div-add-mod'}
use borrow.Author.Tests.{lt-ltb, le-ltb}
use Rattle.pb_pulse.specs.declared.trains.Train.{Train}
use Rattle.pb_pulse.specs.Train.{rise_of, end_of, is_on, HasPulses}
use Rattle.pb_pulse.specs.Holding.{Holds}
use Rattle.pb_pulse.proofs.TrainLemmas.{is_on-decides, on_by_last, off_before}

apart : (a b : Bool) → a ≡ false → b ≡ true → a ≡ b → ⊥
apart a b off on same = cc

-- later pulses rise later
grows : (train : Train) (i j : ℕ) → i ≤ j → rise_of train i ≤ rise_of train j
grows train i j less =
    let product : i * train.step ≤ j * train.step = mul-le i train.step j train.step less (omega arith) in
    omega (arith, product)

-- each pulse has ended by the end
in_time : (train : Train) (i : ℕ) → i < train.number → rise_of train i + train.width ≤ end_of train
in_time train i below =
    let last : rise_of train i ≤ rise_of train (train.number - 1) = grows train i (train.number - 1) (omega arith) in
    omega (arith, last)

-- the pulse after which the next rises later than a tick is the last that has begun
is_last :
    (train : Train) (i tick : ℕ) → (i + 1 < train.number → tick < rise_of train (i + 1)) →
    (j : ℕ) → j < train.number → rise_of train j ≤ tick → rise_of train j ≤ rise_of train i
is_last train i tick next j below risen =
    elim (cases_lt i j) [
      | inl after ↦ absurd (omega (arith, below, risen, grows train (i + 1) j (omega (arith, after)), next (omega (arith, after, below))))
      | inr upto ↦ grows train j i upto
    ]

-- from the rise of a pulse to the rise of the next its own width decides
between :
    (train : Train) (i tick : ℕ) → i < train.number → rise_of train i ≤ tick →
    (i + 1 < train.number → tick < rise_of train (i + 1)) →
    is_on tick train ≡ nat_lt tick (rise_of train i + train.width)
between train i tick below begun next = on_by_last tick train i below begun (is_last train i tick next)

on_from :
    (train : Train) (i tick : ℕ) → i < train.number → rise_of train i ≤ tick →
    (i + 1 < train.number → tick < rise_of train (i + 1)) → tick < rise_of train i + train.width →
    is_on tick train ≡ true
on_from train i tick below begun next within = between train i tick below begun next ∙ lt-ltb _ _ within

off_from :
    (train : Train) (i tick : ℕ) → i < train.number → rise_of train i ≤ tick →
    (i + 1 < train.number → tick < rise_of train (i + 1)) → rise_of train i + train.width ≤ tick →
    is_on tick train ≡ false
off_from train i tick below begun next past = between train i tick below begun next ∙ le-ltb _ _ past

-- the next pulse rises when this one has ended, or later
next_rise : (train : Train) (i : ℕ) → rise_of train (i + 1) ≡ rise_of train i + train.step
next_rise train i = omega arith

-- a pulse is on at its rise
on_at_rise : (train : Train) (i : ℕ) → HasPulses train → i < train.number → is_on (rise_of train i) train ≡ true
on_at_rise train i pulses below =
    let next : i + 1 < train.number → rise_of train i < rise_of train (i + 1) = λ more.
    omega (arith, next_rise train i, pulses.pulse, pulses.apart (omega (arith, more))) in
    on_from train i (rise_of train i) below (omega arith) next (omega (arith, pulses.pulse))

-- before its start a train is off
pub holds_before : (train : Train) (tick : ℕ) → HasPulses train → tick < train.start → Holds tick train train.start
holds_before train tick pulses early =
    let first : rise_of train 0 ≡ train.start = omega arith in
    let on : is_on train.start train ≡ true = ap (λ (t : ℕ). is_on t train) (sym first) ∙ on_at_rise train 0 pulses pulses.one in
    let off = off_before tick train early in
    record {
      later = early;
      within = omega (arith, first, in_time train 0 pulses.one, pulses.pulse);
      same = λ t from below. off_before t train below ∙ sym off;
      ends = inr (λ same. apart _ _ off on (sym same));
    }

times : (n s : ℕ) → 0 < n → (n - 1) * s + s ≡ n * s
times zero s h = absurd (omega arith)
times (suc k) s h =
    let e : suc k - 1 ≡ k = omega arith in
    rw e (omega arith)

-- a train whose pulses follow one another without a gap is on throughout
dense_on :
    (train : Train) (tick : ℕ) → HasPulses train → train.step ≡ train.width → train.start ≤ tick →
    tick < end_of train → is_on tick train ≡ true
dense_on train tick pulses dense from below =
    let past = tick - train.start in
    let i = past / train.step in
    let some : 0 < train.step = omega (arith, dense, pulses.pulse) in
    let all : (train.number - 1) * train.step + train.step ≡ train.number * train.step = times train.number train.step pulses.one in
    let short : past < train.number * train.step = omega (arith, all, dense, from, below) in
    let within : i < train.number = div_below past train.step train.number some short in
    let parts : i * train.step + past % train.step ≡ past = div-add-mod' past train.step in
    let rest : past % train.step < train.step = omega (arith, some) in
    (is_on-decides tick train).1 (i, (within, omega (arith, parts, from), omega (arith, parts, rest, dense, from)))

pub holds_dense :
    (train : Train) (tick : ℕ) → HasPulses train → train.step ≡ train.width → train.start ≤ tick →
    tick + 1 < end_of train → Holds tick train (end_of train - 1)
holds_dense train tick pulses dense from below =
    let on = dense_on train tick pulses dense from (omega (arith, below)) in
    record {
      later = omega (arith, below);
      within = omega (arith, below);
      same = λ t later short.
          dense_on train t pulses dense (omega (arith, from, later)) (omega (arith, short)) ∙ sym on;
      ends = inl (omega (arith, below));
    }

-- the last pulse is on to the end
pub holds_last :
    (train : Train) (i tick : ℕ) → i + 1 ≡ train.number → rise_of train i ≤ tick → tick + 1 < end_of train →
    Holds tick train (end_of train - 1)
holds_last train i tick last begun below =
    let place : train.number - 1 ≡ i = omega (arith, last) in
    let end : end_of train ≡ rise_of train i + train.width = rw place refl in
    let none : (t : ℕ) → i + 1 < train.number → t < rise_of train (i + 1) = λ t more. absurd (omega (arith, more, last)) in
    let on = on_from train i tick (omega (arith, last)) begun (none tick) (omega (arith, below, end)) in
    record {
      later = omega (arith, below);
      within = omega (arith, below);
      same = λ t later short.
          on_from train i t (omega (arith, last)) (omega (arith, begun, later)) (none t) (omega (arith, short, end)) ∙ sym on;
      ends = inl (omega (arith, below));
    }

-- a pulse with a gap behind it is on to its fall
pub holds_on :
    (train : Train) (i tick : ℕ) → i + 1 < train.number → train.width < train.step → rise_of train i ≤ tick →
    tick < rise_of train i + train.width → Holds tick train (rise_of train i + train.width)
holds_on train i tick more gap begun within =
    let fall = rise_of train i + train.width in
    let next : fall < rise_of train (i + 1) = omega (arith, next_rise train i, gap) in
    let on = on_from train i tick (omega (arith, more)) begun (λ _. omega (arith, within, next)) within in
    let off = off_from train i fall (omega (arith, more)) (omega arith) (λ _. next) (omega arith) in
    record {
      later = within;
      within = omega (arith, next, in_time train (i + 1) more);
      same = λ t later short.
          on_from train i t (omega (arith, more)) (omega (arith, begun, later)) (λ _. omega (arith, short, next)) short ∙ sym on;
      ends = inr (λ same. apart _ _ off on same);
    }

-- a gap lasts to the rise of the next pulse
pub another :
    (train : Train) (i tick : ℕ) → i < train.number → rise_of train i + train.width ≤ tick → tick < end_of train →
    i + 1 < train.number
another train i tick below past early =
    elim (cases_lt (i + 1) train.number) [
      | inl more ↦ more
      | inr last ↦
          let place : train.number - 1 ≡ i = omega (arith, below, last) in
          let end : end_of train ≡ rise_of train i + train.width = rw place refl in
          absurd (omega (arith, past, early, end))
    ]

pub holds_off :
    (train : Train) (i tick : ℕ) → HasPulses train → i + 1 < train.number → rise_of train i + train.width ≤ tick →
    tick < rise_of train (i + 1) → Holds tick train (rise_of train (i + 1))
holds_off train i tick pulses more past before =
    let on = on_at_rise train (i + 1) pulses more in
    let off = off_from train i tick (omega (arith, more)) (omega (arith, past)) (λ _. before) past in
    record {
      later = before;
      within = omega (arith, in_time train (i + 1) more, pulses.pulse);
      same = λ t later short.
          off_from train i t (omega (arith, more)) (omega (arith, past, later)) (λ _. short) (omega (arith, past, later)) ∙ sym off;
      ends = inr (λ same. apart _ _ off on (sym same));
    }
