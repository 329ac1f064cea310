-- The queue: which train is last, and which leave.
use Rattle.std.proofs.Common.{◌≡◌, ℕ, zero, suc, ◌+◌, ◌-◌, ◌<◌, ◌≤◌, Bool, true, false, ◌&&◌, ◌||◌, refl, ap, subst, arith, List, [], ◌∷◌, ◌++◌, length, length-append, drop, nat_lt, nat_le, slice_get, Some, None, ◌==◌}
use borrow.Author.Tests.{lt-ltb, le-ltb, ltb-false, eqb-false, leb-false}
use Rattle.pb_pulse.specs.declared.trains.Train.{Train}
use Rattle.pb_pulse.specs.Train.{end_of, is_on, HasPulses}
use Rattle.pb_pulse.specs.Queue.{last_end, is_dropped, is_any_on, stays, left, InOrder, room}
use Rattle.pb_pulse.proofs.TrainLemmas.{off_before}

some_there : (xs : List Train) (i : ℕ) → i < length xs → slice_get xs i ≡ None → ⊥
some_there [] i h e = omega arith
some_there (x ∷ xs) zero h e = cc
some_there (x ∷ xs) (suc i) h e = some_there xs i (omega arith) e

-- each train in order has pulses
pub has_pulses :
    (from : ℕ) (queue : List Train) (i : ℕ) (train : Train) → InOrder from queue → slice_get queue i ≡ Some train →
    HasPulses train
has_pulses from [] i train ordered e = absurd (cc)
has_pulses from (first ∷ others) zero train ordered e =
    let same : first ≡ train = cc in
    subst HasPulses same ordered.1
has_pulses from (first ∷ others) (suc i) train ordered e = has_pulses (end_of first) others i train ordered.2 e

-- the last train, as its place finds it
last_of : (n : ℕ) → suc (suc n) - 1 ≡ suc n
last_of n = omega arith

pub last_end-some :
    (queue : List Train) (train : Train) → slice_get queue (length queue - 1) ≡ Some train → last_end queue ≡ end_of train
last_end-some [] train e = absurd (cc)
last_end-some (only ∷ []) train e =
    let same : only ≡ train = cc in
    ap end_of same
last_end-some (first ∷ second ∷ others) train e =
    let here : slice_get (second ∷ others) (length others) ≡ Some train = rw (last_of (length others)) at e in
    let shift : suc (length others) - 1 ≡ length others = omega arith in
    last_end-some (second ∷ others) train (rw shift here)

pub last_end-none : (queue : List Train) → slice_get queue (length queue - 1) ≡ None → last_end queue ≡ 0
last_end-none [] e = refl
last_end-none (only ∷ []) e = absurd (cc)
last_end-none (first ∷ second ∷ others) e =
    let here : slice_get (second ∷ others) (length others) ≡ None = rw (last_of (length others)) at e in
    let shift : suc (length others) - 1 ≡ length others = omega arith in
    absurd (some_there (second ∷ others) (length others) (omega arith) here)

-- the last of some trains in order ends later than they begin
past : (from : ℕ) (first : Train) (others : List Train) → InOrder from (first ∷ others) → from ≤ last_end (first ∷ others)
past from first [] ordered = omega (arith, ordered.0)
past from first (second ∷ others) ordered =
    omega (arith, ordered.0, past (end_of first) second others ordered.2)

-- a train that isn't dropped has pulses, and begins when the last has ended
pub record CanFollow (train : Train) (queue : List Train) : Type 0 where
  pub pulses : HasPulses train
  pub late : last_end queue ≤ train.start
  pub space : length queue < room

none_of :
    (a b c d : Bool) → (((a || b) || c) || d) ≡ false → (a ≡ false) × (b ≡ false) × (c ≡ false) × (d ≡ false)
none_of true b c d e = absurd (cc)
none_of false true c d e = absurd (cc)
none_of false false true d e = absurd (cc)
none_of false false false d e = (refl, refl, refl, e)

other_fails : (a b : Bool) → a ≡ true → (a && b) ≡ false → b ≡ false
other_fails true b h e = e
other_fails false b h e = absurd (cc)

pub can_follow :
    (train : Train) (queue : List Train) → 0 < train.number → is_dropped train queue ≡ false → CanFollow train queue
can_follow train queue one kept =
    let none =
    none_of (train.width == 0) (nat_lt 1 train.number && nat_lt train.step train.width) (nat_le room (length queue)) (nat_lt train.start (last_end queue)) kept in
    let wide : train.width ≡ 0 → ⊥ = eqb-false train.width 0 none.0 in
    record {
      pulses =
          record {
            pulse = grind (arith, wide);
            one = one;
            apart = λ several.
                ltb-false train.step train.width (other_fails (nat_lt 1 train.number) (nat_lt train.step train.width) (lt-ltb 1 train.number several) none.1);
          };
      late = ltb-false train.start (last_end queue) none.3;
      space = leb-false room (length queue) none.2;
    }

-- what the ring keeps of a queue that isn't full, and one more train
pub all_kept :
    (queue : List Train) (train : Train) (capacity : ℕ) → capacity ≡ room → length queue < room →
    drop (length (queue ++ (train ∷ [])) - capacity) (queue ++ (train ∷ [])) ≡ queue ++ (train ∷ [])
all_kept queue train capacity e short =
    let none : length (queue ++ (train ∷ [])) - capacity ≡ 0 = omega (arith, length-append queue (train ∷ []), e, short) in
    rw none refl

at_end :
    (from : ℕ) (train : Train) → from ≤ train.start → HasPulses train → InOrder from (train ∷ [])
at_end from train late pulses = (late, pulses, tt)

pub in_order-more :
    (from : ℕ) (queue : List Train) (train : Train) → InOrder from queue → from ≤ train.start → CanFollow train queue →
    InOrder from (queue ++ (train ∷ []))
in_order-more from [] train ordered begins follows = at_end from train begins follows.pulses
in_order-more from (last ∷ []) train ordered begins follows =
    (ordered.0, ordered.1, at_end (end_of last) train follows.late follows.pulses)
in_order-more from (first ∷ second ∷ others) train ordered begins follows =
    let later : end_of first ≤ train.start = omega (arith, past (end_of first) second others ordered.2, follows.late) in
    (ordered.0, ordered.1, in_order-more (end_of first) (second ∷ others) train ordered.2 later (record { pulses = follows.pulses; late = follows.late; space = omega (arith, follows.space) }))

-- a queue in order may be said to begin earlier
pub in_order-from : (from before : ℕ) (queue : List Train) → before ≤ from → InOrder from queue → InOrder before queue
in_order-from from before [] less ordered = tt
in_order-from from before (first ∷ others) less ordered = (omega (arith, ordered.0), ordered.1, ordered.2)

-- a train ends behind its start
pub ends_later : (train : Train) → HasPulses train → train.start < end_of train
ends_later train pulses = omega (arith, pulses.pulse)

-- no train that begins later is on, and none leaves
pub later_off : (tick from : ℕ) (queue : List Train) → tick < from → InOrder from queue → is_any_on tick queue ≡ false
later_off tick from [] later ordered = refl
later_off tick from (first ∷ others) later ordered =
    let off : is_on tick first ≡ false = off_before tick first (omega (arith, ordered.0)) in
    let rest : is_any_on tick others ≡ false =
    later_off tick (end_of first) others (omega (arith, ordered.0, ends_later first ordered.1)) ordered.2 in
    rw (off, rest) refl

pub later_stay : (tick from : ℕ) (queue : List Train) → tick < from → InOrder from queue → left tick queue ≡ queue
later_stay tick from [] later ordered = refl
later_stay tick from (first ∷ others) later ordered =
    let more : tick + 1 < end_of first = omega (arith, ordered.0, ends_later first ordered.1) in
    let here : stays tick first ≡ true = lt-ltb _ _ more in
    let rest : left tick others ≡ others = later_stay tick (end_of first) others (omega (arith, more)) ordered.2 in
    rw (here, rest) refl

-- The train in front leaves, or it stays and all others do.
pub record Leaves (tick : ℕ) (front : Train) (queue : List Train) : Type 0 where
  pub on : is_any_on tick queue ≡ (is_on tick front || is_any_on tick (drop 1 queue))
  pub rest : left tick queue ≡ left tick (drop 1 queue)
  pub ordered : InOrder 0 (drop 1 queue)
  pub fewer : length (drop 1 queue) < length queue

pub front_leaves :
    (tick : ℕ) (front : Train) (queue : List Train) → InOrder 0 queue → slice_get queue 0 ≡ Some front →
    end_of front ≤ tick + 1 → Leaves tick front queue
front_leaves tick front [] ordered e ends = absurd (cc)
front_leaves tick front (first ∷ others) ordered e ends =
    let same : first ≡ front = cc in
    let gone : stays tick first ≡ false = rw same (le-ltb _ _ ends) in
    record {
      on = rw same refl;
      rest = rw gone refl;
      ordered = in_order-from (end_of first) 0 others (omega arith) ordered.2;
      fewer = omega arith;
    }

pub record Stays (tick : ℕ) (front : Train) (queue : List Train) : Type 0 where
  pub on : is_any_on tick queue ≡ is_on tick front
  pub rest : left tick queue ≡ queue

pub or_false : (a : Bool) → (a || false) ≡ a
or_false true = refl
or_false false = refl

pub front_stays :
    (tick : ℕ) (front : Train) (queue : List Train) → InOrder 0 queue → slice_get queue 0 ≡ Some front →
    tick + 1 < end_of front → Stays tick front queue
front_stays tick front [] ordered e ends = absurd (cc)
front_stays tick front (first ∷ others) ordered e ends =
    let same : first ≡ front = cc in
    let here : stays tick first ≡ true = rw same (lt-ltb _ _ ends) in
    let later : tick < end_of first = rw same (omega (arith, ends)) in
    let off : is_any_on tick others ≡ false = later_off tick (end_of first) others later ordered.2 in
    let rest : left tick others ≡ others = later_stay tick (end_of first) others later ordered.2 in
    record { on = rw (off, same) (or_false (is_on tick front)); rest = rw (here, rest) refl }

pub none_left : (queue : List Train) → slice_get queue 0 ≡ None → queue ≡ []
none_left [] e = refl
none_left (first ∷ others) e = absurd (cc)

pub or_twice : (a b c : Bool) → (a || (b || c)) ≡ ((a || b) || c)
or_twice true b c = refl
or_twice false b c = refl
