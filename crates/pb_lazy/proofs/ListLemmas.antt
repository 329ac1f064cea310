-- The blocks of a box, one after the other.
use Rattle.std.proofs.Common.{◌≡◌, ℕ, zero, suc, ◌+◌, ◌*◌, ◌<◌, ◌≤◌, ◌⊎◌, Bool, true, false, List, [], ◌∷◌, ◌++◌, length, get_or, set, map, take, drop, refl, sym, ap, subst, ◌∙◌, arith, inl, inr, Some, append_assoc, add-one, length-append, drop-cons}
use Rattle.std.specs.Prelude.{Option, count_by, if◌then◌else◌}
use Rattle.std.specs.List.{AllByRecursion}
use Rattle.std.proofs.lemmas.List.{map-append, take_more, take_all, drop_all, append-nil, length-take-le, get_or-append-add}
use Rattle.std.proofs.Math.Seq.{set-append_seam}
use Rattle.std.proofs.lemmas.List.Sums.{count_by_more_yes, count_by_more_no}
use Rattle.pb_buses.specs.declared.Bus.{Bus}
use Rattle.pb_buses.specs.declared.Inputs.{Inputs}
use Rattle.pb_buses.specs.declared.Emit.{Emit}
use Rattle.pb_buses.specs.declared.Emit.TheVariants as emits
use Rattle.pb_model.specs.declared.Block.{Block}
use Rattle.pb_model.specs.Tick.{inputs_of, block_after, emitted_by, or_before, handed_on}
use Rattle.pb_still.specs.Eventful.{IsIdle, AreBusy}
use Rattle.pb_lazy.specs.declared.lazies.Lazy.{Lazy}
use Rattle.pb_lazy.specs.Lazy.{caught_up, saw, IsSound, IsMet, IsKnown}
use Rattle.pb_lazy.specs.Meeting.{MetSoFar, IsRefreshed, AreRefreshed, IsOneBusy}

-- A list of which the front has been gone over.

from_here : {X : Type 0} (xs : List X) (i : ℕ) (d : X) → i < length xs → drop i xs ≡ get_or xs i d ∷ drop (i + 1) xs
from_here xs i d h = rw (add-one, drop-cons xs i d) refl

pub item_is : {X : Type 0} (olds done items : List X) (i : ℕ) (d : X) → i < length olds → length done ≡ i →
    items ≡ done ++ drop i olds → get_or items i d ≡ get_or olds i d
item_is olds done items i d h long e =
    let at : i ≡ length done + 0 = omega (arith, long) in
    ap (λ l. get_or l i d) e
    ∙ (ap (λ n. get_or (done ++ drop i olds) n d) at
    ∙ (get_or-append-add done (drop i olds) 0 d
    ∙ ap (λ l. get_or l 0 d) (from_here olds i d h)))

pub item_set : {X : Type 0} (olds done items : List X) (i : ℕ) (new d : X) → i < length olds → length done ≡ i →
    items ≡ done ++ drop i olds → set items i new ≡ (done ++ new ∷ []) ++ drop (i + 1) olds
item_set olds done items i new d h long e =
    let rest = drop (i + 1) olds in
    let here = get_or olds i d in
    ap (λ l. set l i new) (e ∙ ap (λ l. done ++ l) (from_here olds i d h))
    ∙ (ap (λ k. set (done ++ here ∷ rest) k new) (sym long)
    ∙ (set-append_seam done here rest new
    ∙ sym (append_assoc done (new ∷ []) rest)))

pub all_push : {X : Type 0} (P : X → Type 0) (xs : List X) (x : X) → AllByRecursion P xs → P x → AllByRecursion P (xs ++ x ∷ [])
all_push P [] x h p = (p, tt)
all_push P (y ∷ xs) x h p = (h.0, all_push P xs x h.1 p)

pub all_at : {X : Type 0} (P : X → Type 0) (xs : List X) (i : ℕ) (d : X) → AllByRecursion P xs → i < length xs → P (get_or xs i d)
all_at P [] i d h below = absurd (omega arith)
all_at P (x ∷ xs) zero d h below = h.0
all_at P (x ∷ xs) (suc i) d h below = all_at P xs i d h.1 (omega arith)

-- the front of a list, one element further
pub all_more : {X : Type 0} (P : X → Type 0) (xs : List X) (i : ℕ) (x : X) → i < length xs → x ≡ get_or xs i x → AllByRecursion P (take i xs) → P x →
    AllByRecursion P (take (i + 1) xs)
all_more P xs i x below is h p =
    subst (AllByRecursion P) (sym (take_more xs i x below ∙ ap (λ y. take i xs ++ y ∷ []) (sym is))) (all_push P (take i xs) x h p)

pub all_done : {X : Type 0} (P : X → Type 0) (xs : List X) (i : ℕ) → length xs ≤ i → AllByRecursion P (take i xs) → AllByRecursion P xs
all_done P xs i far h = subst (AllByRecursion P) (take_all i xs far) h

pub all_here : {X : Type 0} (P : X → Type 0) (xs : List X) (i : ℕ) (x : X) → i < length xs → x ≡ get_or xs i x → AllByRecursion P xs → P x
all_here P xs i x below is h = subst P (sym is) (all_at P xs i x h below)

pub all_map : {X : Type 0} (P Q : X → Type 0) → ((x : X) → P x → Q x) → (xs : List X) → AllByRecursion P xs → AllByRecursion Q xs
all_map P Q f [] h = tt
all_map P Q f (x ∷ xs) h = (f x h.0, all_map P Q f xs h.1)

pub all_both : {X : Type 0} (P Q R : X → Type 0) → ((x : X) → P x → Q x → R x) → (xs : List X) → AllByRecursion P xs → AllByRecursion Q xs →
    AllByRecursion R xs
all_both P Q R f [] h g = tt
all_both P Q R f (x ∷ xs) h g = (f x h.0 g.0, all_both P Q R f xs h.1 g.1)

-- One more block.

handed_more : (before : Emit) (emitted : List Emit) (e : Emit) → handed_on before (emitted ++ e ∷ []) ≡ or_before (handed_on before emitted) e
handed_more before [] e = refl
handed_more before (x ∷ emitted) e = handed_more (or_before before x) emitted e

-- a block more of which it is known whether it is busy
pub busy_more : (bus : Bus) (tick : ℕ) (before : List (Option Inputs)) (blocks : List Block) (saw : Option Inputs) (block : Block) (busy : ℕ) →
    AreBusy bus tick before blocks busy → ¬ (IsIdle bus tick saw block) → AreBusy bus tick (before ++ saw ∷ []) (blocks ++ block ∷ []) (busy + 1)
busy_more bus tick [] [] saw block busy h new = inr (new, (busy, refl, h))
busy_more bus tick [] (b ∷ blocks) saw block busy h new = absurd h
busy_more bus tick (s ∷ before) [] saw block busy h new = absurd h
busy_more bus tick (s ∷ before) (b ∷ blocks) saw block busy (inl h) new = inl (h.0, busy_more bus tick before blocks saw block busy h.1 new)
busy_more bus tick (s ∷ before) (b ∷ blocks) saw block busy (inr h) new =
    inr (h.0, (h.1.0 + 1, ap (λ n. n + 1) h.1.1, busy_more bus tick before blocks saw block h.1.0 h.1.2 new))

pub idle_more : (bus : Bus) (tick : ℕ) (before : List (Option Inputs)) (blocks : List Block) (saw : Option Inputs) (block : Block) (busy : ℕ) →
    AreBusy bus tick before blocks busy → IsIdle bus tick saw block → AreBusy bus tick (before ++ saw ∷ []) (blocks ++ block ∷ []) busy
idle_more bus tick [] [] saw block busy h new = inl (new, h)
idle_more bus tick [] (b ∷ blocks) saw block busy h new = absurd h
idle_more bus tick (s ∷ before) [] saw block busy h new = absurd h
idle_more bus tick (s ∷ before) (b ∷ blocks) saw block busy (inl h) new = inl (h.0, idle_more bus tick before blocks saw block busy h.1 new)
idle_more bus tick (s ∷ before) (b ∷ blocks) saw block busy (inr h) new =
    inr (h.0, (h.1.0, h.1.1, idle_more bus tick before blocks saw block h.1.0 h.1.2 new))

pub met_none : (bus : Bus) (tick : ℕ) (first : Bool) (was : ℕ) → MetSoFar bus tick first [] [] emits.Nothing was was
met_none bus tick first was =
    record { long = refl; blocks = refl; kept = refl; sound = tt; known = tt; emits = refl; busy = 0; counted = refl; few = omega arith }

module _ (bus : Bus) (tick : ℕ) (first : Bool) (olds news : List Lazy) (emit : Emit) (was spent : ℕ)
    (h : MetSoFar bus tick first olds news emit was spent) (old new : Lazy) (emit' : Emit) (spent' : ℕ) (met : IsMet bus tick old new)
    (is : emit' ≡ or_before emit (emitted_by bus tick (caught_up tick old))) where
  met_more : (busy : ℕ) →
      AreBusy bus tick (map (saw first) (olds ++ old ∷ [])) (map (caught_up tick) (olds ++ old ∷ [])) busy → spent' ≤ was + 3 * busy →
      MetSoFar bus tick first (olds ++ old ∷ []) (news ++ new ∷ []) emit' was spent'
  met_more busy counted few =
      record {
        long = length-append news (new ∷ []) ∙ (ap (λ n. n + 1) h.long ∙ sym (length-append olds (old ∷ [])));
        blocks =
            map-append (caught_up (tick + 1)) news (new ∷ [])
            ∙ (ap (λ l. l ++ caught_up (tick + 1) new ∷ []) h.blocks
            ∙ (ap (λ b. map (block_after bus tick) (map (caught_up tick) olds) ++ b ∷ []) met.next
            ∙ (sym (map-append (block_after bus tick) (map (caught_up tick) olds) (caught_up tick old ∷ []))
            ∙ ap (map (block_after bus tick)) (sym (map-append (caught_up tick) olds (old ∷ []))))));
        kept =
            map-append (saw false) news (new ∷ [])
            ∙ (ap (λ l. l ++ Some new.kept ∷ []) h.kept
            ∙ (ap (λ (i : Inputs). map (λ (b : Block). Some (inputs_of bus b)) (map (caught_up tick) olds) ++ Some i ∷ []) met.kept
            ∙ (sym (map-append (λ (b : Block). Some (inputs_of bus b)) (map (caught_up tick) olds) (caught_up tick old ∷ []))
            ∙ ap (map (λ (b : Block). Some (inputs_of bus b))) (sym (map-append (caught_up tick) olds (old ∷ []))))));
        sound = all_push (IsSound (tick + 1) false) news new h.sound met.sound;
        known = all_push (λ (l : Lazy). l.outdated ≡ false) news new h.known met.known;
        emits =
            is
            ∙ (ap (λ e. or_before e (emitted_by bus tick (caught_up tick old))) h.emits
            ∙ (sym (handed_more emits.Nothing (map (emitted_by bus tick) (map (caught_up tick) olds)) (emitted_by bus tick (caught_up tick old)))
            ∙ ap (handed_on emits.Nothing)
            (sym (map-append (emitted_by bus tick) (map (caught_up tick) olds) (caught_up tick old ∷ []))
            ∙ ap (map (emitted_by bus tick)) (sym (map-append (caught_up tick) olds (old ∷ []))))));
        busy = busy;
        counted = counted;
        few = few;
      }

  -- a block more has met the tick
  pub one_met : (IsIdle bus tick (saw first old) (caught_up tick old) × (spent' ≡ spent))
      ⊎ (¬ (IsIdle bus tick (saw first old) (caught_up tick old)) × (spent' ≤ spent + 3)) →
      MetSoFar bus tick first (olds ++ old ∷ []) (news ++ new ∷ []) emit' was spent'
  one_met (inl idle) =
      met_more h.busy
      (rw (map-append (saw first) olds (old ∷ []), map-append (caught_up tick) olds (old ∷ []))
      (idle_more bus tick (map (saw first) olds) (map (caught_up tick) olds) (saw first old) (caught_up tick old) h.busy h.counted idle.0))
      (omega (arith, h.few, idle.1))
  one_met (inr busy) =
      met_more (h.busy + 1)
      (rw (map-append (saw first) olds (old ∷ []), map-append (caught_up tick) olds (old ∷ []))
      (busy_more bus tick (map (saw first) olds) (map (caught_up tick) olds) (saw first old) (caught_up tick old) h.busy h.counted busy.0))
      (omega (arith, h.few, busy.1))

-- one that is busy
pub one_busy : (bus : Bus) (tick : ℕ) (lazies : List Lazy) (i : ℕ) (lazy : Lazy) → i < length lazies → lazy ≡ get_or lazies i lazy →
    ¬ (IsIdle bus tick (saw false lazy) (caught_up tick lazy)) → IsOneBusy bus tick lazies
one_busy bus tick [] i lazy below is h = absurd (omega arith)
one_busy bus tick (l ∷ lazies) zero lazy below is h = inl (subst (λ (x : Lazy). ¬ (IsIdle bus tick (saw false x) (caught_up tick x))) is h)
one_busy bus tick (l ∷ lazies) (suc i) lazy below is h = inr (one_busy bus tick lazies i lazy (omega arith) is h)

-- All blocks have met the tick.

module _ (bus : Bus) (tick : ℕ) (first : Bool) (olds items : List Lazy) (i : ℕ) (emit : Emit) (was spent : ℕ) (done : List Lazy)
    (at : items ≡ done ++ drop i olds) (met : MetSoFar bus tick first (take i olds) done emit was spent) where
  long : i ≤ length olds → length done ≡ i
  long h = met.long ∙ length-take-le i olds h

  -- the next block is as it was
  pub next_is : (lazy : Lazy) → i < length olds → lazy ≡ get_or items i lazy → lazy ≡ get_or olds i lazy
  next_is lazy below is = is ∙ item_is olds done items i lazy below (long (omega arith)) at

  pub next_met : (lazy new : Lazy) (emit' : Emit) (spent' : ℕ) → i < length olds → lazy ≡ get_or items i lazy → IsMet bus tick lazy new →
      emit' ≡ or_before emit (emitted_by bus tick (caught_up tick lazy)) →
      (IsIdle bus tick (saw first lazy) (caught_up tick lazy) × (spent' ≡ spent))
      ⊎ (¬ (IsIdle bus tick (saw first lazy) (caught_up tick lazy)) × (spent' ≤ spent + 3)) →
      MetSoFar bus tick first (take (i + 1) olds) (done ++ new ∷ []) emit' was spent'
  next_met lazy new emit' spent' below is one e counts =
      subst (λ (l : List Lazy). MetSoFar bus tick first l (done ++ new ∷ []) emit' was spent')
      (sym (take_more olds i lazy below ∙ ap (λ y. take i olds ++ y ∷ []) (sym (next_is lazy below is))))
      (one_met bus tick first (take i olds) done emit was spent met lazy new emit' spent' one e counts)

  pub next_items : (lazy new : Lazy) → i < length olds → set items i new ≡ (done ++ new ∷ []) ++ drop (i + 1) olds
  next_items lazy new below = item_set olds done items i new lazy below (long (omega arith)) at

  pub all_met : length olds ≤ i → MetSoFar bus tick first olds items emit was spent
  all_met far =
      let none : drop i olds ≡ [] = drop_all i olds far in
      let same : done ≡ items = sym (append-nil done) ∙ (ap (λ l. done ++ l) (sym none) ∙ sym at) in
      subst (λ (l : List Lazy). MetSoFar bus tick first olds l emit was spent) same
      (subst (λ (l : List Lazy). MetSoFar bus tick first l done emit was spent) (take_all i olds far) met)

-- Deadlines that are found again.

pub refreshed_more : (olds news : List Lazy) (old new : Lazy) → AreRefreshed olds news → IsRefreshed old new → AreRefreshed (olds ++ old ∷ []) (news ++ new ∷ [])
refreshed_more [] [] old new h r = (r, tt)
refreshed_more [] (n ∷ news) old new h r = absurd h
refreshed_more (o ∷ olds) [] old new h r = absurd h
refreshed_more (o ∷ olds) (n ∷ news) old new h r = (h.0, refreshed_more olds news old new h.1 r)

pub refreshed_long : (olds news : List Lazy) → AreRefreshed olds news → length news ≡ length olds
refreshed_long [] [] h = refl
refreshed_long [] (n ∷ news) h = absurd h
refreshed_long (o ∷ olds) [] h = absurd h
refreshed_long (o ∷ olds) (n ∷ news) h = let rest = refreshed_long olds news h.1 in omega arith

pub refreshed_same : (lazy : Lazy) → lazy.outdated ≡ false → IsRefreshed lazy lazy
refreshed_same lazy e =
    record {
      left = ap (λ (b : Bool). record lazy { outdated = b }) e;
      due = λ t. absurd (false_is_not_true (sym e ∙ t));
      same = λ f. refl;
    }
  where
    false_is_not_true : false ≡ true → ⊥
    false_is_not_true x = cc

pub refreshed_new : (old new : Lazy) → old.outdated ≡ true → IsKnown old new → IsRefreshed old new
refreshed_new old new e known =
    record { left = known.left; due = λ t. known.due; same = λ f. absurd (false_is_not_true (sym f ∙ e)) }
  where
    false_is_not_true : false ≡ true → ⊥
    false_is_not_true x = cc

count_next : (p : Lazy → Bool) (xs : List Lazy) (i : ℕ) (x : Lazy) → i < length xs → x ≡ get_or xs i x →
    count_by p (take (i + 1) xs) ≡ count_by p (take i xs) + (if p x then 1 else 0)
count_next p xs i x below is = by (p x) refl
  where
    by : (b : Bool) → p x ≡ b → count_by p (take (i + 1) xs) ≡ count_by p (take i xs) + (if b then 1 else 0)
    by true e = count_by_more_yes p xs i x below (ap p (sym is) ∙ e)
    by false e =
        let same : count_by p (take i xs) ≡ count_by p (take i xs) + 0 = omega arith in
        count_by_more_no p xs i x below (ap p (sym is) ∙ e) ∙ same

module _ (olds items done : List Lazy) (i was spent : ℕ) (at : items ≡ done ++ drop i olds) (h : AreRefreshed (take i olds) done)
    (counted : spent ≤ was + count_by (λ (l : Lazy). l.outdated) (take i olds)) where
  length_done : i ≤ length olds → length done ≡ i
  length_done le = refreshed_long (take i olds) done h ∙ length-take-le i olds le

  pub refresh_is : (lazy : Lazy) → i < length olds → lazy ≡ get_or items i lazy → lazy ≡ get_or olds i lazy
  refresh_is lazy below is = is ∙ item_is olds done items i lazy below (length_done (omega arith)) at

  pub refresh_items : (lazy new : Lazy) → i < length olds → set items i new ≡ (done ++ new ∷ []) ++ drop (i + 1) olds
  refresh_items lazy new below = item_set olds done items i new lazy below (length_done (omega arith)) at

  refresh_take : (lazy : Lazy) → i < length olds → lazy ≡ get_or items i lazy → take (i + 1) olds ≡ take i olds ++ lazy ∷ []
  refresh_take lazy below is = take_more olds i lazy below ∙ ap (λ y. take i olds ++ y ∷ []) (sym (refresh_is lazy below is))

  pub refresh_more : (lazy new : Lazy) → i < length olds → lazy ≡ get_or items i lazy → IsRefreshed lazy new →
      AreRefreshed (take (i + 1) olds) (done ++ new ∷ [])
  refresh_more lazy new below is r =
      subst (λ (l : List Lazy). AreRefreshed l (done ++ new ∷ [])) (sym (refresh_take lazy below is)) (refreshed_more (take i olds) done lazy new h r)

  pub refresh_count : (lazy : Lazy) (spent' : ℕ) → i < length olds → lazy ≡ get_or items i lazy → spent' ≤ spent + (if lazy.outdated then 1 else 0) →
      spent' ≤ was + count_by (λ (l : Lazy). l.outdated) (take (i + 1) olds)
  refresh_count lazy spent' below is few =
      let more : count_by (λ (l : Lazy). l.outdated) (take (i + 1) olds)
      ≡ count_by (λ (l : Lazy). l.outdated) (take i olds) + (if lazy.outdated then 1 else 0) =
      count_next (λ (l : Lazy). l.outdated) olds i lazy below (refresh_is lazy below is) in
      omega (arith, more, few, counted)

  pub refresh_all_done : length olds ≤ i →
      AreRefreshed olds items × (spent ≤ was + count_by (λ (l : Lazy). l.outdated) olds)
  refresh_all_done far =
      let none : drop i olds ≡ [] = drop_all i olds far in
      let same : done ≡ items = sym (append-nil done) ∙ (ap (λ l. done ++ l) (sym none) ∙ sym at) in (
        subst (λ (l : List Lazy). AreRefreshed olds l) same (subst (λ (l : List Lazy). AreRefreshed l done) (take_all i olds far) h),
        subst (λ (l : List Lazy). spent ≤ was + count_by (λ (x : Lazy). x.outdated) l) (take_all i olds far) counted,
      )

-- nothing gone over yet
pub drop_none : {X : Type 0} (xs : List X) → drop 0 xs ≡ xs
drop_none [] = refl
drop_none (x ∷ xs) = refl

pub take_none : {X : Type 0} (xs : List X) → take 0 xs ≡ []
take_none [] = refl
take_none (x ∷ xs) = refl

pub begin_met : (bus : Bus) (tick : ℕ) (first : Bool) (olds : List Lazy) (was : ℕ) → MetSoFar bus tick first (take 0 olds) [] emits.Nothing was was
begin_met bus tick first olds was = subst (λ (l : List Lazy). MetSoFar bus tick first l [] emits.Nothing was was) (sym (take_none olds)) (met_none bus tick first was)

pub begin_refreshed : (olds : List Lazy) → AreRefreshed (take 0 olds) []
begin_refreshed olds = subst (λ (l : List Lazy). AreRefreshed l []) (sym (take_none olds)) tt

front_len : {X : Type 0} (xs ys : List X) → take (length xs) (xs ++ ys) ≡ xs
front_len [] [] = refl
front_len [] (y ∷ ys) = refl
front_len (x ∷ xs) ys = ap (λ l. x ∷ l) (front_len xs ys)

pub front_is : {X : Type 0} (n : ℕ) (xs ys : List X) → length xs ≡ n → take n (xs ++ ys) ≡ xs
front_is n xs ys e = ap (λ k. take k (xs ++ ys)) (sym e) ∙ front_len xs ys
