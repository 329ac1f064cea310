-- Positions in rising order, and the entries at them.
use Rattle.std.proofs.Common.{◌≡◌, ℕ, zero, suc, ◌+◌, ◌<◌, ◌≤◌, ◌≢◌, Bool, true, false, cond, List, [], ◌∷◌, ◌++◌, length, slice_get, refl, arith, ltb, ltb-true, ltb-false}
use Rattle.std.specs.List.{All, count_by}
use Rattle.std.proofs.lemmas.List.Elements.{All-nil, All-cons, All-head, All-tail, All-push, All-weaker}
use Rattle.std.proofs.lemmas.List.Sums.{sum_by-cons}
use Rattle.pb_turn.specs.Seeing.{Rising, placed, together, entries_at}

-- by cases on a test
pub choose : {A : Type 0} (F : A → Type 0) (b : Bool) (x y : A) → (b ≡ true → F x) → (b ≡ false → F y) → F (cond b x y)
choose F true x y t f = t refl
choose F false x y t f = f refl

pub rising_more : (ns : List ℕ) (m : ℕ) → Rising ns → All (λ n. n < m) ns → Rising (ns ++ m ∷ [])
rising_more [] m r b = (All-nil (λ n. m < n), tt)
rising_more (n ∷ ns) m r b = (All-push (λ k. n < k) ns m r.0 (All-head (λ k. k < m) n ns b), rising_more ns m r.1 (All-tail (λ k. k < m) n ns b))

pub all_placed : (P : ℕ → Type 0) (n : ℕ) (ms : List ℕ) → P n → All P ms → All P (placed n ms)
all_placed P n [] p h = All-cons P n [] p (All-nil P)
all_placed P n (m ∷ ms) p h = choose (All P) (ltb n m) (n ∷ m ∷ ms) (m ∷ placed n ms) (λ _. All-cons P n (m ∷ ms) p h) (λ _. All-cons P m (placed n ms) (All-head P m ms h) (all_placed P n ms p (All-tail P m ms h)))

pub rising_placed : (n : ℕ) (ms : List ℕ) → Rising ms → All (λ m. m ≢ n) ms → Rising (placed n ms)
rising_placed n [] r d = (All-nil (λ k. n < k), tt)
rising_placed n (m ∷ ms) r d = choose Rising (ltb n m) (n ∷ m ∷ ms) (m ∷ placed n ms)
    (λ is. let lt : n < m = ltb-true n m is in (All-cons (λ k. n < k) m ms lt (All-weaker (λ k. m < k) (λ k. n < k) (λ k h. omega arith) ms r.0), r))
    (λ is. let ge : m < n = above (All-head (λ k. k ≢ n) m ms d) (ltb-false n m is) in (all_placed (λ k. m < k) n ms ge r.0, rising_placed n ms r.1 (All-tail (λ k. k ≢ n) m ms d)))
  where
    above : m ≢ n → m ≤ n → m < n
    above ne le = omega arith

pub all_together : (P : ℕ → Type 0) (ns ms : List ℕ) → All P ns → All P ms → All P (together ns ms)
all_together P [] ms p q = q
all_together P (n ∷ ns) ms p q = all_placed P n (together ns ms) (All-head P n ns p) (all_together P ns ms (All-tail P n ns p) q)

pub rising_together : (ns ms : List ℕ) → Rising ns → Rising ms → All (λ n. All (λ m. m ≢ n) ms) ns → Rising (together ns ms)
rising_together [] ms r q d = q
rising_together (n ∷ ns) ms r q d = rising_placed n (together ns ms)
    (rising_together ns ms r.1 q (All-tail (λ k. All (λ m. m ≢ k) ms) n ns d))
    (all_together (λ m. m ≢ n) ns ms (All-weaker (λ k. n < k) (λ k. k ≢ n) (λ k h e. omega arith) ns r.0) (All-head (λ k. All (λ m. m ≢ k) ms) n ns d))

-- the positions of both are counted as often as in both
pub count_placed : (p : ℕ → Bool) (n : ℕ) (ms : List ℕ) → count_by p (placed n ms) ≡ count_by p (n ∷ ms)
count_placed p n [] = refl
count_placed p n (m ∷ ms) = choose (λ ks. count_by p ks ≡ count_by p (n ∷ m ∷ ms)) (ltb n m) (n ∷ m ∷ ms) (m ∷ placed n ms) (λ _. refl)
    (λ _. let c : ℕ → ℕ = λ k. cond (p k) 1 0 in omega (arith, count_placed p n ms, sum_by-cons c m (placed n ms), sum_by-cons c n (m ∷ ms), sum_by-cons c m ms, sum_by-cons c n ms))

pub count_together : (p : ℕ → Bool) (ns ms : List ℕ) → count_by p (together ns ms) ≡ count_by p ns + count_by p ms
count_together p [] ms = omega arith
count_together p (n ∷ ns) ms = let c : ℕ → ℕ = λ k. cond (p k) 1 0 in
    omega (arith, count_placed p n (together ns ms), count_together p ns ms, sum_by-cons c n (together ns ms), sum_by-cons c n ns)

get_front : {E : Type 0} (seen more : List E) (n : ℕ) → n < length seen → slice_get (seen ++ more) n ≡ slice_get seen n
get_front [] more n lt = absurd (omega arith)
get_front (e ∷ es) more zero lt = refl
get_front (e ∷ es) more (suc n) lt = get_front es more n (omega arith)

-- what a pass has made stays the same entries as the history grows
pub entries_stay : {E : Type 0} (seen more : List E) (ns : List ℕ) → All (λ n. n < length seen) ns → entries_at (seen ++ more) ns ≡ entries_at seen ns
entries_stay seen more [] b = refl
entries_stay seen more (n ∷ ns) b = cc (get_front seen more n (All-head (λ k. k < length seen) n ns b), entries_stay seen more ns (All-tail (λ k. k < length seen) n ns b))
