-- Values that stand in a list from a place on, and a list with other values there.
use Rattle.std.proofs.Common.{◌≡◌, ℕ, zero, suc, ◌+◌, ◌-◌, ◌<◌, ◌≤◌, List, [], ◌∷◌, ◌++◌, length, get_or, set, take, drop, refl, sym, ap, ◌∙◌, arith, append_assoc, length-append, length-drop}
use Rattle.std.proofs.lemmas.List.{get_or-append-add, get_or_append_left, get_or-take, length-take-le, set-get_or, get_or-drop}
use Rattle.pb_model.proofs.BusLemmas.{spliced, spliced-is, spliced-none, spliced-one}

module _ {X : Type 0} (d : X) where
  -- these values stand in the list from place i on
  abbrev pub Stand : List X → ℕ → List X → Type 0
  Stand xs i values = (k : ℕ) → k < length values → get_or xs (i + k) d ≡ get_or values k d

  -- in two parts
  pub stand_first : (xs : List X) (i : ℕ) (front behind : List X) → Stand xs i (front ++ behind) → Stand xs i front
  stand_first xs i front behind h k below =
      h k (omega (arith, length-append front behind)) ∙ get_or_append_left front behind d k below

  pub stand_last : (xs : List X) (i : ℕ) (front behind : List X) → Stand xs i (front ++ behind) → Stand xs (i + length front) behind
  stand_last xs i front behind h k below =
      let e : i + length front + k ≡ i + (length front + k) = omega arith in
      ap (λ n. get_or xs n d) e
      ∙ (h (length front + k) (omega (arith, length-append front behind)) ∙ get_or-append-add front behind k d)

  -- what stands already
  pub spliced_same : (values xs : List X) (i : ℕ) → i + length values ≤ length xs → Stand xs i values → spliced i values xs ≡ xs
  spliced_same [] xs i fits h = spliced-none i xs
  spliced_same (v ∷ values) xs i fits h =
      let zero_more : i + 0 ≡ i = omega arith in
      let here : get_or xs i d ≡ v = ap (λ n. get_or xs n d) (sym zero_more) ∙ h 0 (omega arith) in
      let same : set xs i v ≡ xs = ap (set xs i) (sym here) ∙ set-get_or xs i d in
      sym (spliced-one i v values xs (omega arith))
      ∙ (ap (spliced (i + 1) values) same
      ∙ spliced_same values xs (i + 1) (omega arith) (stand_last xs i (v ∷ []) values h))

  at_front : (xs rest : List X) (i k : ℕ) → i ≤ length xs → get_or (take i xs ++ rest) (i + k) d ≡ get_or rest k d
  at_front xs rest i k h =
      let long : length (take i xs) ≡ i = length-take-le i xs h in
      ap (λ n. get_or (take i xs ++ rest) (n + k) d) (sym long) ∙ get_or-append-add (take i xs) rest k d

  -- what was put stands
  pub spliced_stands : (values xs : List X) (i : ℕ) → i ≤ length xs → Stand (spliced i values xs) i values
  spliced_stands values xs i h k below =
      ap (λ l. get_or l (i + k) d) (spliced-is i values xs ∙ append_assoc (take i xs) values (drop (i + length values) xs))
      ∙ (at_front xs (values ++ drop (i + length values) xs) i k h
      ∙ get_or_append_left values (drop (i + length values) xs) d k below)

  -- and all else stays
  pub spliced_before : (values xs : List X) (i j : ℕ) → i ≤ length xs → j < i → get_or (spliced i values xs) j d ≡ get_or xs j d
  spliced_before values xs i j h below =
      let long : length (take i xs) ≡ i = length-take-le i xs h in
      ap (λ l. get_or l j d) (spliced-is i values xs ∙ append_assoc (take i xs) values (drop (i + length values) xs))
      ∙ (get_or_append_left (take i xs) (values ++ drop (i + length values) xs) d j (omega arith)
      ∙ get_or-take i xs j d below)

  pub spliced_behind : (values xs : List X) (i k : ℕ) → i ≤ length xs →
      get_or (spliced i values xs) (i + length values + k) d ≡ get_or xs (i + length values + k) d
  spliced_behind values xs i k h =
      let e : i + length values + k ≡ i + (length values + k) = omega arith in
      ap (λ l. get_or l (i + length values + k) d) (spliced-is i values xs ∙ append_assoc (take i xs) values (drop (i + length values) xs))
      ∙ (ap (λ n. get_or (take i xs ++ (values ++ drop (i + length values) xs)) n d) e
      ∙ (at_front xs (values ++ drop (i + length values) xs) i (length values + k) h
      ∙ (get_or-append-add values (drop (i + length values) xs) k d
      ∙ get_or-drop (i + length values) xs k d)))

  pub stand_before : (values xs others : List X) (i j : ℕ) → i ≤ length xs → j + length others ≤ i →
      Stand xs j others → Stand (spliced i values xs) j others
  stand_before values xs others i j h apart stand k below = spliced_before values xs i (j + k) h (omega arith) ∙ stand k below

  pub stand_behind : (values xs others : List X) (i : ℕ) → i ≤ length xs →
      Stand xs (i + length values) others → Stand (spliced i values xs) (i + length values) others
  stand_behind values xs others i h stand k below = spliced_behind values xs i k h ∙ stand k below
