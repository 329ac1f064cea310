-- No two labels of a list are the same, so that a text is at one place of it.
use Rattle.std.proofs.Common.{◌≡◌, ℕ, zero, suc, ◌==◌, Bool, true, false, not, ◌&&◌, ◌||◌, List, [], ◌∷◌, slice_get, Option, Some, None, IsSome, codes, if◌then◌else◌, sym, ap, subst, ◌∙◌, inl, inr, refl}
use Rattle.std.specs.List.{list_any}
use Rattle.std.specs.Option.{unwrap_or}
use Rattle.std.proofs.lemmas.Bool.{and_parts, not-true, both_ways, eq-eqb, cases_eq, ne_eqb}
use Rattle.pb_fields.specs.Labels.{when_disabled, edges, first_pulses, seq_states, relations, directions, pcomp_states, position_captures, own_captures, time_units, label_list, bit_names, position_names, bit_mux_label, position_mux_label}

-- the texts are the same
abbrev same : List ℕ → List ℕ → Bool
same [] [] = true
same [] (c ∷ cs) = false
same (b ∷ bs) [] = false
same (b ∷ bs) (c ∷ cs) = (b == c) && same bs cs

-- no two of the texts are the same
abbrev apart : List (List ℕ) → Bool
apart [] = true
apart (x ∷ xs) = not (list_any (same x) xs) && apart xs

same_itself : (xs : List ℕ) → same xs xs ≡ true
same_itself [] = refl
same_itself (x ∷ xs) = ap (λ b. b && same xs xs) (eq-eqb x x refl) ∙ same_itself xs

or_true : (b : Bool) → (b || true) ≡ true
or_true true = refl
or_true false = refl

any_at : (t : List ℕ) (xs : List (List ℕ)) (i : ℕ) → slice_get xs i ≡ Some t → list_any (same t) xs ≡ true
any_at t [] i e = cc
any_at t (x ∷ xs) zero e =
    let at : t ≡ x = cc in
    ap (λ b. b || list_any (same t) xs) (subst (λ y. same t y ≡ true) at (same_itself t))
any_at t (x ∷ xs) (suc i) e = ap (λ b. same t x || b) (any_at t xs i e) ∙ or_true (same t x)

-- a text is at one place of texts that are apart
one_place : (xs : List (List ℕ)) → apart xs ≡ true → (i j : ℕ) (t : List ℕ) → slice_get xs i ≡ Some t → slice_get xs j ≡ Some t → i ≡ j
one_place [] h i j t e f = cc
one_place (x ∷ xs) h zero zero t e f = refl
one_place (x ∷ xs) h zero (suc j) t e f =
    let p = and_parts (not (list_any (same x) xs)) (apart xs) h in
    let at : x ≡ t = cc in
    absurd (both_ways (list_any (same x) xs) (not-true (list_any (same x) xs) p.0) (any_at x xs j (f ∙ ap Some (sym at))))
one_place (x ∷ xs) h (suc i) zero t e f =
    let p = and_parts (not (list_any (same x) xs)) (apart xs) h in
    let at : x ≡ t = cc in
    absurd (both_ways (list_any (same x) xs) (not-true (list_any (same x) xs) p.0) (any_at x xs i (e ∙ ap Some (sym at))))
one_place (x ∷ xs) h (suc i) (suc j) t e f =
    ap suc (one_place xs (and_parts (not (list_any (same x) xs)) (apart xs) h).1 i j t e f)

-- each list of labels

pick : (b : Bool) (xs ys : List (List ℕ)) → apart xs ≡ true → apart ys ≡ true → apart (if b then xs else ys) ≡ true
pick true xs ys h k = h
pick false xs ys h k = k

label_lists_apart : (n : ℕ) → apart (label_list n) ≡ true
unfolding label_list
label_lists_apart n =
    pick (n == 1) when_disabled _ refl
    (pick (n == 2) edges _ refl
    (pick (n == 3) first_pulses _ refl
    (pick (n == 4) seq_states _ refl
    (pick (n == 5) relations _ refl
    (pick (n == 6) directions _ refl
    (pick (n == 7) pcomp_states _ refl
    (pick (n == 8) position_captures _ refl
    (pick (n == 9) own_captures _ refl
    (pick (n == 10) time_units [] refl refl)))))))))

pub label_once : (n i j : ℕ) (t : List ℕ) → slice_get (label_list n) i ≡ Some t → slice_get (label_list n) j ≡ Some t → i ≡ j
label_once n i j t e f = one_place (label_list n) (label_lists_apart n) i j t e f

-- the labels of a bit mux
bit_labels : List (List ℕ)
bit_labels = codes "ZERO" ∷ codes "ONE" ∷ bit_names

bit_labels_apart : apart bit_labels ≡ true
unfolding bit_labels bit_names
bit_labels_apart = refl

position_labels : List (List ℕ)
position_labels = codes "ZERO" ∷ position_names

position_labels_apart : apart position_labels ≡ true
unfolding position_labels position_names
position_labels_apart = refl

-- where the label of what a bit mux selects stands, and what the label there selects
bit_selection : ℕ → ℕ
bit_selection zero = 128
bit_selection (suc zero) = 129
bit_selection (suc (suc i)) = i

pub bit_entry : (raw : ℕ) → (raw ≡ 128 → ⊥) → (raw ≡ 129 → ⊥) → bit_mux_label raw ≡ slice_get bit_names raw
bit_entry raw h k = rw (ne_eqb raw 128 h, ne_eqb raw 129 k) refl

bit_place : (raw : ℕ) (t : List ℕ) → bit_mux_label raw ≡ Some t → (i : ℕ) × (slice_get bit_labels i ≡ Some t) × (bit_selection i ≡ raw)
unfolding bit_labels bit_selection
bit_place raw t e =
    elim (cases_eq raw 128) [
      | inl zero_at ↦ (0, subst (λ r. bit_mux_label r ≡ Some t) zero_at e, sym zero_at)
      | inr not_zero ↦ elim (cases_eq raw 129) [
        | inl one_at ↦ (1, subst (λ r. bit_mux_label r ≡ Some t) one_at e, sym one_at)
        | inr not_one ↦ (suc (suc raw), sym (bit_entry raw not_zero not_one) ∙ e, refl)
      ]
    ]

pub bit_mux_once : (m n : ℕ) (t : List ℕ) → bit_mux_label m ≡ Some t → bit_mux_label n ≡ Some t → m ≡ n
bit_mux_once m n t e f =
    let i = bit_place m t e in
    let j = bit_place n t f in
    sym i.2 ∙ ap bit_selection (one_place bit_labels bit_labels_apart i.0 j.0 t i.1 j.1) ∙ j.2

position_selection : ℕ → ℕ
position_selection zero = 32
position_selection (suc i) = i

pub position_entry : (raw : ℕ) → (raw ≡ 32 → ⊥) → position_mux_label raw ≡ slice_get position_names raw
position_entry raw h = rw (ne_eqb raw 32 h) refl

position_place : (raw : ℕ) (t : List ℕ) → position_mux_label raw ≡ Some t → (i : ℕ) × (slice_get position_labels i ≡ Some t) × (position_selection i ≡ raw)
unfolding position_labels position_selection
position_place raw t e =
    elim (cases_eq raw 32) [
      | inl zero_at ↦ (0, subst (λ r. position_mux_label r ≡ Some t) zero_at e, sym zero_at)
      | inr not_zero ↦ (suc raw, sym (position_entry raw not_zero) ∙ e, refl)
    ]

pub position_mux_once : (m n : ℕ) (t : List ℕ) → position_mux_label m ≡ Some t → position_mux_label n ≡ Some t → m ≡ n
position_mux_once m n t e f =
    let i = position_place m t e in
    let j = position_place n t f in
    sym i.2 ∙ ap position_selection (one_place position_labels position_labels_apart i.0 j.0 t i.1 j.1) ∙ j.2

-- the label that there is
pub there_is : (o : Option (List ℕ)) → IsSome o → o ≡ Some (unwrap_or o [])
there_is None h = cc
there_is (Some t) h = refl
