-- Lists of what belongs to names, and one name's changed.
use Rattle.std.proofs.Common.{◌≡◌, ℕ, Bool, true, false, List, [], ◌∷◌, map, refl, sym, ap, ◌∙◌, if◌then◌else◌}
use Rattle.std.proofs.lemmas.Bool.{eqb-true}
use Rattle.pb_fields.proofs.RowLemmas.{and_left, and_right}
use Rattle.pb_model.specs.Machines.{Name, is_name, with_named}

pub kind_of_name : (a m : Name) → is_name a m ≡ true → a.kind ≡ m.kind
kind_of_name a m e = eqb-true a.kind m.kind (and_left _ _ e)

pub number_of_name : (a m : Name) → is_name a m ≡ true → a.number ≡ m.number
number_of_name a m e = eqb-true a.number m.number (and_right _ _ e)

-- what stands at each name is of the name's kind
module _ {X : Type 0} (K : X → ℕ) where
  abbrev pub Fits : List Name → List X → Type 0
  Fits names xs = map K xs ≡ map (λ (m : Name). m.kind) names

  first_fits : (m : Name) (names : List Name) (x : X) (xs : List X) → K x ∷ map K xs ≡ m.kind ∷ map (λ (n : Name). n.kind) names → K x ≡ m.kind
  first_fits m names x xs h = cc

  rest_fits : (m : Name) (names : List Name) (x : X) (xs : List X) → K x ∷ map K xs ≡ m.kind ∷ map (λ (n : Name). n.kind) names → Fits names xs
  rest_fits m names x xs h = cc

  pub named_again : (names : List Name) (a : Name) (f : X → X) (xs : List X) → Fits names xs →
      ((x : X) → K x ≡ a.kind → f (f x) ≡ f x) →
      with_named names a f (with_named names a f xs) ≡ with_named names a f xs
  named_again [] a f xs fits h = refl
  named_again (m ∷ names) a f [] fits h = refl
  named_again (m ∷ names) a f (x ∷ xs) fits h =
      by (named_again names a f xs (rest_fits m names x xs fits) h) (is_name a m) refl
    where
      by : with_named names a f (with_named names a f xs) ≡ with_named names a f xs → (b : Bool) → is_name a m ≡ b →
          with_named (m ∷ names) a f (if b then f x ∷ xs else x ∷ with_named names a f xs)
          ≡ (if b then f x ∷ xs else x ∷ with_named names a f xs)
      by rest true e =
          ap (λ c. if c then f (f x) ∷ xs else f x ∷ with_named names a f xs) e
          ∙ ap (λ y. y ∷ xs) (h x (first_fits m names x xs fits ∙ sym (kind_of_name a m e)))
      by rest false e =
          ap (λ c. if c then f x ∷ with_named names a f xs else x ∷ with_named names a f (with_named names a f xs)) e
          ∙ ap (λ l. x ∷ l) rest

  pub named_apart : (names : List Name) (a b : Name) (f g : X → X) (xs : List X) → Fits names xs →
      (a.kind ≡ b.kind → a.number ≡ b.number → (x : X) → K x ≡ a.kind → g (f x) ≡ f (g x)) →
      with_named names b g (with_named names a f xs) ≡ with_named names a f (with_named names b g xs)
  named_apart [] a b f g xs fits h = refl
  named_apart (m ∷ names) a b f g [] fits h = refl
  named_apart (m ∷ names) a b f g (x ∷ xs) fits h =
      by (named_apart names a b f g xs (rest_fits m names x xs fits) h) (is_name a m) (is_name b m) refl refl
    where
      by : with_named names b g (with_named names a f xs) ≡ with_named names a f (with_named names b g xs) →
          (c d : Bool) → is_name a m ≡ c → is_name b m ≡ d →
          with_named (m ∷ names) b g (if c then f x ∷ xs else x ∷ with_named names a f xs)
          ≡ with_named (m ∷ names) a f (if d then g x ∷ xs else x ∷ with_named names b g xs)
      by rest true true e k =
          ap (λ t. if t then g (f x) ∷ xs else f x ∷ with_named names b g xs) k
          ∙ (ap (λ y. y ∷ xs)
          (h (kind_of_name a m e ∙ sym (kind_of_name b m k)) (number_of_name a m e ∙ sym (number_of_name b m k)) x
          (first_fits m names x xs fits ∙ sym (kind_of_name a m e)))
          ∙ sym (ap (λ t. if t then f (g x) ∷ xs else g x ∷ with_named names a f xs) e))
      by rest true false e k =
          ap (λ t. if t then g (f x) ∷ xs else f x ∷ with_named names b g xs) k
          ∙ sym (ap (λ t. if t then f x ∷ with_named names b g xs else x ∷ with_named names a f (with_named names b g xs)) e)
      by rest false true e k =
          ap (λ t. if t then g x ∷ with_named names a f xs else x ∷ with_named names b g (with_named names a f xs)) k
          ∙ sym (ap (λ t. if t then f (g x) ∷ xs else g x ∷ with_named names a f xs) e)
      by rest false false e k =
          ap (λ t. if t then g x ∷ with_named names a f xs else x ∷ with_named names b g (with_named names a f xs)) k
          ∙ (ap (λ l. x ∷ l) rest
          ∙ sym (ap (λ t. if t then f x ∷ with_named names b g xs else x ∷ with_named names a f (with_named names b g xs)) e))

  -- what stays, also after a change of all that keeps what stays
  pub named_map : (names : List Name) (a : Name) (f h : X → X) (xs : List X) → Fits names xs →
      ((x : X) → K x ≡ a.kind → f x ≡ x → f (h x) ≡ h x) →
      with_named names a f xs ≡ xs → with_named names a f (map h xs) ≡ map h xs
  named_map [] a f h xs fits k e = refl
  named_map (m ∷ names) a f h [] fits k e = refl
  named_map (m ∷ names) a f h (x ∷ xs) fits k e =
      by (named_map names a f h xs (rest_fits m names x xs fits) k) (is_name a m) refl e
    where
      by : (with_named names a f xs ≡ xs → with_named names a f (map h xs) ≡ map h xs) → (b : Bool) → is_name a m ≡ b →
          (if b then f x ∷ xs else x ∷ with_named names a f xs) ≡ x ∷ xs →
          (if b then f (h x) ∷ map h xs else h x ∷ with_named names a f (map h xs)) ≡ h x ∷ map h xs
      by rest true is e =
          let same : f x ≡ x = cc in
          ap (λ y. y ∷ map h xs) (k x (first_fits m names x xs fits ∙ sym (kind_of_name a m is)) same)
      by rest false is e =
          let same : with_named names a f xs ≡ xs = cc in
          ap (λ l. h x ∷ l) (rest same)

-- one for each name by its kind, where that of this kind stays
pub named_first : {X : Type 0} (names : List Name) (a : Name) (f : X → X) (F : ℕ → X) → f (F a.kind) ≡ F a.kind →
    with_named names a f (map F (map (λ (m : Name). m.kind) names)) ≡ map F (map (λ (m : Name). m.kind) names)
named_first [] a f F h = refl
named_first (m ∷ names) a f F h = by (named_first names a f F h) (is_name a m) refl
  where
    by : with_named names a f (map F (map (λ (n : Name). n.kind) names)) ≡ map F (map (λ (n : Name). n.kind) names) →
        (b : Bool) → is_name a m ≡ b →
        (if b then f (F m.kind) ∷ map F (map (λ (n : Name). n.kind) names)
        else F m.kind ∷ with_named names a f (map F (map (λ (n : Name). n.kind) names)))
        ≡ F m.kind ∷ map F (map (λ (n : Name). n.kind) names)
    by rest true e =
        ap (λ y. y ∷ map F (map (λ (n : Name). n.kind) names))
        (ap (λ k. f (F k)) (sym (kind_of_name a m e)) ∙ (h ∙ ap F (kind_of_name a m e)))
    by rest false e = ap (λ l. F m.kind ∷ l) rest

-- a change that keeps the kind
pub named_kinds : {X : Type 0} (K : X → ℕ) (names : List Name) (a : Name) (f : X → X) (xs : List X) → ((x : X) → K (f x) ≡ K x) →
    map K (with_named names a f xs) ≡ map K xs
named_kinds K [] a f xs h = refl
named_kinds K (m ∷ names) a f [] h = refl
named_kinds K (m ∷ names) a f (x ∷ xs) h = by (named_kinds K names a f xs h) (is_name a m)
  where
    by : map K (with_named names a f xs) ≡ map K xs → (b : Bool) →
        map K (if b then f x ∷ xs else x ∷ with_named names a f xs) ≡ K x ∷ map K xs
    by rest true = ap (λ k. k ∷ map K xs) (h x)
    by rest false = ap (λ l. K x ∷ l) rest
