-- Fields that are set one by one: the last value of each counts, and none disturbs another.
use Rattle.std.proofs.Common.{◌≡◌, ◌≢◌, ℕ, suc, zero, ◌==◌, Bool, true, false, List, [], ◌∷◌, get_or, set, map, refl, sym, ap, ◌∙◌, if◌then◌else◌}
use Rattle.std.proofs.lemmas.Bool.{eqb-true}

-- Settings by fields.

-- a field, and what a value of it does
pub record Setter (S : Type 0) : Type 0 where
  pub field : ℕ
  pub give : S → ℕ → S

-- the settings with a value in a field, where these are the fields
abbrev pub pick : {S : Type 0} → List (Setter S) → ℕ → S → ℕ → S
pick [] f s x = s
pick (t ∷ rest) f s x = if f == t.field then t.give s x else pick rest f s x

-- a value given again changes nothing
abbrev pub AreFinal : {S : Type 0} → List (Setter S) → Type 0
AreFinal [] = Unit {0}
AreFinal {S} (t ∷ rest) = ((s : S) (x : ℕ) → t.give (t.give s x) x ≡ t.give s x) × AreFinal rest

-- a value of this field and one of each of these can be given in any order
abbrev pub Passes : {S : Type 0} → Setter S → List (Setter S) → Type 0
Passes t [] = Unit {0}
Passes {S} t (u ∷ rest) =
    ((s : S) (x y : ℕ) → u.give (t.give s x) y ≡ t.give (u.give s y) x) × Passes t rest

abbrev pub AreApart : {S : Type 0} → List (Setter S) → Type 0
AreApart [] = Unit {0}
AreApart (t ∷ rest) = Passes t rest × AreApart rest

module _ {S : Type 0} where
  pub pick_again :
      (l : List (Setter S)) → AreFinal l → (f : ℕ) (s : S) (x : ℕ) → pick l f (pick l f s x) x ≡ pick l f s x
  pick_again [] h f s x = refl
  pick_again (t ∷ rest) h f s x = by (pick_again rest h.1 f s x) (f == t.field)
    where
      by : pick rest f (pick rest f s x) x ≡ pick rest f s x → (b : Bool) →
          (if b then t.give (if b then t.give s x else pick rest f s x) x
          else pick rest f (if b then t.give s x else pick rest f s x) x)
          ≡ (if b then t.give s x else pick rest f s x)
      by again true = h.0 s x
      by again false = again

  passed : (t : Setter S) (l : List (Setter S)) → Passes t l → (f : ℕ) (s : S) (x y : ℕ) →
      pick l f (t.give s x) y ≡ t.give (pick l f s y) x
  passed t [] h f s x y = refl
  passed t (u ∷ rest) h f s x y = by (passed t rest h.1 f s x y) (f == u.field)
    where
      by : pick rest f (t.give s x) y ≡ t.give (pick rest f s y) x → (b : Bool) →
          (if b then u.give (t.give s x) y else pick rest f (t.give s x) y)
          ≡ t.give (if b then u.give s y else pick rest f s y) x
      by again true = h.0 s x y
      by again false = again

  pub pick_apart : (l : List (Setter S)) → AreApart l → (f g : ℕ) (s : S) (x y : ℕ) → f ≢ g →
      pick l g (pick l f s x) y ≡ pick l f (pick l g s y) x
  pick_apart [] h f g s x y ne = refl
  pick_apart (t ∷ rest) h f g s x y ne = by (pick_apart rest h.1 f g s x y ne) (f == t.field) (g == t.field) refl refl
    where
      by : pick rest g (pick rest f s x) y ≡ pick rest f (pick rest g s y) x →
          (b c : Bool) → (f == t.field) ≡ b → (g == t.field) ≡ c →
          (if c then t.give (if b then t.give s x else pick rest f s x) y
          else pick rest g (if b then t.give s x else pick rest f s x) y)
          ≡ (if b then t.give (if c then t.give s y else pick rest g s y) x
          else pick rest f (if c then t.give s y else pick rest g s y) x)
      by again true true e d = absurd (ne (eqb-true f t.field e ∙ sym (eqb-true g t.field d)))
      by again true false e d = passed t rest h.0 g s x y
      by again false true e d = sym (passed t rest h.0 f s y x)
      by again false false e d = again

-- Places of a list.

-- the list with one place changed
abbrev pub touch : {X : Type 0} → X → List X → ℕ → (X → X) → List X
touch d xs p f = set xs p (f (get_or xs p d))

module _ {X : Type 0} (d : X) where
  pub touch_again : (xs : List X) (p : ℕ) (f : X → X) → ((x : X) → f (f x) ≡ f x) →
      touch d (touch d xs p f) p f ≡ touch d xs p f
  touch_again [] zero f h = refl
  touch_again [] (suc p) f h = refl
  touch_again (x ∷ xs) zero f h = ap (λ y. y ∷ xs) (h x)
  touch_again (x ∷ xs) (suc p) f h = ap (λ l. x ∷ l) (touch_again xs p f h)

  pub touch_apart : (xs : List X) (p q : ℕ) (f g : X → X) → (p ≡ q → (x : X) → g (f x) ≡ f (g x)) →
      touch d (touch d xs p f) q g ≡ touch d (touch d xs q g) p f
  touch_apart [] zero zero f g h = refl
  touch_apart [] zero (suc q) f g h = refl
  touch_apart [] (suc p) zero f g h = refl
  touch_apart [] (suc p) (suc q) f g h = refl
  touch_apart (x ∷ xs) zero zero f g h = ap (λ y. y ∷ xs) (h refl x)
  touch_apart (x ∷ xs) zero (suc q) f g h = refl
  touch_apart (x ∷ xs) (suc p) zero f g h = refl
  touch_apart (x ∷ xs) (suc p) (suc q) f g h =
      ap (λ l. x ∷ l) (touch_apart xs p q f g (λ e. h (ap suc e)))

  -- a place that stays, also after a change of all places that keeps what stays
  pub touch_map : (xs : List X) (p : ℕ) (f h : X → X) → ((x : X) → f x ≡ x → f (h x) ≡ h x) →
      touch d xs p f ≡ xs → touch d (map h xs) p f ≡ map h xs
  touch_map [] zero f h k e = refl
  touch_map [] (suc p) f h k e = refl
  touch_map (x ∷ xs) zero f h k e = ap (λ y. y ∷ map h xs) (k x (first e))
    where
      first : f x ∷ xs ≡ x ∷ xs → f x ≡ x
      first e = cc
  touch_map (x ∷ xs) (suc p) f h k e = ap (λ l. h x ∷ l) (touch_map xs p f h k (later e))
    where
      later : x ∷ touch d xs p f ≡ x ∷ xs → touch d xs p f ≡ xs
      later e = cc
