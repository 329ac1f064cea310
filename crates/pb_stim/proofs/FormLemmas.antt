-- What the text of a line says, by printing and computed.
use Rattle.std.proofs.Common.{◌≡◌, ℕ, ◌⊎◌, Bool, true, false, cond, eqb, ltb, ◌&&◌, List, [], ◌∷◌, ◌++◌, length, refl, sym, ap, subst, ◌∙◌, inl, inr, arith, Option, Some, None, ℤ}
use Rattle.std.proofs.lemmas.Bool.{ne_eqb, eqb-true, and_parts, and_from, lt-ltb, ltb-true}
use Rattle.std.proofs.lemmas.Option.{none-some, same_Some, cond_some}
use Rattle.pb_words.specs.Numbers.{IsDigit, WritesNumber, value_of}
use Rattle.pb_words.specs.Signed.{is_uint}
use Rattle.pb_stim.specs.Texts.{WritesSigned, IsName, before_space, after_space, is_signed, signed_value}
use Rattle.pb_stim.specs.Lines.{Line, Skipped, Level, SaysLevel, IsLine}
use Rattle.pb_stim.specs.Reading.{level_of, row_in, timed_of, line_in}
use Rattle.pb_stim.proofs.SpaceLemmas.{IsCut, Whole, Cut, cut_of, before_cut, after_cut, after_whole}
use Rattle.pb_stim.proofs.NumberLemmas.{number_is, number_read, digits_spaceless, first_digit, signed_is, signed_read}

-- Steps of a computed reading.

-- a test that lets through
guarded : {A : Type 0} (t : Bool) (o : Option A) (y : A) → cond t o None ≡ Some y → (t ≡ true) × (o ≡ Some y)
guarded true o y e = (refl, e)
guarded false o y e = absurd (none-some y e)

-- one of two ways
either_way : {A : Type 0} (t : Bool) (x y z : A) → cond t x y ≡ z → ((t ≡ true) × (x ≡ z)) ⊎ ((t ≡ false) × (y ≡ z))
either_way true x y z e = inl (refl, e)
either_way false x y z e = inr (refl, e)

-- What is computed is said.

-- a row at this tick is what the rest says
abbrev SaysRow : ℕ → List ℕ → Line → Type 0
SaysRow tick rest line = (target : List ℕ) × (value : ℤ) × SaysLevel rest target value × (Level tick target value ≡ line)

level_says : (tick : ℕ) (rest : List ℕ) (line : Line) → level_of tick (before_space rest) (after_space rest) ≡ Some line → SaysRow tick (83 ∷ 32 ∷ rest) line
level_says tick rest line e = by_cut (cut_of rest)
  where
    by_cut : IsCut rest → SaysRow tick (83 ∷ 32 ∷ rest) line
    by_cut (Whole h) = absurd (none-some line (subst (λ o. level_of tick (before_space rest) o ≡ Some line) (after_whole rest h) e))
    by_cut (Cut front written h cut) =
        let front_is : before_space rest ≡ front = ap before_space cut ∙ before_cut front written h in
        let behind_is : after_space rest ≡ Some written = ap after_space cut ∙ after_cut front written h in
        let found : level_of tick front (Some written) ≡ Some line = ap (λ o. level_of tick front o) (sym behind_is) ∙ (ap (λ x. level_of tick x (after_space rest)) (sym front_is) ∙ e) in
        let both = cond_some (ltb 0 (length front) && is_signed written) (Level tick front (signed_value written)) line found in
        let parts = and_parts (ltb 0 (length front)) (is_signed written) both.0 in
        let name : IsName front = record { some = ltb-true 0 (length front) parts.0; spaceless = h } in
        (front, signed_value written, (written, name, signed_is written parts.1, ap (λ r. 83 ∷ 32 ∷ r) cut), both.1)

row_says : (tick : ℕ) (rest : List ℕ) (line : Line) → row_in tick rest ≡ Some line → SaysRow tick rest line
row_says tick [] line e = absurd (none-some line e)
row_says tick (letter ∷ []) line e = absurd (none-some line e)
row_says tick (letter ∷ space ∷ rest) line e =
    let both = guarded (eqb letter 83 && eqb space 32) (level_of tick (before_space rest) (after_space rest)) line e in
    let parts = and_parts (eqb letter 83) (eqb space 32) both.0 in
    subst (λ l. SaysRow tick (l ∷ space ∷ rest) line) (sym (eqb-true letter 83 parts.0))
    (subst (λ s. SaysRow tick (83 ∷ s ∷ rest) line) (sym (eqb-true space 32 parts.1)) (level_says tick rest line both.1))

timed_says : (text : List ℕ) (line : Line) → timed_of (before_space text) (after_space text) ≡ Some line → IsLine text line
timed_says text line e = by_cut (cut_of text)
  where
    by_cut : IsCut text → IsLine text line
    by_cut (Whole h) = absurd (none-some line (subst (λ o. timed_of (before_space text) o ≡ Some line) (after_whole text h) e))
    by_cut (Cut digits rest h cut) =
        let front_is : before_space text ≡ digits = ap before_space cut ∙ before_cut digits rest h in
        let behind_is : after_space text ≡ Some rest = ap after_space cut ∙ after_cut digits rest h in
        let found : timed_of digits (Some rest) ≡ Some line = ap (λ o. timed_of digits o) (sym behind_is) ∙ (ap (λ x. timed_of x (after_space text)) (sym front_is) ∙ e) in
        let both = guarded (is_uint digits) (row_in (value_of digits) rest) line found in
        let row = row_says (value_of digits) rest line both.1 in
        subst (IsLine text) row.3 (digits, rest, number_is digits both.0, row.2, cut)

-- the line that is computed is the text's
pub line_says : (text : List ℕ) (line : Line) → line_in text ≡ Some line → IsLine text line
unfolding line_in
line_says [] line e = subst (IsLine []) (same_Some Skipped line e) (inl refl)
line_says (b ∷ bs) line e =
    elim (either_way (eqb b 35) _ _ _ e) [
      | inl comment ↦ subst (IsLine (b ∷ bs)) (same_Some Skipped line comment.1) (inr (bs, ap (λ x. x ∷ bs) (eqb-true b 35 comment.0)))
      | inr timed ↦ timed_says (b ∷ bs) line timed.1
    ]

-- What is said is computed.

level_read : (tick : ℕ) (target written : List ℕ) (value : ℤ) → IsName target → WritesSigned written value → level_of tick (before_space (target ++ 32 ∷ written)) (after_space (target ++ 32 ∷ written)) ≡ Some (Level tick target value)
level_read tick target written value name w =
    let s = signed_read written value w in
    let test : (ltb 0 (length target) && is_signed written) ≡ true = and_from (ltb 0 (length target)) (is_signed written) (lt-ltb 0 (length target) name.some) s.0 in
    ap (λ x. level_of tick x (after_space (target ++ 32 ∷ written))) (before_cut target written name.spaceless)
    ∙ ap (λ o. level_of tick target o) (after_cut target written name.spaceless)
    ∙ ap (λ t. cond t (Some (Level tick target (signed_value written))) None) test
    ∙ ap (λ z. Some (Level tick target z)) s.1

row_read : (tick : ℕ) (rest target : List ℕ) (value : ℤ) → SaysLevel rest target value → row_in tick rest ≡ Some (Level tick target value)
row_read tick rest target value h = ap (row_in tick) h.3 ∙ level_read tick target h.0 value h.1 h.2

timed_read : (digits rest target : List ℕ) (tick : ℕ) (value : ℤ) → WritesNumber digits tick → SaysLevel rest target value → line_in (digits ++ 32 ∷ rest) ≡ Some (Level tick target value)
unfolding line_in
timed_read [] rest target tick value w s = absurd (omega (arith, w.grammar.some))
timed_read (b ∷ bs) rest target tick value w s =
    let digits : List ℕ = b ∷ bs in
    let text : List ℕ = digits ++ 32 ∷ rest in
    let digit : IsDigit b = first_digit b bs w.grammar in
    let sp = digits_spaceless digits w.grammar in
    ap (λ t. cond t (Some Skipped) (timed_of (before_space text) (after_space text))) (ne_eqb b 35 (λ e. omega (arith, digit.0, e)))
    ∙ ap (λ x. timed_of x (after_space text)) (before_cut digits rest sp)
    ∙ ap (λ o. timed_of digits o) (after_cut digits rest sp)
    ∙ ap (λ t. cond t (row_in (value_of digits) rest) None) (number_read digits tick w)
    ∙ ap (λ n. row_in n rest) w.value
    ∙ row_read tick rest target value s

-- the line of a text is the one that is computed
pub line_read : (text : List ℕ) (line : Line) → IsLine text line → line_in text ≡ Some line
unfolding line_in
line_read text Skipped (inl e) = ap line_in e
line_read text Skipped (inr h) = ap line_in h.1
line_read text (Level tick target value) h = ap line_in h.4 ∙ timed_read h.0 h.1 target tick value h.2 h.3

-- a text is one line
pub one_line : (text : List ℕ) (l m : Line) → IsLine text l → IsLine text m → l ≡ m
one_line text l m h k = same_Some l m (sym (line_read text l h) ∙ line_read text m k)
