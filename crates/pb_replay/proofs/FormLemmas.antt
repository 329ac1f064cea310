-- What the text of a line says, by printing and computed.
use Rattle.std.proofs.Common.{◌≡◌, ℕ, ◌⊎◌, Bool, true, false, cond, eqb, ltb, ◌&&◌, List, [], ◌∷◌, ◌++◌, length, get_or, refl, sym, ap, subst, ◌∙◌, inl, inr, arith, Option, Some, None, ℤ, pos, neg_ℤ, append-nil}
use Rattle.std.specs.Option.{option_map}
use Rattle.std.proofs.lemmas.Bool.{ne_eqb, eqb-true, and_parts, and_from, lt-ltb, ltb-true, false≢true}
use Rattle.std.proofs.lemmas.Option.{none-some, same_Some, cond_some}
use Rattle.pb_words.specs.Numbers.{IsDigit, IsUint, WritesNumber, value_of}
use Rattle.pb_words.specs.Signed.{is_uint}
use Rattle.pb_words.proofs.ComputedLemmas.{uint_decides}
use Rattle.pb_replay.specs.Script.{Deed, Line, Skipped, Timed, Level, Command, CloseControl, OpenData, Take, CloseData, End, WritesSigned, IsName, Follows, SendsText, Says, IsLine}
use Rattle.pb_replay.specs.Reading.{before_space, after_space, is_signed, signed_value, text_behind, level_of, named_by, sent_by, deed_by, deed_in, timed_of, line_in}
use Rattle.pb_replay.proofs.SpaceLemmas.{Spaceless, IsCut, Whole, Cut, cut_of, before_cut, after_cut, before_whole, after_whole}

-- Steps of a computed reading.

-- a test that lets through
guarded : {A : Type 0} (t : Bool) (o : Option A) (y : A) → cond t o None ≡ Some y → (t ≡ true) × (o ≡ Some y)
guarded true o y e = (refl, e)
guarded false o y e = absurd (none-some y e)

-- a value that is made from another
mapped : {A B : Type 0} (f : A → B) (o : Option A) (y : B) → option_map f o ≡ Some y → (x : A) × (o ≡ Some x) × (f x ≡ y)
mapped f None y e = absurd (none-some y e)
mapped f (Some x) y e = (x, refl, same_Some (f x) y e)

-- one of two ways
either_way : {A : Type 0} (t : Bool) (x y z : A) → cond t x y ≡ z → ((t ≡ true) × (x ≡ z)) ⊎ ((t ≡ false) × (y ≡ z))
either_way true x y z e = inl (refl, e)
either_way false x y z e = inr (refl, e)

-- Numbers.

-- digits write the number that is computed
pub number_is : (text : List ℕ) → is_uint text ≡ true → WritesNumber text (value_of text)
number_is text h = record { grammar = (uint_decides text).0 h; value = refl }

-- and a number that is written is computed
pub number_read : (text : List ℕ) (n : ℕ) → WritesNumber text n → is_uint text ≡ true
number_read text n w = (uint_decides text).1 w.grammar

-- digits have no space
pub digits_spaceless : (text : List ℕ) → IsUint text → Spaceless text
digits_spaceless text u = λ k d h e. let digit : IsDigit (get_or text k d) = u.digits k d h in omega (arith, digit.0, e)

-- digits begin with a digit
first_digit : (b : ℕ) (bs : List ℕ) → IsUint (b ∷ bs) → IsDigit b
first_digit b bs u = u.digits 0 0 (omega arith)

-- a number with a sign
pub signed_is : (text : List ℕ) → is_signed text ≡ true → WritesSigned text (signed_value text)
signed_is [] h = absurd (false≢true h)
signed_is (b ∷ bs) h = by_sign (eqb b 45) refl h
  where
    by_sign : (t : Bool) → eqb b 45 ≡ t → cond t (is_uint bs) (is_uint (b ∷ bs)) ≡ true → WritesSigned (b ∷ bs) (cond t (neg_ℤ (pos (value_of bs))) (pos (value_of (b ∷ bs))))
    by_sign true e u = record { digits = bs; size = value_of bs; number = number_is bs u; signed = inr (ap (λ x. x ∷ bs) (eqb-true b 45 e), refl) }
    by_sign false e u = record { digits = b ∷ bs; size = value_of (b ∷ bs); number = number_is (b ∷ bs) u; signed = inl (refl, refl) }

plain_read : (text : List ℕ) (n : ℕ) → WritesNumber text n → (is_signed text ≡ true) × (signed_value text ≡ pos n)
plain_read [] n w = absurd (omega (arith, w.grammar.some))
plain_read (b ∷ bs) n w =
    let digit : IsDigit b = first_digit b bs w.grammar in
    let other : eqb b 45 ≡ false = ne_eqb b 45 (λ e. omega (arith, digit.0, e)) in
    (ap (λ t. cond t (is_uint bs) (is_uint (b ∷ bs))) other ∙ number_read (b ∷ bs) n w, ap (λ t. cond t (neg_ℤ (pos (value_of bs))) (pos (value_of (b ∷ bs)))) other ∙ ap pos w.value)

pub signed_read : (text : List ℕ) (value : ℤ) → WritesSigned text value → (is_signed text ≡ true) × (signed_value text ≡ value)
signed_read text value w =
    elim w.signed [
      | inl p ↦
          let r = plain_read w.digits w.size w.number in
          (subst (λ t. is_signed t ≡ true) (sym p.0) r.0, ap signed_value p.0 ∙ (r.1 ∙ sym p.1))
      | inr m ↦
          (subst (λ t. is_signed t ≡ true) (sym m.0) (number_read w.digits w.size w.number), ap signed_value m.0 ∙ (ap (λ n. neg_ℤ (pos n)) w.number.value ∙ sym m.1))
    ]

-- What is computed is said.

level_says : (rest : List ℕ) (deed : Deed) → level_of (before_space rest) (after_space rest) ≡ Some deed → Says (83 ∷ 32 ∷ rest) deed
level_says rest deed e = by_cut (cut_of rest)
  where
    by_cut : IsCut rest → Says (83 ∷ 32 ∷ rest) deed
    by_cut (Whole h) = absurd (none-some deed (subst (λ o. level_of (before_space rest) o ≡ Some deed) (after_whole rest h) e))
    by_cut (Cut front written h cut) =
        let front_is : before_space rest ≡ front = ap before_space cut ∙ before_cut front written h in
        let behind_is : after_space rest ≡ Some written = ap after_space cut ∙ after_cut front written h in
        let found : level_of front (Some written) ≡ Some deed = ap (λ o. level_of front o) (sym behind_is) ∙ (ap (λ x. level_of x (after_space rest)) (sym front_is) ∙ e) in
        let both = cond_some (ltb 0 (length front) && is_signed written) (Level front (signed_value written)) deed found in
        let parts = and_parts (ltb 0 (length front)) (is_signed written) both.0 in
        let name : IsName front = record { some = ltb-true 0 (length front) parts.0; spaceless = h } in
        subst (Says (83 ∷ 32 ∷ rest)) both.1 (written, name, signed_is written parts.1, ap (λ r. 83 ∷ 32 ∷ r) cut)

-- the number of a session alone
named_is : (make : ℕ → Deed) (rest : List ℕ) (deed : Deed) → named_by make rest ≡ Some deed → WritesNumber rest (value_of rest) × (make (value_of rest) ≡ deed)
named_is make rest deed e = let both = cond_some (is_uint rest) (make (value_of rest)) deed e in (number_is rest both.0, both.1)

-- the number of a session, and perhaps a text
sent_is : (letter : ℕ) (make : ℕ → List ℕ → Deed) (rest : List ℕ) (deed : Deed) → sent_by make rest ≡ Some deed
    → (n : ℕ) × (text : List ℕ) × SendsText (letter ∷ 32 ∷ rest) (letter ∷ []) n text × (make n text ≡ deed)
sent_is letter make rest deed e = by_cut (cut_of rest)
  where
    both : (is_uint (before_space rest) ≡ true) × (make (value_of (before_space rest)) (text_behind (after_space rest)) ≡ deed)
    both = cond_some (is_uint (before_space rest)) (make (value_of (before_space rest)) (text_behind (after_space rest))) deed e

    by_cut : IsCut rest → (n : ℕ) × (text : List ℕ) × SendsText (letter ∷ 32 ∷ rest) (letter ∷ []) n text × (make n text ≡ deed)
    by_cut (Whole h) =
        let number : WritesNumber rest (value_of rest) = number_is rest (subst (λ x. is_uint x ≡ true) (before_whole rest h) both.0) in
        let made : make (value_of rest) [] ≡ deed = ap (λ o. make (value_of rest) (text_behind o)) (sym (after_whole rest h)) ∙ (ap (λ x. make (value_of x) (text_behind (after_space rest))) (sym (before_whole rest h)) ∙ both.1) in
        (value_of rest, [], (rest, [], number, inl (refl, refl), ap (λ r. letter ∷ 32 ∷ r) (sym (append-nil rest))), made)
    by_cut (Cut front text h cut) =
        let front_is : before_space rest ≡ front = ap before_space cut ∙ before_cut front text h in
        let behind_is : after_space rest ≡ Some text = ap after_space cut ∙ after_cut front text h in
        let number : WritesNumber front (value_of front) = number_is front (subst (λ x. is_uint x ≡ true) front_is both.0) in
        let made : make (value_of front) text ≡ deed = ap (λ o. make (value_of front) (text_behind o)) (sym behind_is) ∙ (ap (λ x. make (value_of x) (text_behind (after_space rest))) (sym front_is) ∙ both.1) in
        (value_of front, text, (front, 32 ∷ text, number, inr refl, ap (λ r. letter ∷ 32 ∷ r) cut), made)

letter_says : (letter : ℕ) (rest : List ℕ) (deed : Deed) → deed_by letter rest ≡ Some deed → Says (letter ∷ 32 ∷ rest) deed
letter_says letter rest deed e =
    elim (either_way (eqb letter 83) _ _ _ e) [
      | inl s ↦ subst (λ l. Says (l ∷ 32 ∷ rest) deed) (sym (eqb-true letter 83 s.0)) (level_says rest deed s.1)
      | inr e1 ↦ elim (either_way (eqb letter 67) _ _ _ e1.1) [
        | inl s ↦ let r = sent_is 67 Command rest deed s.1 in subst (λ l. Says (l ∷ 32 ∷ rest) deed) (sym (eqb-true letter 67 s.0)) (subst (Says (67 ∷ 32 ∷ rest)) r.3 r.2)
        | inr e2 ↦ elim (either_way (eqb letter 88) _ _ _ e2.1) [
          | inl s ↦ let r = named_is CloseControl rest deed s.1 in subst (λ l. Says (l ∷ 32 ∷ rest) deed) (sym (eqb-true letter 88 s.0)) (subst (Says (88 ∷ 32 ∷ rest)) r.1 (rest, r.0, refl))
          | inr e3 ↦ elim (either_way (eqb letter 68) _ _ _ e3.1) [
            | inl s ↦ let r = sent_is 68 OpenData rest deed s.1 in subst (λ l. Says (l ∷ 32 ∷ rest) deed) (sym (eqb-true letter 68 s.0)) (subst (Says (68 ∷ 32 ∷ rest)) r.3 r.2)
            | inr e4 ↦ elim (either_way (eqb letter 82) _ _ _ e4.1) [
              | inl s ↦ let r = named_is Take rest deed s.1 in subst (λ l. Says (l ∷ 32 ∷ rest) deed) (sym (eqb-true letter 82 s.0)) (subst (Says (82 ∷ 32 ∷ rest)) r.1 (rest, r.0, refl))
              | inr e5 ↦ elim (either_way (eqb letter 89) _ _ _ e5.1) [
                | inl s ↦ let r = named_is CloseData rest deed s.1 in subst (λ l. Says (l ∷ 32 ∷ rest) deed) (sym (eqb-true letter 89 s.0)) (subst (Says (89 ∷ 32 ∷ rest)) r.1 (rest, r.0, refl))
                | inr none ↦ absurd (none-some deed none.1)
              ]
            ]
          ]
        ]
      ]
    ]

pub deed_says : (rest : List ℕ) (deed : Deed) → deed_in rest ≡ Some deed → Says rest deed
deed_says [] deed e = absurd (none-some deed e)
deed_says (letter ∷ []) deed e =
    let both = guarded (eqb letter 69) (Some End) deed e in
    subst (Says (letter ∷ [])) (same_Some End deed both.1) (ap (λ l. l ∷ []) (eqb-true letter 69 both.0))
deed_says (letter ∷ space ∷ rest) deed e =
    let both = guarded (eqb space 32) (deed_by letter rest) deed e in
    subst (λ s. Says (letter ∷ s ∷ rest) deed) (sym (eqb-true space 32 both.0)) (letter_says letter rest deed both.1)

timed_says : (text : List ℕ) (line : Line) → timed_of (before_space text) (after_space text) ≡ Some line → IsLine text line
timed_says text line e = by_cut (cut_of text)
  where
    by_cut : IsCut text → IsLine text line
    by_cut (Whole h) = absurd (none-some line (subst (λ o. timed_of (before_space text) o ≡ Some line) (after_whole text h) e))
    by_cut (Cut digits rest h cut) =
        let front_is : before_space text ≡ digits = ap before_space cut ∙ before_cut digits rest h in
        let behind_is : after_space text ≡ Some rest = ap after_space cut ∙ after_cut digits rest h in
        let found : timed_of digits (Some rest) ≡ Some line = ap (λ o. timed_of digits o) (sym behind_is) ∙ (ap (λ x. timed_of x (after_space text)) (sym front_is) ∙ e) in
        let both = guarded (is_uint digits) (option_map (Timed (value_of digits)) (deed_in rest)) line found in
        let deed = mapped (Timed (value_of digits)) (deed_in rest) line both.1 in
        subst (IsLine text) deed.2 (digits, rest, number_is digits both.0, deed_says rest deed.0 deed.1, cut)

-- the line that is computed is the text's
pub line_says : (text : List ℕ) (line : Line) → line_in text ≡ Some line → IsLine text line
unfolding line_in
line_says [] line e = subst (IsLine []) (same_Some Skipped line e) (inl refl)
line_says (b ∷ bs) line e =
    elim (either_way (eqb b 35) _ _ _ e) [
      | inl comment ↦ subst (IsLine (b ∷ bs)) (same_Some Skipped line comment.1) (inr (bs, ap (λ x. x ∷ bs) (eqb-true b 35 comment.0)))
      | inr timed ↦ timed_says (b ∷ bs) line timed.1
    ]

-- What is said is computed.

level_read : (target written : List ℕ) (value : ℤ) → IsName target → WritesSigned written value → level_of (before_space (target ++ 32 ∷ written)) (after_space (target ++ 32 ∷ written)) ≡ Some (Level target value)
level_read target written value name w =
    let s = signed_read written value w in
    let test : (ltb 0 (length target) && is_signed written) ≡ true = and_from (ltb 0 (length target)) (is_signed written) (lt-ltb 0 (length target) name.some) s.0 in
    ap (λ x. level_of x (after_space (target ++ 32 ∷ written))) (before_cut target written name.spaceless)
    ∙ ap (λ o. level_of target o) (after_cut target written name.spaceless)
    ∙ ap (λ t. cond t (Some (Level target (signed_value written))) None) test
    ∙ ap (λ z. Some (Level target z)) s.1

named_read : (make : ℕ → Deed) (digits : List ℕ) (n : ℕ) → WritesNumber digits n → named_by make digits ≡ Some (make n)
named_read make digits n w = ap (λ t. cond t (Some (make (value_of digits))) None) (number_read digits n w) ∙ ap (λ m. Some (make m)) w.value

sent_read : (make : ℕ → List ℕ → Deed) (digits more text : List ℕ) (n : ℕ) → WritesNumber digits n → Follows more text → sent_by make (digits ++ more) ≡ Some (make n text)
sent_read make digits more text n w (inl none) =
    let sp = digits_spaceless digits w.grammar in
    ap (λ m. sent_by make (digits ++ m)) none.0
    ∙ ap (sent_by make) (append-nil digits)
    ∙ ap (λ x. cond (is_uint x) (Some (make (value_of x) (text_behind (after_space digits)))) None) (before_whole digits sp)
    ∙ ap (λ o. cond (is_uint digits) (Some (make (value_of digits) (text_behind o))) None) (after_whole digits sp)
    ∙ ap (λ t. cond t (Some (make (value_of digits) [])) None) (number_read digits n w)
    ∙ ap (λ m. Some (make m [])) w.value
    ∙ ap (λ t. Some (make n t)) (sym none.1)
sent_read make digits more text n w (inr some) =
    let sp = digits_spaceless digits w.grammar in
    let all : List ℕ = digits ++ 32 ∷ text in
    ap (λ m. sent_by make (digits ++ m)) some
    ∙ ap (λ x. cond (is_uint x) (Some (make (value_of x) (text_behind (after_space all)))) None) (before_cut digits text sp)
    ∙ ap (λ o. cond (is_uint digits) (Some (make (value_of digits) (text_behind o))) None) (after_cut digits text sp)
    ∙ ap (λ t. cond t (Some (make (value_of digits) text)) None) (number_read digits n w)
    ∙ ap (λ m. Some (make m text)) w.value

pub deed_read : (rest : List ℕ) (deed : Deed) → Says rest deed → deed_in rest ≡ Some deed
deed_read rest (Level target value) h = ap deed_in h.3 ∙ level_read target h.0 value h.1 h.2
deed_read rest (Command session text) h = ap deed_in h.4 ∙ sent_read Command h.0 h.1 text session h.2 h.3
deed_read rest (CloseControl session) h = ap deed_in h.2 ∙ named_read CloseControl h.0 session h.1
deed_read rest (OpenData session options) h = ap deed_in h.4 ∙ sent_read OpenData h.0 h.1 options session h.2 h.3
deed_read rest (Take session) h = ap deed_in h.2 ∙ named_read Take h.0 session h.1
deed_read rest (CloseData session) h = ap deed_in h.2 ∙ named_read CloseData h.0 session h.1
deed_read rest End h = ap deed_in h

timed_read : (digits rest : List ℕ) (tick : ℕ) (deed : Deed) → WritesNumber digits tick → Says rest deed → line_in (digits ++ 32 ∷ rest) ≡ Some (Timed tick deed)
unfolding line_in
timed_read [] rest tick deed w s = absurd (omega (arith, w.grammar.some))
timed_read (b ∷ bs) rest tick deed w s =
    let digits : List ℕ = b ∷ bs in
    let text : List ℕ = digits ++ 32 ∷ rest in
    let digit : IsDigit b = first_digit b bs w.grammar in
    let sp = digits_spaceless digits w.grammar in
    ap (λ t. cond t (Some Skipped) (timed_of (before_space text) (after_space text))) (ne_eqb b 35 (λ e. omega (arith, digit.0, e)))
    ∙ ap (λ x. timed_of x (after_space text)) (before_cut digits rest sp)
    ∙ ap (λ o. timed_of digits o) (after_cut digits rest sp)
    ∙ ap (λ t. cond t (option_map (Timed (value_of digits)) (deed_in rest)) None) (number_read digits tick w)
    ∙ ap (λ o. option_map (Timed (value_of digits)) o) (deed_read rest deed s)
    ∙ ap (λ n. Some (Timed n deed)) w.value

-- the line of a text is the one that is computed
pub line_read : (text : List ℕ) (line : Line) → IsLine text line → line_in text ≡ Some line
unfolding line_in
line_read text Skipped (inl e) = ap line_in e
line_read text Skipped (inr h) = ap line_in h.1
line_read text (Timed tick deed) h = ap line_in h.4 ∙ timed_read h.0 h.1 tick deed h.2 h.3

-- a text is one line
pub one_line : (text : List ℕ) (l m : Line) → IsLine text l → IsLine text m → l ≡ m
one_line text l m h k = same_Some l m (sym (line_read text l h) ∙ line_read text m k)
