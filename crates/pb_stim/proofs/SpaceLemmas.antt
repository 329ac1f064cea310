-- A text is cut at its first space in one way.
use Rattle.std.proofs.Common.{◌≡◌, ◌≢◌, ℕ, ◌+◌, ◌<◌, Bool, true, false, cond, not, eqb, ltb, List, [], ◌∷◌, ◌++◌, length, take, drop, All, refl, ap, ◌∙◌, arith, Option, Some, None, length-append}
use Rattle.std.specs.List.{position_or_len}
use Rattle.std.specs.Option.{option_map}
use Rattle.std.proofs.lemmas.Bool.{ne_eqb, eqb-true, eqb-false, lt-ltb, le-ltb}
use Rattle.std.proofs.lemmas.List.Elements.{All-head, All-tail, All-nil, All-cons}
use Rattle.std.proofs.Math.Seq.{take-append_seam, drop-append-add, take-length}
use Rattle.pb_stim.specs.Texts.{is_space, before_space, after_space}

-- no byte is a space
abbrev pub Spaceless : List ℕ → Type 0
Spaceless text = All (λ b. b ≢ 32) text

-- a text put together again
abbrev pub rejoined : List ℕ → Option (List ℕ) → List ℕ
rejoined front None = front
rejoined front (Some rest) = front ++ 32 ∷ rest

-- the first space stands right after a front without any
first_after : (xs ys : List ℕ) → Spaceless xs → position_or_len is_space (xs ++ 32 ∷ ys) ≡ length xs
first_after [] ys h = refl
first_after (x ∷ xs) ys h =
    ap (λ t. cond (not t) (1 + position_or_len is_space (xs ++ 32 ∷ ys)) 0) (ne_eqb x 32 (All-head (λ b. b ≢ 32) x xs h))
    ∙ ap (λ n. 1 + n) (first_after xs ys (All-tail (λ b. b ≢ 32) x xs h))
    ∙ omega arith

first_none : (xs : List ℕ) → Spaceless xs → position_or_len is_space xs ≡ length xs
first_none [] h = refl
first_none (x ∷ xs) h =
    ap (λ t. cond (not t) (1 + position_or_len is_space xs) 0) (ne_eqb x 32 (All-head (λ b. b ≢ 32) x xs h))
    ∙ ap (λ n. 1 + n) (first_none xs (All-tail (λ b. b ≢ 32) x xs h))
    ∙ omega arith

pub before_cut : (xs ys : List ℕ) → Spaceless xs → before_space (xs ++ 32 ∷ ys) ≡ xs
before_cut xs ys h = ap (λ n. take n (xs ++ 32 ∷ ys)) (first_after xs ys h) ∙ take-append_seam xs (32 ∷ ys)

pub after_cut : (xs ys : List ℕ) → Spaceless xs → after_space (xs ++ 32 ∷ ys) ≡ Some ys
after_cut xs ys h =
    let text : List ℕ = xs ++ 32 ∷ ys in
    let within : length xs < length text = omega (arith, length-append xs (32 ∷ ys)) in
    ap (λ n. option_map (λ i. drop (i + 1) text) (cond {A = Option ℕ} (ltb n (length text)) (Some n) None)) (first_after xs ys h)
    ∙ ap (λ t. option_map (λ i. drop (i + 1) text) (cond {A = Option ℕ} t (Some (length xs)) None)) (lt-ltb (length xs) (length text) within)
    ∙ ap (λ (l : List ℕ). Some l) (drop-append-add xs (32 ∷ ys) 1)

pub before_whole : (xs : List ℕ) → Spaceless xs → before_space xs ≡ xs
before_whole xs h = ap (λ n. take n xs) (first_none xs h) ∙ take-length xs

pub after_whole : (xs : List ℕ) → Spaceless xs → after_space xs ≡ None
after_whole xs h =
    ap (λ n. option_map (λ i. drop (i + 1) xs) (cond {A = Option ℕ} (ltb n (length xs)) (Some n) None)) (first_none xs h)
    ∙ ap (λ t. option_map (λ i. drop (i + 1) xs) (cond {A = Option ℕ} t (Some (length xs)) None)) (le-ltb (length xs) (length xs) (omega arith))

-- Every text is cut in this way.
pub data IsCut (text : List ℕ) : Type 0 where
  Whole : Spaceless text → IsCut text
  Cut : (front rest : List ℕ) → Spaceless front → text ≡ front ++ 32 ∷ rest → IsCut text

pub cut_of : (text : List ℕ) → IsCut text
cut_of [] = Whole (All-nil (λ b. b ≢ 32))
cut_of (b ∷ bs) = by_byte (eqb b 32) refl (cut_of bs)
  where
    put : IsCut bs → (b ≢ 32) → IsCut (b ∷ bs)
    put (Whole h) other = Whole (All-cons (λ x. x ≢ 32) b bs other h)
    put (Cut front rest h e) other = Cut (b ∷ front) rest (All-cons (λ x. x ≢ 32) b front other h) (ap (λ t. b ∷ t) e)

    by_byte : (t : Bool) → eqb b 32 ≡ t → IsCut bs → IsCut (b ∷ bs)
    by_byte true e more = Cut [] bs (All-nil (λ x. x ≢ 32)) (ap (λ x. x ∷ bs) (eqb-true b 32 e))
    by_byte false e more = put more (eqb-false b 32 e)
