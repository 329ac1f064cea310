-- Words that are texts, one after the other.
use Rattle.std.proofs.Common.{◌≡◌, ℕ, suc, ◌+◌, ◌<◌, List, [], ◌∷◌, ◌++◌, length, take, get_or, map, All, refl, sym, ap, subst, ◌∙◌, arith, Bor}
use Rattle.std.proofs.lemmas.List.Elements.{All-nil, All-cons, All-append}
use Rattle.std.proofs.Math.Seq.{take-suc}

-- what holds of a front and of the next element holds of the longer front
pub one_more : {A : Type 0} (P : A → Type 0) (xs : List A) (i : ℕ) (x : A) → i < length xs → x ≡ get_or xs i x → P x → All P (take i xs) → All P (take (i + 1) xs)
one_more P xs i x h e p all =
    let n : i + 1 ≡ suc i = omega arith in
    let last : All P (get_or xs i x ∷ []) = All-cons P (get_or xs i x) [] (subst P e p) (All-nil P) in
    subst (λ m. All P (take m xs)) (sym n) (subst (λ l. All P l) (sym (take-suc xs i x h)) (All-append P (take i xs) (get_or xs i x ∷ []) all last))

-- the texts of a list with one more at its end
map_more : (ts : List (Bor (List ℕ))) (t : Bor (List ℕ)) → map (λ s. s.now) (ts ++ t ∷ []) ≡ map (λ s. s.now) ts ++ t.now ∷ []
map_more [] t = refl
map_more (u ∷ ts) t = ap (λ rest. u.now ∷ rest) (map_more ts t)

-- the texts of a front and of the next element are those of the longer front
pub same_more : (xs : List (List ℕ)) (i : ℕ) (x : List ℕ) (ts us : List (Bor (List ℕ))) (t : Bor (List ℕ)) → i < length xs → x ≡ get_or xs i x → t.now ≡ x → map (λ s. s.now) ts ≡ take i xs → us ≡ ts ++ t ∷ [] → map (λ s. s.now) us ≡ take (i + 1) xs
same_more xs i x ts us t h e same so is =
    let n : i + 1 ≡ suc i = omega arith in
    ap (map (λ s. s.now)) is
    ∙ map_more ts t
    ∙ ap (λ (l : List (List ℕ)). l ++ t.now ∷ []) so
    ∙ ap (λ y. take i xs ++ y ∷ []) (same ∙ e)
    ∙ sym (take-suc xs i x h)
    ∙ ap (λ m. take m xs) (sym n)
