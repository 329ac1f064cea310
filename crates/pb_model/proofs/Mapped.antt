-- A list that is filled place by place with the images of another.
use Rattle.std.proofs.Common.{◌≡◌, ℕ, ◌+◌, ◌<◌, ◌≤◌, List, [], ◌∷◌, ◌++◌, length, get_or, set, take, map, sym, ap, ◌∙◌, arith}
use Rattle.std.proofs.lemmas.List.{take_more, take_more_set, map-append, take_all}

-- one place further
pub take-map_more : {X Y : Type 0} (f : X → Y) (xs : List X) (ys : List Y) (i : ℕ) (y : Y) (d : X) → i < length xs → i < length ys → take i ys ≡ map f (take i xs) → y ≡ f (get_or xs i d) → take (i + 1) (set ys i y) ≡ map f (take (i + 1) xs)
take-map_more f xs ys i y d inside within so_far here =
    take_more_set ys i y within
    ∙ (ap (λ zs. zs ++ y ∷ []) so_far
    ∙ (ap (λ z. map f (take i xs) ++ z ∷ []) here
    ∙ (sym (map-append f (take i xs) (get_or xs i d ∷ []))
    ∙ ap (map f) (sym (take_more xs i d inside)))))

-- all places
pub take-map_all : {X Y : Type 0} (f : X → Y) (xs : List X) (ys : List Y) (n i : ℕ) → length xs ≡ n → length ys ≡ n → n ≤ i → i ≤ n → take i ys ≡ map f (take i xs) → ys ≡ map f xs
take-map_all f xs ys n i long same over within so_far =
    sym (take_all i ys (omega arith)) ∙ (so_far ∙ ap (map f) (take_all i xs (omega arith)))
