-- The delay line and the list of what was selected.
use Rattle.std.proofs.Common.{◌≡◌, ℕ, zero, suc, ◌+◌, ◌≤◌, Bool, false, List, [], ◌∷◌, ◌++◌, take, replicate, get_or, refl, ap, sym, ◌∙◌, arith, append_assoc}
use Rattle.std.proofs.lemmas.List.{get_or-take, replicate-append-replicate}
use Rattle.pb_buses.specs.Delay.{pushed, line_after}

take-take : (k m : ℕ) (xs : List Bool) → k ≤ m → take k (take m xs) ≡ take k xs
take-take zero m xs h = refl
take-take (suc k) zero xs h = absurd (omega arith)
take-take (suc k) (suc m) [] h = refl
take-take (suc k) (suc m) (x ∷ xs) h = ap (λ ys. x ∷ ys) (take-take k m xs (omega arith))

-- what is cut off later may be cut off before
take-through : (k m : ℕ) (xs ys : List Bool) → k ≤ m → take k (xs ++ take m ys) ≡ take k (xs ++ ys)
take-through k m [] ys h = take-take k m ys h
take-through zero m (x ∷ xs) ys h = refl
take-through (suc k) m (x ∷ xs) ys h = ap (λ zs. x ∷ zs) (take-through k m xs ys (omega arith))

past_kept :
    (k : ℕ) (xs past zeros : List Bool) → take k (xs ++ take k (past ++ zeros)) ≡ take k ((xs ++ past) ++ zeros)
past_kept k xs past zeros =
    take-through k k xs (past ++ zeros) (omega arith) ∙ ap (λ ys. take k ys) (sym (append_assoc xs past zeros))

false_beyond : (k i : ℕ) → get_or (replicate k false) i false ≡ false
false_beyond zero i = refl
false_beyond (suc k) zero = refl
false_beyond (suc k) (suc i) = false_beyond k i

padded : (past : List Bool) (k i : ℕ) → get_or (past ++ replicate k false) i false ≡ get_or past i false
padded [] k i = false_beyond k i
padded (x ∷ past) k zero = refl
padded (x ∷ past) k (suc i) = padded past k i

past_seen :
    (k : ℕ) (past : List Bool) (now : Bool) (d : ℕ) → d ≤ k →
    get_or (now ∷ take k (past ++ replicate k false)) d false ≡ get_or (now ∷ past) d false
past_seen k past now zero h = refl
past_seen k past now (suc d) h =
    get_or-take k (past ++ replicate k false) d false (omega arith) ∙ padded past k d

-- ticks at which the same is selected go on the list of what was selected
pub line_goes_on :
    (past : List Bool) (value : Bool) (ticks : ℕ) →
    pushed (line_after past) value ticks ≡ line_after (replicate ticks value ++ past)
unfolding pushed line_after
line_goes_on past value ticks = past_kept 31 (replicate ticks value) past (replicate 31 false)

-- an entry of the line is an entry of that list
pub line_shows :
    (past : List Bool) (now : Bool) (delay : ℕ) → delay ≤ 31 →
    get_or (now ∷ line_after past) delay false ≡ get_or (now ∷ past) delay false
unfolding line_after
line_shows past now delay h = past_seen 31 past now delay h

-- ticks in two parts are ticks
pub pushed-twice :
    (line : List Bool) (value : Bool) (m n : ℕ) → pushed (pushed line value m) value n ≡ pushed line value (n + m)
unfolding pushed
pushed-twice line value m n =
    past_kept 31 (replicate n value) (replicate m value) line
    ∙ ap (λ xs. take 31 (xs ++ line)) (replicate-append-replicate n m value)
