-- The lines of a list, one after the other.
use Rattle.std.proofs.Common.{◌≡◌, ℕ, ◌+◌, ◌<◌, ◌≤◌, List, [], ◌++◌, length, get_or, take, ap, sym, ◌∙◌, append_assoc}
use Rattle.std.specs.List.{flat_map}
use Rattle.std.proofs.lemmas.List.{take_more, take_all, flat_map_more}
use Rattle.std.proofs.lemmas.Grind.{flat_map-append}
use Rattle.pb_replies.specs.Replies.{listed}

-- a text with so many of the lines after it
abbrev pub after : List ℕ → List (List ℕ) → ℕ → List ℕ
after front lines n = front ++ flat_map listed (take n lines)

-- one line more
pub one_more : (front : List ℕ) (lines : List (List ℕ)) (n : ℕ) (text line : List ℕ) → n < length lines → line ≡ get_or lines n [] → text ≡ after front lines n → text ++ listed line ≡ after front lines (n + 1)
one_more front lines n text line within here so_far =
    ap (λ t. t ++ listed line) so_far
    ∙ (ap (λ l. after front lines n ++ listed l) here
    ∙ (flat_map_more listed front (take n lines) (get_or lines n [])
    ∙ ap (λ ls. front ++ flat_map listed ls) (sym (take_more lines n [] within))))

-- all lines
pub all_lines : (front : List ℕ) (lines : List (List ℕ)) (n : ℕ) → length lines ≤ n → after front lines n ≡ front ++ flat_map listed lines
all_lines front lines n all = ap (λ ls. front ++ flat_map listed ls) (take_all n lines all)

-- the lines of two lists
pub two_lists : (front text : List ℕ) (xs ys zs : List (List ℕ)) → text ≡ front ++ flat_map listed xs → xs ++ ys ≡ zs → text ++ flat_map listed ys ≡ front ++ flat_map listed zs
two_lists front text xs ys zs so_far both =
    ap (λ t. t ++ flat_map listed ys) so_far
    ∙ (append_assoc front (flat_map listed xs) (flat_map listed ys)
    ∙ (ap (λ t. front ++ t) (sym (flat_map-append listed xs ys))
    ∙ ap (λ ls. front ++ flat_map listed ls) both))
