-- The label at a place, where labels are references to texts.
use Rattle.std.proofs.Common.{◌≡◌, ◌≢◌, ℕ, ◌<◌, ◌≤◌, List, length, map, get_or, slice_get, Some, None, Bor, IsTrue, nat_le, ap, ◌∙◌, arith}
use Rattle.std.specs.List.{list_all}
use Rattle.std.specs.Option.{option_map}
use Rattle.std.proofs.lemmas.Option.{slice_get-map, slice_get-get_or, slice_get_past, slice_get_within}
use Rattle.std.proofs.lemmas.List.{length-map}
use Rattle.std.proofs.lemmas.List.Folds.{list_all_at}
use Rattle.std.proofs.lemmas.Bool.Decides.{nat_tests}

pub label_at : (xs : List (Bor (List ℕ))) (i : ℕ) (d : Bor (List ℕ)) → i < length xs → slice_get (map (λ s. s.now) xs) i ≡ Some (get_or xs i d).now
label_at xs i d h = slice_get-map (λ s. s.now) xs i ∙ ap (option_map (λ s. s.now)) (slice_get-get_or xs i d h)

pub label_past : (xs : List (Bor (List ℕ))) (i : ℕ) → length xs ≤ i → slice_get (map (λ s. s.now) xs) i ≡ None
label_past xs i h = slice_get-map (λ s. s.now) xs i ∙ ap (option_map (λ s. s.now)) (slice_get_past xs i h)

-- no label is the text where none below the length is
pub no_label : (xs : List (Bor (List ℕ))) (text : List ℕ) (n : ℕ) → length xs ≤ n → ((k : ℕ) → k < n → slice_get (map (λ s. s.now) xs) k ≢ Some text) → (i : ℕ) → slice_get (map (λ s. s.now) xs) i ≢ Some text
no_label xs text n e h i same = h i (omega (arith, slice_get_within (map (λ s. s.now) xs) i text same, length-map xs (λ s. s.now))) same

-- each label is short where the test says so
pub label_short : (xs : List (Bor (List ℕ))) (i : ℕ) (d : Bor (List ℕ)) → IsTrue (list_all (λ s. nat_le (length s.now) 64) xs) → i < length xs → length (get_or xs i d).now ≤ 64
label_short xs i d h k = let e = list_all_at (λ (s : Bor (List ℕ)). nat_le (length s.now) 64) xs i d k in grind (arith, nat_tests)

pub ruleset labels = (label_at, label_past, no_label, label_short)
