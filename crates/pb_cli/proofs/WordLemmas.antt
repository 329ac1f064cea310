-- The test of the first word.
use Rattle.std.proofs.Common.{◌≡◌, ℕ, ◌≤◌, Bool, true, List, [], ◌∷◌, length, get_or, slice_get, Option, Some, codes, nat_eq, sym, ap, ◌∙◌, arith}
use Rattle.std.specs.Option.{unwrap_or}
use Rattle.std.specs.Cmp.Lexicographic.{pointwise, bytes_decides}

pub first_word : (words : List (List ℕ)) (word seen text : List ℕ) (b : Bool) → 1 ≤ length words → word ≡ get_or words 0 word → seen ≡ word → text ≡ codes "serve" → b ≡ pointwise nat_eq seen text → (b ≡ true → slice_get words 0 ≡ Some (codes "serve")) × (slice_get words 0 ≡ Some (codes "serve") → b ≡ true)
first_word [] word seen text b some at same is e = absurd (omega (arith, some))
first_word (w ∷ words) word seen text b some at same is e = (
  λ yes.
      let read : seen ≡ text = (bytes_decides seen text).0 (sym e ∙ yes) in
      ap (λ (x : List ℕ). Some x) (sym at ∙ (sym same ∙ (read ∙ is))),
  λ named.
      let first : w ≡ codes "serve" = ap (λ (o : Option (List ℕ)). unwrap_or o []) named in
      e ∙ (bytes_decides seen text).1 (same ∙ (at ∙ (first ∙ sym is))),
)
