-- The test of the one word of the program.
use Rattle.std.proofs.Common.{◌≡◌, ℕ, ◌<◌, ◌≤◌, Bool, true, List, [], ◌∷◌, length, get_or, codes, nat_eq, sym, ap, ◌∙◌, arith}
use Rattle.std.specs.Cmp.Lexicographic.{pointwise, bytes_decides}

pub one_word : (words : List (List ℕ)) (word seen text : List ℕ) (b : Bool) → 1 ≤ length words → length words < 2 → word ≡ get_or words 0 word → seen ≡ word → text ≡ codes "replay" → b ≡ pointwise nat_eq seen text → (b ≡ true → words ≡ codes "replay" ∷ []) × (words ≡ codes "replay" ∷ [] → b ≡ true)
one_word [] word seen text b some few at same is e = absurd (omega arith)
one_word (w ∷ []) word seen text b some few at same is e = (
  λ yes.
      let read : seen ≡ text = (bytes_decides seen text).0 (sym e ∙ yes) in
      ap (λ x. x ∷ []) (sym at ∙ (sym same ∙ (read ∙ is))),
  λ all.
      let first : w ≡ codes "replay" = ap (λ x. get_or x 0 []) all in
      e ∙ (bytes_decides seen text).1 (same ∙ (at ∙ (first ∙ sym is))),
)
one_word (w ∷ v ∷ words) word seen text b some few at same is e = absurd (omega arith)
