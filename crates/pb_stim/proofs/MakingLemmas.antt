-- A script is made point by point.
use Rattle.std.proofs.Common.{◌≡◌, ℕ, suc, ◌+◌, ◌/◌, ◌^◌, List, ◌++◌, sym, ap, subst, ◌∙◌, append_assoc, add-one}
use Rattle.pb_stim.specs.Making.{drawn_after, drawn, tick_of, settings, point, points}

-- what is drawn next
pub drawn_more : (seed n x y : ℕ) → x ≡ drawn seed n → y ≡ drawn_after x → y ≡ drawn seed (n + 1)
drawn_more seed n x y so_far next = subst (λ m. y ≡ drawn seed m) (sym (add-one n)) (next ∙ ap drawn_after so_far)

-- the tick of the next point
pub tick_more : (seed n tick y next : ℕ) → tick ≡ tick_of seed n → y ≡ drawn seed (n + 1) → next ≡ tick + 2 + y / 2 ^ 54 → next ≡ tick_of seed (n + 1)
tick_more seed n tick y next so_far drew is =
    let drew_is : y ≡ drawn seed (suc n) = subst (λ m. y ≡ drawn seed m) (add-one n) drew in
    subst (λ m. next ≡ tick_of seed m) (sym (add-one n)) (is ∙ (ap (λ t. t + 2 + y / 2 ^ 54) so_far ∙ ap (λ z. tick_of seed n + 2 + z / 2 ^ 54) drew_is))

-- and its rows
pub point_more : (seed n next : ℕ) (text new_text : List ℕ) → text ≡ settings ++ points seed n → next ≡ tick_of seed (n + 1) → new_text ≡ text ++ point next → new_text ≡ settings ++ points seed (n + 1)
point_more seed n next text new_text so_far at is =
    let at_is : next ≡ tick_of seed (suc n) = subst (λ m. next ≡ tick_of seed m) (add-one n) at in
    subst (λ m. new_text ≡ settings ++ points seed m) (sym (add-one n))
    (is ∙ (ap (λ t. t ++ point next) so_far ∙ (append_assoc settings (points seed n) (point next) ∙ ap (λ t. settings ++ (points seed n ++ point t)) at_is)))

-- one part and another
pub two_added : (first second third a b : List ℕ) → second ≡ first ++ a → third ≡ second ++ b → third ≡ first ++ (a ++ b)
two_added first second third a b e f = f ∙ (ap (λ t. t ++ b) e ∙ append_assoc first a b)
