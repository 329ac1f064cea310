-- Fronts of one list.
use Rattle.std.proofs.Common.{◌≤◌, List, [], ◌∷◌, length, refl, ap, arith, length-append}
use mathlib.Core.List.{IsPrefix}
pub use base.Growing.{prefix_refl, prefix_trans}

-- of two fronts of one list the shorter is a front of the longer
pub shorter_front : {E : Type 0} (xs ys log : List E) → IsPrefix xs log → IsPrefix ys log → length xs ≤ length ys → IsPrefix xs ys
shorter_front [] ys log p q le = (ys, refl)
shorter_front (x ∷ xs) [] log p q le = absurd (omega arith)
shorter_front (x ∷ xs) (y ∷ ys) [] p q le = absurd (cc p.1)
shorter_front (x ∷ xs) (y ∷ ys) (e ∷ log) p q le =
    let more = shorter_front xs ys log (p.0, cc p.1) (q.0, cc q.1) (omega arith) in (more.0, cc (p.1, q.1, more.1))

pub front_length : {E : Type 0} (xs log : List E) → IsPrefix xs log → length xs ≤ length log
front_length xs log p = omega (arith, ap length p.1, length-append xs p.0)
