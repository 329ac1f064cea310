-- What is taken of an input has a bound.
use Rattle.std.proofs.Common.{◌≡◌, ℕ, ◌≤◌, List, [], ◌++◌, length, Option, Some, None, refl, sym, ap, subst, ◌∙◌, arith}
use Rattle.std.proofs.lemmas.List.{append_assoc}
use Rattle.pb_ports.specs.Ports.{Takes}
use Rattle.panda_sim.specs.Run.{TakesUpToOnePieceMore}

-- nothing is taken
takes_nothing : (given left : Option (List ℕ)) → left ≡ given → Takes given [] left
takes_nothing None left e = e
takes_nothing (Some bytes) left e = (bytes, refl, e)

-- one part, and then another
takes_twice : (given mid left : Option (List ℕ)) (a b : List ℕ) → Takes given a mid → Takes mid b left → Takes given (a ++ b) left
takes_twice None None left a b h k = k
takes_twice None (Some more) left a b h k = cc
takes_twice (Some bytes) None left a b h k = let none : None ≡ Some h.0 = h.2 in cc
takes_twice (Some bytes) (Some more) left a b h k =
    let same : more ≡ h.0 = let e = h.2 in cc in
    (k.0, h.1 ∙ (ap (λ x. a ++ x) (sym same ∙ k.1) ∙ sym (append_assoc a b k.0)), k.2)

-- all that is held after one part more
pub takes_more : (given mid left : Option (List ℕ)) (held part all : List ℕ) → Takes given held mid → Takes mid part left → all ≡ held ++ part → Takes given all left
takes_more given mid left held part all h k e = subst (λ bytes. Takes given bytes left) (sym e) (takes_twice given mid left held part h k)

-- an input that isn't read
pub bounded_at_first : (given left : Option (List ℕ)) → left ≡ given → TakesUpToOnePieceMore given left
bounded_at_first given left e = record { held = []; piece = []; taken = takes_nothing given left e; fits = omega arith; small = omega arith }

-- a piece that is read while no more than a script is held
pub bounded_more : (given mid left : Option (List ℕ)) (held piece : List ℕ) → Takes given held mid → Takes mid piece left → length held ≤ 16777216 → length piece ≤ 16384 → TakesUpToOnePieceMore given left
bounded_more given mid left held piece h k fits size =
    record { held = held; piece = piece; taken = takes_twice given mid left held piece h k; fits = fits; small = size }
