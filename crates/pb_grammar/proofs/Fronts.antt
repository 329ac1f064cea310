-- What stands after a front, and before an end.
use Rattle.std.proofs.Common.{◌≡◌, ◌≢◌, ◌-◌, ℕ, nat_eq, List, ◌++◌, length, take, drop, Option, Some, None, MatchOption, refl, sym, ap, ◌∙◌, arith, length-append, take-append-drop}
use Rattle.std.specs.Cmp.Lexicographic.{pointwise, bytes_decides}
use Rattle.std.proofs.lemmas.Bool.{cond_both, both_ways}
use Rattle.std.proofs.lemmas.List.{append_cancel_left, append_cancel_right}
use Rattle.std.proofs.Math.Seq.{take-append_seam, drop-append_seam}
use Rattle.pb_grammar.specs.Grammar.{after_front, before_end}

-- the text is the front and what follows it, or isn't so for any rest
abbrev pub Follows : List ℕ → List ℕ → Option (List ℕ) → Type 0
Follows front text found = MatchOption found ((rest : List ℕ) → text ≢ front ++ rest) (λ rest. text ≡ front ++ rest)

pub after_front_follows : (front text : List ℕ) → Follows front text (after_front front text)
after_front_follows front text =
    let n = length front in
    cond_both (pointwise nat_eq (take n text) front) (Some (drop n text)) None (Follows front text)
    (λ e. sym (take-append-drop n text) ∙ ap (λ t. t ++ drop n text) ((bytes_decides (take n text) front).0 e))
    (λ e. λ rest h.
    both_ways (pointwise nat_eq (take n text) front) e
    ((bytes_decides (take n text) front).1 (ap (take n) h ∙ take-append_seam front rest)))

-- what follows the front is found
found_rest : (front rest : List ℕ) (found : Option (List ℕ)) → Follows front (front ++ rest) found → found ≡ Some rest
found_rest front rest None h = absurd (h rest refl)
found_rest front rest (Some other) h = ap (λ t. Some t) (sym (append_cancel_left front rest other h))

pub after_front_of : (front rest : List ℕ) → after_front front (front ++ rest) ≡ Some rest
after_front_of front rest = found_rest front rest (after_front front (front ++ rest)) (after_front_follows front (front ++ rest))

-- the text is what stands before the end, and the end
abbrev pub Precedes : List ℕ → List ℕ → Option (List ℕ) → Type 0
Precedes end text found = MatchOption found ((rest : List ℕ) → text ≢ rest ++ end) (λ rest. text ≡ rest ++ end)

length_before : (rest end : List ℕ) → length (rest ++ end) - length end ≡ length rest
length_before rest end = omega (arith, length-append rest end)

pub before_end_precedes : (end text : List ℕ) → Precedes end text (before_end end text)
before_end_precedes end text =
    let n = length text - length end in
    cond_both (pointwise nat_eq (drop n text) end) (Some (take n text)) None (Precedes end text)
    (λ e. sym (take-append-drop n text) ∙ ap (λ t. take n text ++ t) ((bytes_decides (drop n text) end).0 e))
    (λ e. λ rest h.
    both_ways (pointwise nat_eq (drop n text) end) e
    ((bytes_decides (drop n text) end).1
    (ap (λ t. drop (length t - length end) t) h ∙ ap (λ k. drop k (rest ++ end)) (length_before rest end) ∙ drop-append_seam rest end)))

found_front : (rest end : List ℕ) (found : Option (List ℕ)) → Precedes end (rest ++ end) found → found ≡ Some rest
found_front rest end None h = absurd (h rest refl)
found_front rest end (Some other) h = ap (λ t. Some t) (sym (append_cancel_right rest other end h))

pub before_end_of : (rest end : List ℕ) → before_end end (rest ++ end) ≡ Some rest
before_end_of rest end = found_front rest end (before_end end (rest ++ end)) (before_end_precedes end (rest ++ end))
