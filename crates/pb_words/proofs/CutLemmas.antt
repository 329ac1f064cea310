-- Digits and what follows them, and a text written over the front of another.
use Rattle.std.proofs.Common.{◌≡◌, ◌≢◌, ◌∙◌, ℕ, ◌+◌, ◌<◌, ◌≤◌, ◌==◌, nat_eq, not, cond, List, [], ◌∷◌, ◌++◌, length, get_or, take, drop, All, refl, sym, ap, subst, arith, append_assoc, append-nil, add-one, drop-cons, length-append}
use Rattle.std.proofs.lemmas.List.{set_at}
use Rattle.std.proofs.Math.ListN.{set}
use Rattle.std.proofs.lemmas.List.Elements.{All-head, All-tail, filter_more}
use Rattle.std.proofs.lemmas.Bool.{ne_eqb}
use Rattle.pb_words.specs.Numbers.{IsDigit}
use Rattle.pb_words.specs.Cuts.{BeginsNoDigit, without_spaces}

-- digits and what follows them are cut in one way
pub digits_cut_once : (w w' r r' : List ℕ) → All IsDigit w → All IsDigit w' → BeginsNoDigit r → BeginsNoDigit r' → w ++ r ≡ w' ++ r' → (w ≡ w') × (r ≡ r')
digits_cut_once [] [] r r' a a' n n' e = (refl, e)
digits_cut_once [] (b ∷ w') r r' a a' n n' e =
    absurd (subst BeginsNoDigit e n (All-head IsDigit b w' a'))
digits_cut_once (b ∷ w) [] r r' a a' n n' e =
    absurd (subst BeginsNoDigit (sym e) n' (All-head IsDigit b w a))
digits_cut_once (b ∷ w) (b' ∷ w') r r' a a' n n' e =
    let head : b ≡ b' = cc in
    let tail : w ++ r ≡ w' ++ r' = cc in
    let same = digits_cut_once w w' r r' (All-tail IsDigit b w a) (All-tail IsDigit b' w' a') n n' tail in
    (ap (λ x. x ∷ w) head ∙ ap (λ ws. b' ∷ ws) same.0, same.1)

-- one more byte over the front
written_over : (front out old : List ℕ) (n b : ℕ) → out ≡ front ++ drop n old → n ≡ length front → n < length old → set out n b ≡ (front ++ b ∷ []) ++ drop (n + 1) old
written_over front out old n b e same h =
    let next : drop n old ≡ get_or old n 0 ∷ drop (n + 1) old = rw (add-one, drop-cons old n 0) refl in
    ap (λ text. set text n b) (e ∙ ap (λ text. front ++ text) next)
    ∙ set_at front (get_or old n 0) (drop (n + 1) old) b n (sym same) ∙ sym (append_assoc front (b ∷ []) (drop (n + 1) old))

-- the first i bytes of the text, without their spaces, stand in the first n places of what was old
pub record Bare (text old out : List ℕ) (n i : ℕ) : Type 0 where
  pub behind : n ≤ i
  pub len : n ≡ length (without_spaces (take i text))
  pub written : out ≡ without_spaces (take i text) ++ drop n old

-- one more byte that is no space
pub bare_kept : (text old out : List ℕ) (n i : ℕ) → i < length text → length text ≤ length old → get_or text i 0 ≢ 32 → Bare text old out n i → Bare text old (set out n (get_or text i 0)) (n + 1) (i + 1)
bare_kept text old out n i h room other r =
    let b = get_or text i 0 in
    let more : without_spaces (take (i + 1) text) ≡ without_spaces (take i text) ++ b ∷ [] = filter_more (λ b. not (b == 32)) text i 0 h ∙ ap (λ t. without_spaces (take i text) ++ cond (not t) (b ∷ []) []) (ne_eqb b 32 other) in
    record {
      behind = omega (arith, r.behind);
      len = omega (arith, r.len, ap length more, length-append (without_spaces (take i text)) (b ∷ []));
      written = written_over (without_spaces (take i text)) out old n b r.written r.len (omega (arith, r.behind)) ∙ ap (λ x. x ++ drop (n + 1) old) (sym more);
    }

-- one more space
pub bare_skipped : (text old out : List ℕ) (n i : ℕ) → i < length text → get_or text i 0 ≡ 32 → Bare text old out n i → Bare text old out n (i + 1)
bare_skipped text old out n i h space r =
    let b = get_or text i 0 in
    let same : without_spaces (take (i + 1) text) ≡ without_spaces (take i text) = filter_more (λ b. not (b == 32)) text i 0 h ∙ ap (λ t. without_spaces (take i text) ++ cond (not (nat_eq t 32)) (t ∷ []) []) space ∙ append-nil (without_spaces (take i text)) in
    record {
      behind = omega (arith, r.behind);
      len = r.len ∙ ap length (sym same);
      written = r.written ∙ ap (λ x. x ++ drop n old) (sym same);
    }
