-- Lines that open a body: they are computed.
use Rattle.std.proofs.Common.{◌≡◌, ℕ, ◌<◌, ◌≤◌, nat_eq, nat_le, Bool, true, false, cond, not, List, [], ◌∷◌, ◌++◌, length, take, drop, position, suc, zero, codes, Option, Some, None, MatchOption, refl, sym, ap, subst, ◌∙◌, arith, take-append-drop, get_or}
use Rattle.std.specs.List.{list_all}
use Rattle.std.specs.Option.{option_and_then}
use Rattle.std.specs.Cmp.Lexicographic.{pointwise, bytes_decides}
use Rattle.std.proofs.lemmas.Bool.{cond_both, and_parts, and_from, leb-true, le-leb, not_from_false}
use Rattle.std.proofs.lemmas.List.Quantifiers.{position-Some}
use Rattle.std.proofs.Math.Seq.{take-append_seam, drop-append_seam}
use Rattle.pb_grammar.specs.Grammar.{IsSound, Opening, Opens, is_deciding, is_printable, is_sound, longest, opening_at, opening_in, opening_text, sign_of}
use Rattle.pb_grammar.proofs.Sayings.{position-after}

-- what stands before the first that passes
pub none_before : {X : Type 0} (p : X → Bool) (xs : List X) (n : ℕ) → n ≤ length xs → ((k : ℕ) (d : X) → k < n → p (get_or xs k d) ≡ false) → list_all (λ x. not (p x)) (take n xs) ≡ true
none_before p [] zero w h = refl
none_before p [] (suc n) w h = refl
none_before p (x ∷ xs) zero w h = refl
none_before {X} p (x ∷ xs) (suc n) w h =
    and_from (not (p x)) (list_all (λ y. not (p y)) (take n xs))
    (not_from_false (p x) (h 0 x (omega arith)))
    (none_before p xs n (omega arith) (λ k d lt. h (suc k) d (omega arith)))

-- what stands behind the target decides the sign
abbrev IsAt : List ℕ → List ℕ → Option Opening → Type 0
IsAt target behind found = MatchOption found (Unit {0}) (λ opening. (opening.target ≡ target) × (behind ≡ sign_of opening.append opening.base64))

at_found : (target behind : List ℕ) → IsAt target behind (opening_at target behind)
at_found target behind =
    cond_both (pointwise nat_eq behind (codes "<")) (Some (record { target = target; append = false; base64 = false })) _ (IsAt target behind)
    (λ e. (refl, (bytes_decides behind (codes "<")).0 e))
    (λ _.
    cond_both (pointwise nat_eq behind (codes "<<")) (Some (record { target = target; append = true; base64 = false })) _ (IsAt target behind)
    (λ e. (refl, (bytes_decides behind (codes "<<")).0 e))
    (λ _.
    cond_both (pointwise nat_eq behind (codes "<B")) (Some (record { target = target; append = false; base64 = true })) _ (IsAt target behind)
    (λ e. (refl, (bytes_decides behind (codes "<B")).0 e))
    (λ _.
    cond_both (pointwise nat_eq behind (codes "<<B")) (Some (record { target = target; append = true; base64 = true })) None (IsAt target behind)
    (λ e. (refl, (bytes_decides behind (codes "<<B")).0 e))
    (λ _. tt))))

at_sign : (target : List ℕ) (append base64 : Bool) → opening_at target (sign_of append base64) ≡ Some (record { target = target; append = append; base64 = base64 })
at_sign target false false = refl
at_sign target true false = refl
at_sign target false true = refl
at_sign target true true = refl

sign_behind : (append base64 : Bool) → List ℕ
sign_behind false false = []
sign_behind true false = codes "<"
sign_behind false true = codes "B"
sign_behind true true = codes "<B"

sign_first : (append base64 : Bool) → sign_of append base64 ≡ 60 ∷ sign_behind append base64
unfolding sign_behind
sign_first false false = refl
sign_first true false = refl
sign_first false true = refl
sign_first true true = refl

sound_test : (text : List ℕ) → IsSound text → is_sound text ≡ true
sound_test text s = and_from (nat_le (length text) longest) (list_all is_printable text) (le-leb (length text) longest s.short) s.printable

test_sound : (text : List ℕ) → is_sound text ≡ true → IsSound text
test_sound text h =
    let parts = and_parts (nat_le (length text) longest) (list_all is_printable text) h in
    record { short = leb-true (length text) longest parts.0; printable = parts.1 }

decided_opening : List ℕ → Option ℕ → Option Opening
decided_opening text place = option_and_then (λ n. opening_at (take n text) (drop n text)) place

-- an opening is computed
pub opens_in : (text : List ℕ) (opening : Opening) → Opens text opening → opening_in text ≡ Some opening
unfolding opening_in
opens_in text o h =
    let rest : List ℕ = sign_behind o.append o.base64 in
    let whole : text ≡ o.target ++ 60 ∷ rest = h.printed ∙ ap (λ t. o.target ++ t) (sign_first o.append o.base64) in
    ap (λ t. cond t (option_and_then (λ n. opening_at (take n text) (drop n text)) (position is_deciding text)) None) (sound_test text h.sound)
    ∙ ap (λ place. option_and_then (λ n. opening_at (take n text) (drop n text)) place)
    (ap (position is_deciding) whole ∙ position-after is_deciding o.target 60 rest h.undecided refl)
    ∙ ap (λ t. opening_at (take (length o.target) t) (drop (length o.target) t)) h.printed
    ∙ ap (λ t. opening_at t (drop (length o.target) (opening_text o))) (take-append_seam o.target (sign_of o.append o.base64))
    ∙ ap (opening_at o.target) (drop-append_seam o.target (sign_of o.append o.base64))
    ∙ at_sign o.target o.append o.base64

abbrev pub OpeningFound : List ℕ → Option Opening → Type 0
OpeningFound text found = MatchOption found (Unit {0}) (Opens text)

at_place : (text : List ℕ) → IsSound text → (n : ℕ) → list_all (λ b. not (is_deciding b)) (take n text) ≡ true → (found : Option Opening) → IsAt (take n text) (drop n text) found → OpeningFound text found
at_place text sound n none None h = tt
at_place text sound n none (Some o) h =
    record {
      sound = sound;
      undecided = subst (λ t. list_all (λ b. not (is_deciding b)) t ≡ true) (sym h.0) none;
      printed = sym (take-append-drop n text) ∙ ap (λ t. t ++ drop n text) (sym h.0) ∙ ap (λ t. o.target ++ t) h.1;
    }

place_found : (text : List ℕ) → IsSound text → (place : Option ℕ) → position is_deciding text ≡ place → OpeningFound text (option_and_then (λ n. opening_at (take n text) (drop n text)) place)
place_found text sound None e = tt
place_found text sound (Some n) e =
    let at = position-Some is_deciding text n 0 e in
    let short : n ≤ length text = omega (arith, at.0) in
    at_place text sound n (none_before is_deciding text n short (λ k d lt. (position-Some is_deciding text n d e).2 k lt)) (opening_at (take n text) (drop n text)) (at_found (take n text) (drop n text))

-- what is computed is an opening
pub in_opens : (text : List ℕ) → OpeningFound text (opening_in text)
unfolding opening_in
in_opens text =
    cond_both (is_sound text) (option_and_then (λ n. opening_at (take n text) (drop n text)) (position is_deciding text)) None (OpeningFound text)
    (λ sound. place_found text (test_sound text sound) (position is_deciding text) refl)
    (λ _. tt)
