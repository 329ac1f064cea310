-- What a text says is one thing, and it is computed.
use Rattle.std.proofs.Common.{◌≡◌, ◌==◌, ◌&&◌, ℕ, ◌+◌, ◌<◌, Bool, true, false, cond, not, ltb, List, [], ◌∷◌, ◌++◌, length, take, drop, position, codes, Option, Some, None, refl, sym, ap, subst, ◌∙◌, arith, length-append, take-append-drop, append_assoc}
use Rattle.std.specs.List.{list_all, position_or_len}
use Rattle.std.specs.Option.{option_map_or, option_and_then}
use Rattle.std.proofs.lemmas.Bool.{cond_both, and_from, and_parts, both_ways, eqb-true, false_from_ne_true, lt-ltb, not-false, not_from_false}
use Rattle.std.proofs.lemmas.Bool.Decides.{nat_tests}
use Rattle.std.proofs.lemmas.List.{nil_from_length}
use Rattle.std.proofs.Math.Seq.{take-append_seam, drop-append_seam}
use Rattle.pb_words.specs.declared.refusals.Refusal.TheVariants as refusals
use Rattle.pb_grammar.specs.Grammar.{Said, Query, Assign, Table, Echo, Bad, Says, after_front, before_end, is_target, is_deciding, echo_in, malformed, decided, decided_at, plainly_said}
use Rattle.pb_grammar.proofs.Fronts.{Follows, after_front_follows, after_front_of, Precedes, before_end_precedes, before_end_of}
use Rattle.pb_grammar.proofs.TargetCuts.{target_iff}
use Rattle.pb_grammar.proofs.TargetBytes.{is_target_byte, AreTargetBytes, target_bytes}

-- what a sound text says
abbrev pub saying : List ℕ → Said
saying text = option_map_or (λ words. Echo words) (echo_in text) (plainly_said text)

-- What is computed is said.

-- the text says this, or it is malformed
abbrev pub Speaks : List ℕ → Said → Type 0
Speaks text (Bad refusal) = refusal ≡ refusals.MalformedCommand
Speaks text said = Says text said

-- what a target says
abbrev known : List ℕ → ℕ → List ℕ → Said
known target sign rest =
    cond (sign == 61) (Assign target rest) (cond (sign == 63 && length rest == 0) (Query target) malformed)

known_speaks : (target : List ℕ) (sign : ℕ) (rest : List ℕ) → is_target target ≡ true → Speaks (target ++ sign ∷ rest) (known target sign rest)
known_speaks target sign rest is =
    cond_both (sign == 61) (Assign target rest) (cond (sign == 63 && length rest == 0) (Query target) malformed) (Speaks (target ++ sign ∷ rest))
    (λ e. ((target_iff target).1 is, ap (λ b. target ++ b ∷ rest) (eqb-true sign 61 e) ∙ sym (append_assoc target (codes "=") rest)))
    (λ _.
    cond_both (sign == 63 && length rest == 0) (Query target) malformed (Speaks (target ++ sign ∷ rest))
    (λ e.
    let parts = and_parts (sign == 63) (length rest == 0) e in
    ((target_iff target).1 is, ap (λ b. target ++ b ∷ rest) (eqb-true sign 63 parts.0) ∙ ap (λ t. target ++ 63 ∷ t) (nil_from_length rest (eqb-true (length rest) 0 parts.1))))
    (λ _. refl))

decided_speaks : (target : List ℕ) (sign : ℕ) (rest : List ℕ) → Speaks (target ++ sign ∷ rest) (decided target sign rest)
decided_speaks target sign rest =
    cond_both (not (is_target target)) malformed (known target sign rest) (Speaks (target ++ sign ∷ rest))
    (λ _. refl)
    (λ is. known_speaks target sign rest (not-false (is_target target) is))

decided_at_speaks : (target behind : List ℕ) → Speaks (target ++ behind) (decided_at target behind)
decided_at_speaks target [] = refl
decided_at_speaks target (sign ∷ rest) = decided_speaks target sign rest

plainly_speaks : (text : List ℕ) (place : Option ℕ) → Speaks text (option_map_or (λ n. decided_at (take n text) (drop n text)) place malformed)
plainly_speaks text None = refl
plainly_speaks text (Some n) =
    subst (λ t. Speaks t (decided_at (take n text) (drop n text))) (take-append-drop n text) (decided_at_speaks (take n text) (drop n text))

words_speak : (text rest : List ℕ) → text ≡ codes "*ECHO " ++ rest → (found : Option (List ℕ)) → Precedes (codes "?") rest found → Speaks text (option_map_or (λ words. Echo words) found (plainly_said text))
words_speak text rest h None p = plainly_speaks text (position is_deciding text)
words_speak text rest h (Some words) p = h ∙ ap (λ t. codes "*ECHO " ++ t) p

echo_speaks : (text : List ℕ) (found : Option (List ℕ)) → Follows (codes "*ECHO ") text found → Speaks text (option_map_or (λ words. Echo words) (option_and_then (before_end (codes "?")) found) (plainly_said text))
echo_speaks text None p = plainly_speaks text (position is_deciding text)
echo_speaks text (Some rest) p = words_speak text rest p (before_end (codes "?") rest) (before_end_precedes (codes "?") rest)

pub saying_speaks : (text : List ℕ) → Speaks text (saying text)
saying_speaks text = echo_speaks text (after_front (codes "*ECHO ") text) (after_front_follows (codes "*ECHO ") text)

-- What is said is computed.

-- the first that passes stands right behind those that don't
first-after : {X : Type 0} (p : X → Bool) (xs : List X) (y : X) (ys : List X) → list_all (λ x. not (p x)) xs ≡ true → p y ≡ true → position_or_len p (xs ++ y ∷ ys) ≡ length xs
first-after p [] y ys h e = ap (λ t. cond (not t) (1 + position_or_len p ys) 0) e
first-after p (x ∷ xs) y ys h e =
    let parts = and_parts (not (p x)) (list_all (λ z. not (p z)) xs) h in
    ap (λ t. cond t (1 + position_or_len p (xs ++ y ∷ ys)) 0) parts.0
    ∙ ap (λ n. 1 + n) (first-after p xs y ys parts.1 e)
    ∙ omega arith

pub position-after : {X : Type 0} (p : X → Bool) (xs : List X) (y : X) (ys : List X) → list_all (λ x. not (p x)) xs ≡ true → p y ≡ true → position p (xs ++ y ∷ ys) ≡ Some (length xs)
position-after {X} p xs y ys h e =
    let all : List X = xs ++ y ∷ ys in
    let within : length xs < length all = omega (arith, length-append xs (y ∷ ys)) in
    ap (λ n. cond {A = Option ℕ} (ltb n (length all)) (Some n) None) (first-after p xs y ys h e)
    ∙ ap (λ t. cond {A = Option ℕ} t (Some (length xs)) None) (lt-ltb (length xs) (length all) within)

-- a deciding byte isn't one of a target
deciding_apart : (b : ℕ) → is_deciding b ≡ true → is_target_byte b ≡ false
deciding_apart b h = grind (arith, nat_tests)

pub none_decides : (text : List ℕ) → AreTargetBytes text → list_all (λ b. not (is_deciding b)) text ≡ true
none_decides [] h = refl
none_decides (b ∷ bs) h =
    let parts = and_parts (is_target_byte b) (list_all is_target_byte bs) h in
    and_from (not (is_deciding b)) (list_all (λ c. not (is_deciding c)) bs)
    (not_from_false (is_deciding b) (false_from_ne_true (is_deciding b) (λ e. both_ways (is_target_byte b) (deciding_apart b e) parts.0)))
    (none_decides bs parts.1)

plainly_decided : (target : List ℕ) (sign : ℕ) (rest : List ℕ) → AreTargetBytes target → is_deciding sign ≡ true → plainly_said (target ++ sign ∷ rest) ≡ decided target sign rest
plainly_decided target sign rest h e =
    ap (λ place. option_map_or (λ n. decided_at (take n (target ++ sign ∷ rest)) (drop n (target ++ sign ∷ rest))) place malformed)
    (position-after is_deciding target sign rest (none_decides target h) e)
    ∙ ap (λ t. decided_at t (drop (length target) (target ++ sign ∷ rest))) (take-append_seam target (sign ∷ rest))
    ∙ ap (λ t. decided_at target t) (drop-append_seam target (sign ∷ rest))

-- behind the first elements that pass stands one that doesn't
one_cut : {X : Type 0} (p : X → Bool) (xs ys : List X) (x y : X) (rs ss : List X) → list_all p xs ≡ true → list_all p ys ≡ true → p x ≡ false → p y ≡ false → xs ++ x ∷ rs ≡ ys ++ y ∷ ss → x ≡ y
one_cut p [] [] x y rs ss h k e f eq = cc
one_cut p [] (z ∷ zs) x y rs ss h k e f eq =
    let same : x ≡ z = cc in
    absurd (both_ways (p x) e (ap p same ∙ (and_parts (p z) (list_all p zs) k).0))
one_cut p (z ∷ zs) [] x y rs ss h k e f eq =
    let same : y ≡ z = cc in
    absurd (both_ways (p y) f (ap p same ∙ (and_parts (p z) (list_all p zs) h).0))
one_cut p (w ∷ ws) (z ∷ zs) x y rs ss h k e f eq =
    one_cut p ws zs x y rs ss (and_parts (p w) (list_all p ws) h).1 (and_parts (p z) (list_all p zs) k).1 e f cc

no_echo : (target : List ℕ) (sign : ℕ) (rest : List ℕ) → AreTargetBytes target → is_deciding sign ≡ true → (found : Option (List ℕ)) → Follows (codes "*ECHO ") (target ++ sign ∷ rest) found → found ≡ None
no_echo target sign rest h e None p = refl
no_echo target sign rest h e (Some other) p =
    let space : sign ≡ 32 = one_cut is_target_byte target (codes "*ECHO") sign 32 rest other h refl (deciding_apart sign e) refl p in
    absurd (both_ways (is_deciding sign) (ap is_deciding space) e)

saying_decided : (target : List ℕ) (sign : ℕ) (rest : List ℕ) → is_target target ≡ true → is_deciding sign ≡ true → saying (target ++ sign ∷ rest) ≡ decided target sign rest
saying_decided target sign rest is e =
    let bytes = target_bytes target is in
    let text : List ℕ = target ++ sign ∷ rest in
    ap (λ found. option_map_or (λ words. Echo words) (option_and_then (before_end (codes "?")) found) (plainly_said text))
    (no_echo target sign rest bytes e (after_front (codes "*ECHO ") text) (after_front_follows (codes "*ECHO ") text))
    ∙ plainly_decided target sign rest bytes e

saying_echo : (words : List ℕ) → saying (codes "*ECHO " ++ words ++ codes "?") ≡ Echo words
saying_echo words =
    let text : List ℕ = codes "*ECHO " ++ words ++ codes "?" in
    ap (λ found. option_map_or (λ w. Echo w) (option_and_then (before_end (codes "?")) found) (plainly_said text))
    (after_front_of (codes "*ECHO ") (words ++ codes "?"))
    ∙ ap (λ found. option_map_or (λ w. Echo w) found (plainly_said text)) (before_end_of words (codes "?"))

pub says_saying : (text : List ℕ) (said : Said) → Says text said → saying text ≡ said
says_saying text (Query target) h =
    let is = (target_iff target).0 h.0 in
    ap saying h.1 ∙ saying_decided target 63 [] is refl ∙ ap (λ t. cond (not t) malformed (Query target)) is
says_saying text (Assign target value) h =
    let is = (target_iff target).0 h.0 in
    ap saying (h.1 ∙ append_assoc target (codes "=") value) ∙ saying_decided target 61 value is refl
    ∙ ap (λ t. cond (not t) malformed (Assign target value)) is
says_saying text (Echo words) h = ap saying h ∙ saying_echo words
says_saying text (Table target append base64 body) h = absurd h
says_saying text (Bad refusal) h = absurd h
