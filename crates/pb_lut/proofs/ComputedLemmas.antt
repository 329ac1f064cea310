-- The number of a text, computed, is the number that the text writes.
use Rattle.std.proofs.Common.{◌≡◌, ℕ, zero, suc, ◌+◌, ◌*◌, ◌<◌, ◌≤◌, ◌⊎◌, inl, inr, Bool, true, ◌&&◌, nat_eq, nat_lt, nat_le, List, [], ◌∷◌, ◌++◌, length, take, drop, codes, All, Option, Some, None, IfSome, IfNone, refl, ap, sym, ◌∙◌, subst, arith, append_assoc, length-append}
use Rattle.std.specs.List.{list_all}
use Rattle.std.specs.Option.{option_map, option_map_or, option_and_then}
use Rattle.std.specs.Char.{digit_value}
use Rattle.std.specs.Str.Parse.{digits_value}
use Rattle.std.specs.Cmp.Lexicographic.{pointwise, bytes_decides}
use Rattle.std.proofs.lemmas.Bool.{cases_Bool, and_parts, false_from_ne_true, ltb-true, ltb-false, leb-true, lt-ltb, le-ltb, le-leb, cond-true, cond-false, ne_eqb, eq-eqb}
use Rattle.std.proofs.lemmas.Bool.Decides.{Decides-by_and, Decides-ltb}
use Rattle.std.proofs.lemmas.Option.{cond_some, option_and_then_some}
use Rattle.pb_words.specs.Cuts.{without_spaces}
use Rattle.pb_lut.specs.Expressions.{Level, Letter, Tree, ors, xors, ands, nots, atoms, only_xor, or_of, only_and, xor_of, only_not, and_of, only_atom, not_of, letter, parens, code_of, print, number}
use Rattle.pb_lut.specs.Readings.{BeginsWith, Ends}
use Rattle.pb_lut.specs.Functions.{WritesHexDigits, WritesHex, WritesExpression, WritesFunction}
use Rattle.pb_lut.specs.Computed.{behind, tree_at, expression_of, hex_of, number_in, function_of}
use Rattle.pb_lut.proofs.ReadingLemmas.{letter_of-code, code-ge, code-le, joined, bar_ends, hat_ends, bracket_ends}
use Rattle.pb_lut.proofs.FunctionLemmas.{at_end, alone, hex_no_expression}

-- The tree of a text is found.

behind_same : (b : ℕ) (text : List ℕ) → behind b (b ∷ text) ≡ Some text
behind_same b text = cond-true _ _ _ (eq-eqb b b refl)

behind_none : (b : ℕ) (text : List ℕ) → ¬ (BeginsWith b text) → behind b text ≡ None
behind_none b [] h = refl
behind_none b (c ∷ text) h = cond-false _ _ _ (ne_eqb c b h)

-- an expression that is one of the next level, or two joined by an operator
module _ {A B : Type 0} (only : A → B) (both : A → B → B) (b : ℕ) where
  abbrev chain : Option (A × List ℕ) → (List ℕ → Option (B × List ℕ)) → Option (B × List ℕ)
  chain first more =
      option_and_then (λ left.
      option_map_or (λ text. option_map (λ right. (both left.0 right.0, right.1)) (more text))
      (behind b left.1)
      (Some (only left.0, left.1)))
      first

  chain_alone : (first : Option (A × List ℕ)) (more : List ℕ → Option (B × List ℕ)) (s : A) (rest : List ℕ) → first ≡ Some (s, rest) → ¬ (BeginsWith b rest) → chain first more ≡ Some (only s, rest)
  chain_alone first more s rest e h = rw (e, behind_none b rest h) refl

  chain_both : (first : Option (A × List ℕ)) (more : List ℕ → Option (B × List ℕ)) (s : A) (t : B) (text rest : List ℕ) → first ≡ Some (s, b ∷ text) → more text ≡ Some (t, rest) → chain first more ≡ Some (both s t, rest)
  chain_both first more s t text rest e f = rw (e, behind_same b text, f) refl

rank : Level → ℕ
rank ors = 4
rank xors = 3
rank ands = 2
rank nots = 1
rank atoms = 0

length-joined : (a b : List ℕ) (c : ℕ) → length (a ++ c ∷ [] ++ b) ≡ length a + suc (length b)
length-joined a b c = ap length (append_assoc a (c ∷ []) b) ∙ length-append a (c ∷ b)

some_bytes : {l : Level} (t : Tree l) → 0 < length (print t)
some_bytes (only_xor t) = some_bytes t
some_bytes (or_of s t) = omega (arith, some_bytes s, length-joined (print s) (print t) 124)
some_bytes (only_and t) = some_bytes t
some_bytes (xor_of s t) = omega (arith, some_bytes s, length-joined (print s) (print t) 94)
some_bytes (only_not t) = some_bytes t
some_bytes (and_of s t) = omega (arith, some_bytes s, length-joined (print s) (print t) 38)
some_bytes (only_atom t) = some_bytes t
some_bytes (not_of t) = omega arith
some_bytes (letter y) = omega arith
some_bytes (parens t) = omega arith

no_tilde : (t : Tree atoms) (rest : List ℕ) → ¬ (BeginsWith 126 (print t ++ rest))
no_tilde (letter y) rest h = omega (arith, code-le y, h)
no_tilde (parens t) rest h = omega (arith, h)

no_bracket : (y : Letter) (rest : List ℕ) → ¬ (BeginsWith 40 (code_of y ∷ rest))
no_bracket y rest h = omega (arith, code-ge y, h)

-- an expression at the front of a text, where what follows doesn't go on with it
found : (fuel : ℕ) {l : Level} (t : Tree l) (rest : List ℕ) → 5 * length (print t) + rank l ≤ fuel → Ends l rest → tree_at fuel l (print t ++ rest) ≡ Some (t, rest)
unfolding tree_at rank
found zero t rest h e = absurd (omega (arith, some_bytes t))
found (suc n) (only_xor s) rest h e =
    chain_alone only_xor or_of 124 _ (tree_at n ors) s rest (found n s rest (omega arith) (e.1, e.2)) e.0
found (suc n) (or_of s t) rest h e =
    let size : length (print (or_of s t)) ≡ length (print s) + suc (length (print t)) = length-joined (print s) (print t) 124 in
    ap (λ z. tree_at (suc n) ors z) (joined (print s) (print t) rest 124)
    ∙ chain_both only_xor or_of 124 _ (tree_at n ors) s t (print t ++ rest) rest (found n s (124 ∷ (print t ++ rest)) (omega arith) (bar_ends (print t ++ rest))) (found n t rest (omega arith) e)
found (suc n) (only_and s) rest h e =
    chain_alone only_and xor_of 94 _ (tree_at n xors) s rest (found n s rest (omega arith) e.1) e.0
found (suc n) (xor_of s t) rest h e =
    let size : length (print (xor_of s t)) ≡ length (print s) + suc (length (print t)) = length-joined (print s) (print t) 94 in
    ap (λ z. tree_at (suc n) xors z) (joined (print s) (print t) rest 94)
    ∙ chain_both only_and xor_of 94 _ (tree_at n xors) s t (print t ++ rest) rest (found n s (94 ∷ (print t ++ rest)) (omega arith) (hat_ends (print t ++ rest))) (found n t rest (omega arith) e)
found (suc n) (only_not s) rest h e =
    chain_alone only_not and_of 38 _ (tree_at n ands) s rest (found n s rest (omega arith) tt) e
found (suc n) (and_of s t) rest h e =
    let size : length (print (and_of s t)) ≡ length (print s) + suc (length (print t)) = length-joined (print s) (print t) 38 in
    ap (λ z. tree_at (suc n) ands z) (joined (print s) (print t) rest 38)
    ∙ chain_both only_not and_of 38 _ (tree_at n ands) s t (print t ++ rest) rest (found n s (38 ∷ (print t ++ rest)) (omega arith) tt) (found n t rest (omega arith) e)
found (suc n) (only_atom s) rest h e =
    rw (behind_none 126 (print s ++ rest) (no_tilde s rest), found n s rest (omega arith) tt) refl
found (suc n) (not_of s) rest h e =
    rw (found n s rest (omega arith) tt) refl
found (suc n) (letter y) rest h e =
    rw (behind_none 40 (code_of y ∷ rest) (no_bracket y rest), letter_of-code y) refl
found (suc n) (parens s) rest h e =
    let size : length (print (parens s)) ≡ suc (length (print s) + 1) = ap suc (length-append (print s) (41 ∷ [])) in
    ap (λ z. tree_at (suc n) atoms (40 ∷ z)) (append_assoc (print s) (41 ∷ []) rest)
    ∙ rw (found n s (41 ∷ rest) (omega arith) (bracket_ends rest)) refl

-- The number of a text without spaces.

expression_found : (text : List ℕ) (n : ℕ) → WritesExpression text n → expression_of text ≡ Some n
unfolding expression_of rank
expression_found text n w =
    let size : 5 * length (print w.tree) + rank ors ≤ 5 * length text + 5 = omega (arith, ap length w.written) in
    let tree : tree_at (5 * length text + 5) ors text ≡ Some (w.tree, []) = ap (λ z. tree_at (5 * length text + 5) ors z) (alone text w.tree w.written) ∙ found (5 * length text + 5) w.tree [] size at_end in
    rw (tree, (bytes_decides (print w.tree) text).1 (sym w.written)) (ap Some w.value)

expression_written : (text : List ℕ) (n : ℕ) → expression_of text ≡ Some n → WritesExpression text n
unfolding expression_of
expression_written text n e =
    option_and_then_some _ (tree_at (5 * length text + 5) ors text) n e
    (λ read at same.
    let p = cond_some (pointwise nat_eq (print read.0) text) (number read.0) n same in
    record { tree = read.0; written = sym ((bytes_decides (print read.0) text).0 p.0); value = p.1 })

digits_decide : (digits : List ℕ) → (list_all (λ c. nat_lt (digit_value c) 16) digits ≡ true → All (λ c. digit_value c < 16) digits) × (All (λ c. digit_value c < 16) digits → list_all (λ c. nat_lt (digit_value c) 16) digits ≡ true)
digits_decide digits =
    Decides-by_and (λ c. nat_lt (digit_value c) 16) (λ c. digit_value c < 16) (list_all (λ c. nat_lt (digit_value c) 16)) (λ c. Decides-ltb (digit_value c) 16) refl (λ _ _. refl) digits

hex_found : (digits : List ℕ) (n : ℕ) → WritesHexDigits digits n → hex_of digits ≡ Some n
hex_found digits n w =
    rw (lt-ltb 0 (length digits) w.some, le-leb (length digits) 8 w.few, (digits_decide digits).1 w.each) (ap Some w.value)

hex_written : (digits : List ℕ) (n : ℕ) → hex_of digits ≡ Some n → WritesHexDigits digits n
hex_written digits n e =
    let short : Bool = nat_lt 0 (length digits) && nat_le (length digits) 8 in
    let each : Bool = list_all (λ c. nat_lt (digit_value c) 16) digits in
    let p = cond_some (short && each) (digits_value 16 digits) n e in
    let tests = and_parts short each p.0 in
    let size = and_parts (nat_lt 0 (length digits)) (nat_le (length digits) 8) tests.0 in
    record { some = ltb-true 0 (length digits) size.0; few = leb-true (length digits) 8 size.1; each = (digits_decide digits).0 tests.1; value = p.1 }

behind_0x : (text : List ℕ) → take 2 text ≡ codes "0x" → text ≡ codes "0x" ++ drop 2 text
behind_0x [] e = cc
behind_0x (b ∷ []) e = cc
behind_0x (b ∷ c ∷ text) e = ap (λ front. front ++ text) e

number_found : (text : List ℕ) (n : ℕ) → WritesHex text n ⊎ WritesExpression text n → number_in text ≡ Some n
number_found text n (inl w) =
    ap number_in w.written ∙ hex_found w.digits n w.value
number_found text n (inr w) =
    let no : (take 2 text ≡ codes "0x" → ⊥) = λ e. hex_no_expression text (drop 2 text) (behind_0x text e) w.tree w.written in
    rw (false_from_ne_true (pointwise nat_eq (take 2 text) (codes "0x")) (λ t. no ((bytes_decides (take 2 text) (codes "0x")).0 t))) (expression_found text n w)

number_written : (text : List ℕ) (n : ℕ) → number_in text ≡ Some n → WritesHex text n ⊎ WritesExpression text n
number_written text n e =
    elim (cases_Bool (pointwise nat_eq (take 2 text) (codes "0x"))) [
      | inl t ↦ inl (record { digits = drop 2 text; written = behind_0x text ((bytes_decides (take 2 text) (codes "0x")).0 t); value = hex_written (drop 2 text) n (rw t at e) })
      | inr f ↦ inr (expression_written text n (rw f at e))
    ]

-- The number of a text.

pub function_found : (text : List ℕ) (n : ℕ) → WritesFunction text n → function_of text ≡ Some n
unfolding function_of
function_found text n w = rw (le-ltb 128 (length text) w.short) (number_found (without_spaces text) n w.written)

pub function_written : (text : List ℕ) (n : ℕ) → function_of text ≡ Some n → WritesFunction text n
unfolding function_of
function_written text n e =
    elim (cases_Bool (nat_lt 128 (length text))) [
      | inl t ↦ absurd (let h = rw t at e in cc)
      | inr f ↦ record { short = ltb-false 128 (length text) f; written = number_written (without_spaces text) n (rw f at e) }
    ]

pub too_long : (text : List ℕ) → 128 < length text → None ≡ function_of text
unfolding function_of
too_long text h = sym (cond-true _ _ _ (lt-ltb 128 (length text) h))

there_is_none : (o : Option ℕ) → ((n : ℕ) → ¬ (o ≡ Some n)) → None ≡ o
there_is_none None h = refl
there_is_none (Some n) h = absurd (h n refl)

-- what is read of a text without its spaces is the number, computed
pub number_read : (text bare : List ℕ) (o : Option ℕ) → length text ≤ 128 → bare ≡ without_spaces text → IfSome o (λ n. WritesHex bare n ⊎ WritesExpression bare n) → IfNone o ((n : ℕ) → ¬ (WritesHex bare n ⊎ WritesExpression bare n)) → o ≡ function_of text
number_read text bare (Some n) h e some none =
    sym (function_found text n (record { short = h; written = subst (λ z. WritesHex z n ⊎ WritesExpression z n) e some }))
number_read text bare None h e some none =
    there_is_none (function_of text)
    (λ n f. none n (subst (λ z. WritesHex z n ⊎ WritesExpression z n) (sym e) (function_written text n f).written))
