-- The two ways to write a function, and that a text is written in at most one of them.
use Rattle.std.proofs.Common.{◌≡◌, ◌==◌, ℕ, ◌+◌, ◌*◌, ◌^◌, ◌<◌, ◌≤◌, ◌⊎◌, Bool, true, false, refl, inl, inr, List, [], ◌∷◌, ◌++◌, length, get_or, drop, Option, Some, None, IfSome, IfNone, Ok, ap, sym, ◌∙◌, subst, arith, lit<}
use Rattle.std.proofs.lemmas.List.{append-nil, at_drop_more, at_drop_all}
use Rattle.std.proofs.Math.Nat.{pow-le-pow_right}
use Rattle.std.proofs.lemmas.Grind.{pow_more}
use Rattle.std.specs.Option.{ok_or}
use Rattle.std.specs.Char.{digit_value}
use Rattle.std.specs.Int.{bit_at}
use Rattle.pb_words.specs.declared.refusals.Refusal.{Refusal}
use Rattle.std.specs.Str.Parse.{digits_value, digits_value_after}
use Rattle.pb_words.specs.Cuts.{without_spaces}
use Rattle.pb_lut.specs.Expressions.{Tree, ors, only_xor, only_and, only_not, only_atom, letter, zero_bit, print, number, Inputs, value, bit, place}
use Rattle.pb_lut.specs.Readings.{Ends, Reads, ReadsNothing}
use Rattle.pb_lut.specs.Functions.{WritesHexDigits, WritesHex, WritesExpression, WritesFunction, WritesTree, table_output}
use Rattle.pb_lut.proofs.ExpressionLemmas.{bit_at-number}
use Rattle.pb_lut.proofs.ReadingLemmas.{cut, print-injective}

pub at_end : Ends ors []
at_end = (λ h. h, λ h. h, λ h. h)

pub alone : (text : List ℕ) (t : Tree ors) → text ≡ print t → text ≡ print t ++ []
alone text t e = e ∙ sym (append-nil (print t))

pub no_expression : {text : List ℕ} → ReadsNothing ors text → (n : ℕ) → ¬ (WritesExpression text n)
no_expression {text} h n w =
    h n [] (record { tree = w.tree; written = alone text w.tree w.written; value = w.value; ends = at_end })

pub no_expression_before : {text rest : List ℕ} {m : ℕ} → Reads ors text m rest → 0 < length rest → (n : ℕ) → ¬ (WritesExpression text n)
no_expression_before {text} {rest} r h n w =
    let same = cut r.tree w.tree rest [] r.ends at_end (sym r.written ∙ alone text w.tree w.written) in
    omega (arith, ap length same.1)

zero_alone : Tree ors
zero_alone = only_xor (only_and (only_not (only_atom (letter zero_bit))))

-- an expression doesn't begin with `0x`
pub hex_no_expression : (text : List ℕ) (digits : List ℕ) → text ≡ 48 ∷ 120 ∷ digits → (t : Tree ors) → text ≡ print t → ⊥
unfolding zero_alone
hex_no_expression text digits h t e =
    let ends : Ends ors (120 ∷ digits) = (λ q. omega (arith, q), λ q. omega (arith, q), λ q. omega (arith, q)) in
    let same = cut zero_alone t (120 ∷ digits) [] ends at_end (sym h ∙ alone text t e) in
    omega (arith, ap length same.1)

written_once : (text : List ℕ) (m n : ℕ) → WritesHex text m ⊎ WritesExpression text m → WritesHex text n ⊎ WritesExpression text n → m ≡ n
written_once text m n (inl a) (inl b) =
    sym a.value.value ∙ ap (digits_value 16) (ap (drop 2) (sym a.written ∙ b.written)) ∙ b.value.value
written_once text m n (inl a) (inr b) = absurd (hex_no_expression text a.digits a.written b.tree b.written)
written_once text m n (inr a) (inl b) = absurd (hex_no_expression text b.digits b.written a.tree a.written)
written_once text m n (inr a) (inr b) =
    sym a.value ∙ ap number (print-injective a.tree b.tree (sym a.written ∙ b.written)) ∙ b.value

pub WritesFunction-unique : (text : List ℕ) (m n : ℕ) → WritesFunction text m → WritesFunction text n → m ≡ n
WritesFunction-unique text m n a b = written_once (without_spaces text) m n a.written b.written

-- one digit more fits
pub hex_fits : (n i d : ℕ) → n < 16 ^ i → i < 8 → d < 16 → n * 16 + d < 2 ^ 32
hex_fits n i d h k e =
    let top : 16 ^ i ≤ 16 ^ 7 = pow-le-pow_right {n = 16} (lit< tt) {i = i} {j = 7} (omega arith) in omega arith

pub hex_grows : (n i d : ℕ) → n < 16 ^ i → d < 16 → n * 16 + d < 16 ^ (i + 1)
hex_grows n i d h e = omega (arith, pow_more 16 i)

pub digits_after_more : (text : List ℕ) (n i d : ℕ) → i < length text → d ≡ digit_value (get_or text i 0) → digits_value_after 16 (n * 16 + d) (drop (i + 1) text) ≡ digits_value_after 16 n (drop i text)
digits_after_more text n i d h e =
    ap (λ x. digits_value_after 16 (n * 16 + x) (drop (i + 1) text)) e ∙ sym (at_drop_more (digits_value_after 16 n) text i 0 h)

pub digits_after_all : (text : List ℕ) (n i : ℕ) → length text ≤ i → digits_value_after 16 n (drop i text) ≡ n
digits_after_all text n i h = at_drop_all (digits_value_after 16 n) text i h

-- with `0x` in front
pub no_function_hex : {text digits : List ℕ} → text ≡ 48 ∷ 120 ∷ digits → ((n : ℕ) → ¬ (WritesHexDigits digits n)) → (n : ℕ) → ¬ (WritesHex text n ⊎ WritesExpression text n)
no_function_hex {text} {digits} e h n (inl w) =
    let same : w.digits ≡ digits = ap (drop 2) (sym w.written ∙ e) in
    h n (subst (λ z. WritesHexDigits z n) same w.value)
no_function_hex {text} {digits} e h n (inr w) = hex_no_expression text digits e w.tree w.written

-- and without
pub no_function : {text : List ℕ} → ((digits : List ℕ) → text ≡ 48 ∷ 120 ∷ digits → ⊥) → ((n : ℕ) → ¬ (WritesExpression text n)) → (n : ℕ) → ¬ (WritesHex text n ⊎ WritesExpression text n)
no_function h k n (inl w) = h w.digits w.written
no_function h k n (inr w) = k n w

-- what was found is the one number
pub found_once : (o : Option ℕ) (refusal : Refusal) (text : List ℕ) → IfSome o (λ n. WritesHex text n ⊎ WritesExpression text n) → IfNone o ((n : ℕ) → ¬ (WritesHex text n ⊎ WritesExpression text n)) → (n : ℕ) → WritesHex text n ⊎ WritesExpression text n → ok_or o refusal ≡ Ok n
found_once None refusal text found none n w = absurd (none n w)
found_once (Some m) refusal text found none n w = ap Ok (written_once text m n found w)

-- The output of a table that is set to an expression.

pub WritesFunction-expression : (text : List ℕ) (t : Tree ors) → WritesTree text t → WritesFunction text (number t)
WritesFunction-expression text t w =
    record { short = w.short; written = inr (record { tree = t; written = w.written; value = refl }) }

pub number-expression : (text : List ℕ) (n : ℕ) (t : Tree ors) → WritesFunction text n → WritesTree text t → n ≡ number t
number-expression text n t f w = WritesFunction-unique text n (number t) f (WritesFunction-expression text t w)

bit_is : (p : Bool) → (bit p == 1) ≡ p
bit_is true = refl
bit_is false = refl

pub table_output-expression : (text : List ℕ) (n : ℕ) (t : Tree ors) (x : Inputs) → WritesFunction text n → WritesTree text t → table_output n x ≡ value x t
table_output-expression text n t x f w =
    ap (λ m. bit_at m (place x) == 1) (number-expression text n t f w)
    ∙ ap (λ m. m == 1) (bit_at-number x t) ∙ bit_is (value x t)
