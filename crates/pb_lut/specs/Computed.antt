-- The number that a text sets a lookup table to, computed.
use Rattle.std.specs.Prelude.{ℕ, zero, suc, ◌+◌, ◌*◌, ◌==◌, ◌&&◌, nat_eq, nat_le, nat_lt, List, [], ◌∷◌, length, take, drop, codes, Option, Some, None, if◌then◌else◌}
use Rattle.std.specs.List.{list_all}
use Rattle.std.specs.Char.{digit_value}
use Rattle.std.specs.Str.Parse.{digits_value}
use Rattle.std.specs.Cmp.Lexicographic.{pointwise}
use Rattle.std.specs.Option.{option_map, option_map_or, option_and_then}
use Rattle.pb_words.specs.Cuts.{without_spaces}
use Rattle.pb_lut.specs.Expressions.{Level, ors, xors, ands, nots, atoms, Letter, input_a, input_b, input_c, input_d, input_e, zero_bit, one_bit, Tree, only_xor, or_of, only_and, xor_of, only_not, and_of, only_atom, not_of, letter, parens, print, number}

-- what follows the byte, where the text begins with it
abbrev pub behind : ℕ → List ℕ → Option (List ℕ)
behind b [] = None
behind b (c ∷ text) = if c == b then Some text else None

-- the letter of a byte
abbrev pub letter_of : ℕ → Option Letter
letter_of c =
    if c == 65 then Some input_a else
    (if c == 66 then Some input_b else
    (if c == 67 then Some input_c else
    (if c == 68 then Some input_d else
    (if c == 69 then Some input_e else
    (if c == 48 then Some zero_bit else
    (if c == 49 then Some one_bit else None))))))

-- a letter at the front of the text
abbrev pub letter_at : List ℕ → Option (Tree atoms × List ℕ)
letter_at [] = None
letter_at (c ∷ rest) = option_map (λ x. (letter x, rest)) (letter_of c)

-- The expression of a level at the front of the text, as much as there is, and what follows it. The
-- number bounds how deep it is.
unfoldable pub tree_at : ℕ → (level : Level) → List ℕ → Option (Tree level × List ℕ)
tree_at zero level text = None
tree_at (suc n) ors text =
    option_and_then (λ left.
    option_map_or (λ text. option_map (λ right. (or_of left.0 right.0, right.1)) (tree_at n ors text))
    (behind 124 left.1)
    (Some (only_xor left.0, left.1)))
    (tree_at n xors text)
tree_at (suc n) xors text =
    option_and_then (λ left.
    option_map_or (λ text. option_map (λ right. (xor_of left.0 right.0, right.1)) (tree_at n xors text))
    (behind 94 left.1)
    (Some (only_and left.0, left.1)))
    (tree_at n ands text)
tree_at (suc n) ands text =
    option_and_then (λ left.
    option_map_or (λ text. option_map (λ right. (and_of left.0 right.0, right.1)) (tree_at n ands text))
    (behind 38 left.1)
    (Some (only_not left.0, left.1)))
    (tree_at n nots text)
tree_at (suc n) nots text =
    option_map_or (λ text. option_map (λ inner. (not_of inner.0, inner.1)) (tree_at n nots text))
    (behind 126 text)
    (option_map (λ inner. (only_atom inner.0, inner.1)) (tree_at n atoms text))
tree_at (suc n) atoms text =
    option_map_or (λ text.
    option_and_then (λ inner. option_map (λ rest. (parens inner.0, rest)) (behind 41 inner.1)) (tree_at n ors text))
    (behind 40 text)
    (letter_at text)

-- the number of the expression that the text is; no expression is deeper than that
unfoldable pub expression_of : List ℕ → Option ℕ
expression_of text =
    option_and_then (λ read. if pointwise nat_eq (print read.0) text then Some (number read.0) else None)
    (tree_at (5 * length text + 5) ors text)

-- the number of one to eight hexadecimal digits
abbrev pub hex_of : List ℕ → Option ℕ
hex_of digits =
    if nat_lt 0 (length digits) && nat_le (length digits) 8 && list_all (λ c. nat_lt (digit_value c) 16) digits
    then Some (digits_value 16 digits)
    else None

-- the number that a text without spaces writes
abbrev pub number_in : List ℕ → Option ℕ
number_in text =
    if pointwise nat_eq (take 2 text) (codes "0x") then hex_of (drop 2 text) else expression_of text

-- the number that the text sets a lookup table to, if it sets it to one
unfoldable pub function_of : List ℕ → Option ℕ
function_of text = if nat_lt 128 (length text) then None else number_in (without_spaces text)
