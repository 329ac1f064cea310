-- The text that sets a lookup table, and the number that it writes.
use Rattle.std.specs.Prelude.{◌≡◌, ℕ, ◌<◌, ◌≤◌, ◌⊎◌, ◌==◌, Bool, List, ◌++◌, length, All, codes}
use Rattle.std.specs.Char.{digit_value}
use Rattle.std.specs.Int.{bit_at}
use Rattle.std.specs.Str.Parse.{digits_value}
use Rattle.pb_words.specs.Cuts.{without_spaces}
use Rattle.pb_lut.specs.Expressions.{Tree, ors, print, number, Inputs, place}

-- these are one to eight hexadecimal digits, of either case, and n is their number
pub record WritesHexDigits (digits : List ℕ) (n : ℕ) : Type 0 where
  pub some : 0 < length digits
  pub few : length digits ≤ 8
  pub each : All (λ c. digit_value c < 16) digits
  pub value : digits_value 16 digits ≡ n

-- the text is `0x` and the digits of the number n
pub record WritesHex (text : List ℕ) (n : ℕ) : Type 0 where
  pub digits : List ℕ
  pub written : text ≡ codes "0x" ++ digits
  pub value : WritesHexDigits digits n

-- the text is an expression, and n is its number
pub record WritesExpression (text : List ℕ) (n : ℕ) : Type 0 where
  pub tree : Tree ors
  pub written : text ≡ print tree
  pub value : number tree ≡ n

-- the text sets a lookup table to the number n: it has at most 128 bytes, spaces counted, and without
-- its spaces it writes n in one of the two ways
pub record WritesFunction (text : List ℕ) (n : ℕ) : Type 0 where
  pub short : length text ≤ 128
  pub written : WritesHex (without_spaces text) n ⊎ WritesExpression (without_spaces text) n

-- the text is this expression, with spaces anywhere, and short enough to set a lookup table
pub record WritesTree (text : List ℕ) (t : Tree ors) : Type 0 where
  pub short : length text ≤ 128
  pub written : without_spaces text ≡ print t

-- the output of a lookup table with this function, one tick after its inputs are these
abbrev pub table_output : ℕ → Inputs → Bool
table_output n x = bit_at n (place x) == 1
