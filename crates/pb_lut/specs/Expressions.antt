-- Logic expressions over the five inputs of a lookup table: how they are written, their value, their number.
use Rattle.std.specs.Prelude.{ℕ, ◌+◌, ◌-◌, ◌*◌, Bool, true, false, not, ◌&&◌, ◌||◌, List, [], ◌∷◌, ◌++◌, codes, bit_and, bit_or, bit_xor}

-- how tightly an expression holds together: from `|`, which binds loosest, to what stands alone
pub data Level : Type 0 where
  ors xors ands nots atoms : Level

-- an input, or one of the two constants
pub data Letter : Type 0 where
  input_a input_b input_c input_d input_e zero_bit one_bit : Letter

-- the expressions of each level
--   ors   := xors ( "|" xors )*
--   xors  := ands ( "^" ands )*
--   ands  := nots ( "&" nots )*
--   nots  := "~" nots, or an atom
--   atoms := a letter, or "(" ors ")"
-- A chain leans to the right: `A|B|C` is `A` or else `B|C`. The value is the same either way.
pub data Tree : Level → Type 0 where
  only_xor : Tree xors → Tree ors
  or_of : Tree xors → Tree ors → Tree ors
  only_and : Tree ands → Tree xors
  xor_of : Tree ands → Tree xors → Tree xors
  only_not : Tree nots → Tree ands
  and_of : Tree nots → Tree ands → Tree ands
  only_atom : Tree atoms → Tree nots
  not_of : Tree nots → Tree nots
  letter : Letter → Tree atoms
  parens : Tree ors → Tree atoms

-- how a letter is written, in ASCII: `A` to `E`, `0`, `1`
abbrev pub code_of : Letter → ℕ
code_of input_a = 65
code_of input_b = 66
code_of input_c = 67
code_of input_d = 68
code_of input_e = 69
code_of zero_bit = 48
code_of one_bit = 49

-- how an expression is written, without spaces
abbrev pub print : {l : Level} → Tree l → List ℕ
print (only_xor t) = print t
print (or_of s t) = print s ++ codes "|" ++ print t
print (only_and t) = print t
print (xor_of s t) = print s ++ codes "^" ++ print t
print (only_not t) = print t
print (and_of s t) = print s ++ codes "&" ++ print t
print (only_atom t) = print t
print (not_of t) = codes "~" ++ print t
print (letter x) = code_of x ∷ []
print (parens t) = codes "(" ++ print t ++ codes ")"

-- what the five inputs are
pub record Inputs : Type 0 where
  pub a : Bool
  pub b : Bool
  pub c : Bool
  pub d : Bool
  pub e : Bool

-- the value of a letter at these inputs
abbrev pub letter_value : Inputs → Letter → Bool
letter_value x input_a = x.a
letter_value x input_b = x.b
letter_value x input_c = x.c
letter_value x input_d = x.d
letter_value x input_e = x.e
letter_value x zero_bit = false
letter_value x one_bit = true

-- exactly one of the two
abbrev pub differ : Bool → Bool → Bool
differ true q = not q
differ false q = q

-- the value of an expression at these inputs
abbrev pub value : {l : Level} → Inputs → Tree l → Bool
value x (only_xor t) = value x t
value x (or_of s t) = value x s || value x t
value x (only_and t) = value x t
value x (xor_of s t) = differ (value x s) (value x t)
value x (only_not t) = value x t
value x (and_of s t) = value x s && value x t
value x (only_atom t) = value x t
value x (not_of t) = not (value x t)
value x (letter y) = letter_value x y
value x (parens t) = value x t

-- 1 for true, 0 for false
abbrev pub bit : Bool → ℕ
bit true = 1
bit false = 0

-- which bit of the number holds the value at these inputs
abbrev pub place : Inputs → ℕ
place x = 16 * bit x.a + 8 * bit x.b + 4 * bit x.c + 2 * bit x.d + bit x.e

-- the number of a letter: bit 16a+8b+4c+2d+e is the letter's value there
abbrev pub letter_number : Letter → ℕ
letter_number input_a = 0xffff_0000
letter_number input_b = 0xff00_ff00
letter_number input_c = 0xf0f0_f0f0
letter_number input_d = 0xcccc_cccc
letter_number input_e = 0xaaaa_aaaa
letter_number zero_bit = 0
letter_number one_bit = 0xffff_ffff

-- the number of an expression, worked out on all 32 states of the inputs at once
abbrev pub number : {l : Level} → Tree l → ℕ
number (only_xor t) = number t
number (or_of s t) = bit_or (number s) (number t)
number (only_and t) = number t
number (xor_of s t) = bit_xor (number s) (number t)
number (only_not t) = number t
number (and_of s t) = bit_and (number s) (number t)
number (only_atom t) = number t
number (not_of t) = 0xffff_ffff - number t
number (letter x) = letter_number x
number (parens t) = number t
