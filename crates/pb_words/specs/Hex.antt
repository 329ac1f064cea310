-- A number of 32 bits in hexadecimal.
use Rattle.std.specs.Prelude.{ℕ, ◌+◌, ◌*◌, ◌/◌, ◌%◌, ◌^◌, List, [], ◌∷◌, ◌++◌, if◌then◌else◌, nat_lt, map, codes}

-- the digit of a number below 16: `0` to `9`, `A` to `F`
abbrev pub hex_digit : ℕ → ℕ
hex_digit n = if nat_lt n 10 then 48 + n else 55 + n

-- the digit at that place, counted from the last, which is place 0; a digit is four bits
abbrev pub hex_digit_at : ℕ → ℕ → ℕ
hex_digit_at n place = hex_digit (n / 2 ^ (4 * place) % 16)

-- `0x` and eight digits
unfoldable pub hex_text : ℕ → List ℕ
hex_text n = codes "0x" ++ map (hex_digit_at n) (7 ∷ 6 ∷ 5 ∷ 4 ∷ 3 ∷ 2 ∷ 1 ∷ 0 ∷ [])
