-- What is answered of the table of a sequencer.
use Rattle.std.specs.Prelude.{ℕ, ◌+◌, ◌*◌, ◌/◌, List, length, take, drop, map, decimal}
use Rattle.std.specs.List.{range_with_len}
use Rattle.base64.specs.Engines.{standard}
use Rattle.base64.specs.GeneralPurpose.{encode_of}
use Rattle.pb_tables.specs.Bodies.{bytes_of}

-- each word as a line
abbrev pub table_lines : List ℕ → List (List ℕ)
table_lines words = map decimal words

-- line i of a text that is cut into lines of 76 characters, of which the last may be shorter
abbrev pub line_at : List ℕ → ℕ → List ℕ
line_at text i = take 76 (drop (76 * i) text)

abbrev pub in_lines : List ℕ → List (List ℕ)
in_lines text = map (line_at text) (range_with_len 0 ((length text + 75) / 76))

-- the words in base64, where each is four bytes, the lowest first
unfoldable pub base64_lines : List ℕ → List (List ℕ)
base64_lines words = in_lines (encode_of standard (bytes_of words))
