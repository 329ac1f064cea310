-- What is told of the output of a script of so many points.
use Rattle.std.specs.Prelude.{ℕ, ◌/◌, ◌%◌, ◌^◌, ◌==◌, List, ◌++◌, length, sum, sum_by, codes, decimal, if◌then◌else◌}
use Rattle.pb_bench.specs.Sections.{Section, sections_in}

-- of an answer to a data session, which has the letter D, all bytes count, and of another none
abbrev pub counted : ℕ → ℕ → ℕ
counted letter size = if letter == 68 then size else 0

abbrev pub data_size : Section → ℕ
data_size s = counted s.letter (length s.answer)

-- how many bytes the data sessions were answered
abbrev pub data_bytes : List Section → ℕ
data_bytes sections = sum_by data_size sections

-- A record has 12 bytes: a count of 4 and a time of 8. Records come without a frame.
abbrev pub records_in : List ℕ → ℕ
records_in output = data_bytes (sections_in output) / 12

-- a name and a number on a line
abbrev pub line : List ℕ → ℕ → List ℕ
line name number = name ++ decimal number ++ codes "\n"

-- The four lines: the points of the script, the records that were captured, the bytes of the output, and their sum modulo 2^32.
abbrev pub tally : ℕ → List ℕ → List ℕ
tally points output =
    line (codes "points ") points
    ++ line (codes "records ") (records_in output)
    ++ line (codes "output ") (length output)
    ++ line (codes "sum ") (sum output % 2 ^ 32)
