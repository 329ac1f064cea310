-- The generator: a script of so many points. At each of them TTL input 1 is 1 for one tick, and PCAP captures how many points there
-- were before and the time. How far the points lie apart follows from a seed.
use Rattle.std.specs.Prelude.{ℕ, zero, suc, ◌+◌, ◌*◌, ◌/◌, ◌%◌, ◌^◌, List, [], ◌++◌, codes, decimal}

-- What is drawn for a point is made of what was drawn for the point before, and for the first of the seed.
abbrev pub drawn_after : ℕ → ℕ
drawn_after x = (6364136223846793005 * x + 1442695040888963407) % 2 ^ 64

abbrev pub drawn : ℕ → ℕ → ℕ
drawn seed zero = seed
drawn seed (suc n) = drawn_after (drawn seed n)

-- The tick of point n, counted from 1. It comes two ticks after the one before, or later by the ten highest bits of what is drawn: so
-- from 2 to 1025. In front of the first stands tick 10.
abbrev pub tick_of : ℕ → ℕ → ℕ
tick_of seed zero = 10
tick_of seed (suc n) = tick_of seed n + 2 + drawn seed (suc n) / 2 ^ 54

-- At tick 0 the box is set up: COUNTER1 counts the points, each point captures the count and the time, PCAP is armed, and a data session
-- takes the records as bytes.
unfoldable pub settings : List ℕ
settings =
    codes "0 C 1 COUNTER1.TRIG=TTLIN1.VAL\n"
    ++ codes "0 C 1 PCAP.TRIG=TTLIN1.VAL\n"
    ++ codes "0 C 1 COUNTER1.OUT.CAPTURE=Value\n"
    ++ codes "0 C 1 PCAP.TS_TRIG.CAPTURE=Value\n"
    ++ codes "0 C 1 PCAP.ENABLE=ONE\n"
    ++ codes "0 C 1 *PCAP.ARM=\n"
    ++ codes "0 D 1 BARE\n"

-- a line at a tick
abbrev pub line_at : ℕ → List ℕ → List ℕ
line_at tick text = decimal tick ++ text ++ codes "\n"

-- the two rows of a point
abbrev pub point : ℕ → List ℕ
point tick = line_at tick (codes " S TTLIN1 1") ++ line_at (tick + 1) (codes " S TTLIN1 0")

-- those of the first n points
abbrev pub points : ℕ → ℕ → List ℕ
points seed zero = []
points seed (suc n) = points seed n ++ point (tick_of seed (suc n))

-- PCAP is disarmed and the script ends
abbrev pub ending : ℕ → List ℕ
ending tick = line_at tick (codes " C 1 *PCAP.DISARM=") ++ line_at tick (codes " E")

-- The script of n points and this seed. It ends ten ticks after the last of them.
abbrev pub made : ℕ → ℕ → List ℕ
made n seed = settings ++ points seed n ++ ending (tick_of seed n + 10)
