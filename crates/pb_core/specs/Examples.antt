-- The cores of the worked examples.
use Rattle.std.specs.Prelude.{ℕ, pos, List, [], ◌∷◌, ◌++◌, codes}
use Rattle.pb_core.specs.declared.events.Event.{Event}
use Rattle.pb_core.specs.declared.events.Event.TheVariants as events
use Rattle.pb_core.specs.declared.events.Answer.{Answer}
use Rattle.pb_acquire.specs.Examples.{disarmed}
use Rattle.pb_core.specs.Answer.{CoreState, opening, with_acquisitions, answer, after, after_all}

-- session 1 sends these bytes
abbrev pub line : List ℕ → Event
line bytes = events.Line 1 bytes

-- the core at this tick
abbrev pub at_tick : ℕ → CoreState → CoreState
at_tick tick core = after core (events.Advance tick 1000)

-- what a line is answered at this tick
abbrev pub told : CoreState → ℕ → List ℕ → Answer
told core tick bytes = answer (at_tick tick core) (line bytes)

-- a core whose session 1 is open
abbrev pub with_session_1 : CoreState → CoreState
with_session_1 core = after core (events.OpenControl 1)

-- TTL input 1 is high from tick 2 on
abbrev pub rises_at_2 : CoreState
rises_at_2 = with_session_1 (opening (record { tick = 2; target = 0; value = pos 1 } ∷ []))

-- there LUT 1 is high where TTL input 1 is low
abbrev pub inverter : CoreState
inverter = after_all rises_at_2 (line (codes "LUT1.INPA=TTLIN1.VAL\n") ∷ line (codes "LUT1.FUNC=0x0000FFFF\n") ∷ [])

-- LUT 1 is high where it was low
abbrev pub toggle : CoreState
toggle = after_all (with_session_1 (opening [])) (line (codes "LUT1.INPA=LUT1.OUT\n") ∷ line (codes "LUT1.FUNC=0x0000FFFF\n") ∷ [])

-- Sessions.

-- control sessions 1 and 2 and data session 3 are open
abbrev pub three_open : CoreState
three_open = after_all (opening []) (events.OpenControl 2 ∷ events.OpenControl 1 ∷ events.OpenData 3 [] ∷ [])

-- a line of session 1 that has this text
abbrev pub sends : List ℕ → Event
sends text = line (text ++ codes "\n")

-- Data session 4 wants one acquisition alone, without a header.
abbrev pub four_open : CoreState
four_open = after three_open (events.OpenData 4 (codes "ONE_SHOT NO_HEADER"))

-- One is armed and disarmed with no record, and it takes the end, which is all of it.
abbrev pub took_all : CoreState
took_all = after (with_acquisitions four_open (disarmed four_open.acquisitions)) (events.Take 4)
