-- The queue of trains.
use Rattle.std.specs.Prelude.{ℕ, ◌+◌, ◌≤◌, ◌==◌, nat_lt, nat_le, Bool, ◌&&◌, ◌||◌, List, [], ◌∷◌, ◌++◌, length, ⊤, if◌then◌else◌}
use Rattle.std.specs.List.{list_any, filter}
use Rattle.pb_pulse.specs.declared.trains.Train.{Train}
use Rattle.pb_pulse.specs.Train.{end_of, is_on, HasPulses}

-- so many trains can be queued
abbrev pub room : ℕ
room = 255

-- the tick behind the last queued train
abbrev pub last_end : List Train → ℕ
last_end [] = 0
last_end (train ∷ []) = end_of train
last_end (_ ∷ train ∷ others) = last_end (train ∷ others)

-- a train that is asked for is dropped: it has no width, its pulses would run into one another, the queue is
-- full, or it would begin before the last queued train has ended
abbrev pub is_dropped : Train → List Train → Bool
is_dropped train queue =
    (train.width == 0)
    || (nat_lt 1 train.number && nat_lt train.step train.width)
    || nat_le room (length queue)
    || nat_lt train.start (last_end queue)

-- the queue after a train was asked for
abbrev pub asked : Train → List Train → List Train
asked train queue = if is_dropped train queue then queue else queue ++ (train ∷ [])

-- a pulse of a queued train is on at a tick
abbrev pub is_any_on : ℕ → List Train → Bool
is_any_on tick queue = list_any (is_on tick) queue

-- a train that ends behind the next tick stays at this tick
abbrev pub stays : ℕ → Train → Bool
stays tick train = nat_lt (tick + 1) (end_of train)

-- the trains that stay
abbrev pub left : ℕ → List Train → List Train
left tick queue = filter (stays tick) queue

-- Trains in order: each has pulses, and begins at this tick or later, and when the one before it has ended.
abbrev pub InOrder : ℕ → List Train → Type 0
InOrder from [] = ⊤
InOrder from (train ∷ others) = (from ≤ train.start) × HasPulses train × InOrder (end_of train) others
