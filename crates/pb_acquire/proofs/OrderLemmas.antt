-- The acquisitions that commands and records make: their numbers, and which have a condition.
use Rattle.std.proofs.Common.{◌≡◌, ◌↔◌, ◌⊎◌, inl, inr, ℕ, ◌+◌, List, [], ◌∷◌, ◌++◌, length, map, Option, Some, None, IsSome, refl, ap, subst, append-nil, arith}
use Rattle.std.specs.List.{last_or, range_with_len}
use Rattle.std.specs.Option.{option_map}
use Rattle.pb_buses.specs.declared.Condition.{Condition}
use Rattle.pb_buses.specs.declared.Record.{Record}
use Rattle.pb_acquire.specs.Acquisitions.{Acquisition, AllAcquisitions, with_record, with_condition, latest, latest_of, condition_by, condition_of}
use Rattle.pb_acquire.specs.Reached.{IsReached, at_first, by_arming, by_record, by_end, by_open, by_close, by_take}
use Rattle.pb_acquire.specs.declared.readers.Taken.{Taken}
use Rattle.pb_acquire.specs.declared.readers.Taken.TheVariants as takes
use Rattle.pb_acquire.specs.Taking.{take_of, left_by}

-- the one that runs has the next number, and isn't over
RunsAt : ℕ → Option Acquisition → Type 0
RunsAt number None = Unit {0}
RunsAt number (Some acquisition) = (acquisition.number ≡ number) × (acquisition.condition ≡ None)

-- each of them is over, from this number on
AreOverFrom : ℕ → List Acquisition → Type 0
AreOverFrom number [] = Unit {0}
AreOverFrom number (a ∷ others) = (a.number ≡ number) × IsSome a.condition × AreOverFrom (number + 1) others

over_more :
    (number : ℕ) (completed : List Acquisition) (acquisition : Acquisition) → AreOverFrom number completed →
    acquisition.number ≡ number + length completed → IsSome acquisition.condition →
    AreOverFrom number (completed ++ acquisition ∷ [])
unfolding AreOverFrom
over_more number [] acquisition are next some = (omega (arith, next), some, tt)
over_more number (a ∷ others) acquisition are next some =
    (are.0, are.1, over_more (number + 1) others acquisition are.2 (omega (arith, next)) some)

over_numbers :
    (number : ℕ) (completed : List Acquisition) → AreOverFrom number completed →
    map (λ a. a.number) completed ≡ range_with_len number (length completed)
unfolding AreOverFrom
over_numbers number [] are = refl
over_numbers number (a ∷ others) are = rw (are.0, over_numbers (number + 1) others are.2) refl

-- the last one has a condition, if there is one
last_is_over :
    (number : ℕ) (first : Acquisition) (others : List Acquisition) → IsSome first.condition → AreOverFrom number others →
    IsSome (condition_by (last_or (Some first) others))
unfolding AreOverFrom
last_is_over number first [] some are = some
last_is_over number first (a ∷ others) some are = last_is_over (number + 1) a others are.1 are.2

-- All that are over are, by rising numbers from 1, and the next runs if one does.
record InOrder (all : AllAcquisitions) : Type 0 where
  are_over : AreOverFrom 1 all.completed
  next : RunsAt (length all.completed + 1) all.running

recorded_next : (number : ℕ) (row : Record) (running : Option Acquisition) → RunsAt number running → RunsAt number (with_record row running)
unfolding RunsAt
recorded_next number row None runs = tt
recorded_next number row (Some acquisition) runs = runs

ended_over :
    (completed : List Acquisition) (running : Option Acquisition) (condition : Condition) → AreOverFrom 1 completed →
    RunsAt (length completed + 1) running → AreOverFrom 1 (completed ++ with_condition condition running)
unfolding RunsAt
ended_over completed None condition are runs = rw append-nil are
ended_over completed (Some acquisition) condition are runs = over_more 1 completed _ are (omega (arith, runs.0)) refl

took_in_order : (id : ℕ) (all : AllAcquisitions) (t : Taken) → InOrder all → InOrder (left_by id all t)
took_in_order id all takes.Done order = order
took_in_order id all takes.NotYet order = order
took_in_order id all (takes.Bytes text reader) order = record { are_over = order.are_over; next = order.next }

in_order : (all : AllAcquisitions) → IsReached all → InOrder all
unfolding RunsAt AreOverFrom
in_order all at_first = record { are_over = tt; next = tt }
in_order all (by_arming before layout free reached) =
    let order = in_order before reached in record { are_over = order.are_over; next = (refl, refl) }
in_order all (by_record before row some reached) =
    let order = in_order before reached in
    record { are_over = order.are_over; next = recorded_next (length before.completed + 1) row before.running order.next }
in_order all (by_end before condition some reached) =
    let order = in_order before reached in
    record { are_over = ended_over before.completed before.running condition order.are_over order.next; next = tt }
in_order all (by_open before id options reached) =
    let order = in_order before reached in record { are_over = order.are_over; next = order.next }
in_order all (by_close before id reached) =
    let order = in_order before reached in record { are_over = order.are_over; next = order.next }
in_order all (by_take before id reached) = took_in_order id before (take_of before id) (in_order before reached)

pub numbers_rise : (all : AllAcquisitions) → IsReached all → map (λ a. a.number) all.completed ≡ range_with_len 1 (length all.completed)
numbers_rise all reached = over_numbers 1 all.completed (in_order all reached).are_over

next_of :
    (number : ℕ) (running : Option Acquisition) (completed : List Acquisition) → RunsAt number running → IsSome running →
    option_map (λ a. a.number) (latest_of running completed) ≡ Some number
unfolding RunsAt
next_of number None completed runs some = cc
next_of number (Some acquisition) completed runs some = ap (λ n. Some n) runs.0

pub next_number :
    (all : AllAcquisitions) → IsReached all → IsSome all.running →
    option_map (λ a. a.number) (latest all) ≡ Some (length all.completed + 1)
next_number all reached some = next_of (length all.completed + 1) all.running all.completed (in_order all reached).next some

none_of :
    (number : ℕ) (running : Option Acquisition) (completed : List Acquisition) → RunsAt number running → AreOverFrom 1 completed →
    (condition_by (latest_of running completed) ≡ None) ↔ (IsSome running ⊎ (completed ≡ []))
unfolding RunsAt AreOverFrom
none_of number (Some acquisition) completed runs are = (λ _. inl refl, λ _. runs.1)
none_of number None [] runs are = (λ _. inr refl, λ _. refl)
none_of number None (a ∷ others) runs are =
    let some = last_is_over 2 a others are.1 are.2 in
    (λ none. (let P : Option Condition → Type 0 = λ o. IsSome o in let never = subst P none some in cc), λ either. elim either [ inl runs ↦ cc | inr empty ↦ cc ])

pub none_exactly :
    (all : AllAcquisitions) → IsReached all → (condition_of all ≡ None) ↔ (IsSome all.running ⊎ (all.completed ≡ []))
none_exactly all reached =
    let order = in_order all reached in none_of (length all.completed + 1) all.running all.completed order.next order.are_over
