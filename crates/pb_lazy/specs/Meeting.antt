-- A tick that some of the blocks have made.
use Rattle.std.specs.Prelude.{◌≡◌, ℕ, ◌+◌, ◌*◌, ◌≤◌, ◌⊎◌, Bool, false, true, List, [], ◌∷◌, map, length, Some}
use Rattle.std.specs.List.{AllByRecursion}
use Rattle.pb_buses.specs.declared.Bus.{Bus}
use Rattle.pb_buses.specs.declared.Emit.{Emit}
use Rattle.pb_buses.specs.declared.Emit.TheVariants as emits
use Rattle.pb_model.specs.declared.Block.{Block}
use Rattle.pb_model.specs.Tick.{inputs_of, block_after, emitted_by, handed_on}
use Rattle.pb_still.specs.Eventful.{AreBusy, IsIdle}
use Rattle.pb_lazy.specs.declared.lazies.Lazy.{Lazy}
use Rattle.pb_lazy.specs.Lazy.{caught_up, saw, IsSound, IsDue}

-- These blocks have become those: they stand for the blocks after the tick, have kept what they saw, and are sound. This
-- is what was emitted, and so many of them were busy, with at most three calls each.
pub record MetSoFar (bus : Bus) (tick : ℕ) (first : Bool) (olds news : List Lazy) (emit : Emit) (was spent : ℕ) : Type 0 where
  pub long : length news ≡ length olds
  pub blocks : map (caught_up (tick + 1)) news ≡ map (block_after bus tick) (map (caught_up tick) olds)
  pub kept : map (saw false) news ≡ map (λ (b : Block). Some (inputs_of bus b)) (map (caught_up tick) olds)
  pub sound : AllByRecursion (IsSound (tick + 1) false) news
  pub known : AllByRecursion (λ (l : Lazy). l.outdated ≡ false) news
  pub emits : emit ≡ handed_on emits.Nothing (map (emitted_by bus tick) (map (caught_up tick) olds))
  pub busy : ℕ
  pub counted : AreBusy bus tick (map (saw first) olds) (map (caught_up tick) olds) busy
  pub few : spent ≤ was + 3 * busy

pub record IsRefreshed (old new : Lazy) : Type 0 where
  pub left : new ≡ record old { due = new.due; outdated = false }
  pub due : old.outdated ≡ true → IsDue new.own new
  pub same : old.outdated ≡ false → new ≡ old

-- Blocks whose outdated deadlines are known again: else they are as they were.
abbrev pub AreRefreshed : List Lazy → List Lazy → Type 0
AreRefreshed [] [] = Unit {0}
AreRefreshed (old ∷ olds) (new ∷ news) = IsRefreshed old new × AreRefreshed olds news
AreRefreshed _ _ = ⊥

-- one of the blocks is busy at a tick that isn't the first
abbrev pub IsOneBusy : Bus → ℕ → List Lazy → Type 0
IsOneBusy bus tick [] = ⊥
IsOneBusy bus tick (lazy ∷ lazies) =
    ¬ (IsIdle bus tick (saw false lazy) (caught_up tick lazy)) ⊎ IsOneBusy bus tick lazies
