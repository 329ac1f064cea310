-- A sink that keeps an output.
use Rattle.std.specs.Prelude.{ℕ, List, []}

-- the bytes that it keeps, and how many writes have failed
pub record KeptBytes : Type 0 where
  pub held : List ℕ
  pub faults : ℕ

-- at first
abbrev pub nothing_kept : KeptBytes
nothing_kept = record { held = []; faults = 0 }
