-- Words of private helpers: no public clause cites them.
use Rattle.std.specs.Prelude.{ℕ, List, Option, Some, None}
use Rattle.clap.specs.Walk.{first_of}
use Rattle.clap.specs.Simple.{matches_of}
use Rattle.pb_cli.specs.ServeWords.{serve, IsPort}

-- what clap finds for the option
abbrev pub value_of_option : List (List ℕ) → List ℕ → Option (List ℕ)
value_of_option words name = first_of name (matches_of serve words)

-- no port is written, or there is no text
abbrev pub HasNoPort : Option (List ℕ) → Type 0
HasNoPort None = Unit {0}
HasNoPort (Some text) = (port : ℕ) → ¬ (IsPort text port)

-- the port that is written there
abbrev pub HasPort : Option (List ℕ) → ℕ → Type 0
HasPort None port = ⊥
HasPort (Some text) port = IsPort text port
