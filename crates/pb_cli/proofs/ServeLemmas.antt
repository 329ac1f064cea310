-- The command of `serve` is one of those whose matches clap tells.
use Rattle.std.proofs.Common.{◌≡◌, ℕ, true, List, [], Option, Some, None, refl, sym}
use Rattle.clap.specs.Simple.{is_simple}
use Rattle.clap.specs.Faults.{is_simple_and_free, fault_of}
use Rattle.clap.proofs.OnLiterals.{clap_on_literals}
use Rattle.pb_cli.specs.ServeWords.{serve, GivesPort}
use Rattle.pb_cli.specs.Reading.{value_of_option, HasPort}

pub serve_is_simple : is_simple serve ≡ true
unfolding clap_on_literals
serve_is_simple = refl

pub serve_is_free : is_simple_and_free serve ≡ true
unfolding clap_on_literals
serve_is_free = refl

-- the port of what clap finds
pub has_port : (words : List (List ℕ)) (name : List ℕ) (found : Option (List ℕ)) (port : ℕ) → fault_of serve words ≡ [] → found ≡ value_of_option words name → HasPort found port → GivesPort words name port
has_port words name None port taken e h = absurd h
has_port words name (Some text) port taken e h = record { text = text; found = record { taken = taken; value = sym e }; port_is = h }
