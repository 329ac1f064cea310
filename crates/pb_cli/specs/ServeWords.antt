-- Which words start the server, and at which ports: `serve`, and then perhaps `--control PORT` and `--data PORT`, each once at the most.
use Rattle.std.specs.Prelude.{◌≡◌, ◌≢◌, ℕ, ◌≤◌, List, [], ◌∷◌, Some, codes, slice_get, All}
use Rattle.std.specs.Str.{IsUtf8}
use Rattle.clap.specs.Walk.{Rule, first_of}
use Rattle.clap.specs.Simple.{App, new_app, new_rule, with_rule, matches_of}
use Rattle.clap.specs.Faults.{fault_of}
use Rattle.clap.specs.declared.builder.action.ArgAction.TheVariants.{Set}
use Rattle.pb_words.specs.Numbers.{WritesNumber}
use Rattle.pb_cli.specs.declared.ports.Ports.{Ports}

-- an option with this name, which takes a value, and has the usual one where it isn't given
abbrev pub port_option : List ℕ → List ℕ → Rule
port_option name usual = record (new_rule name) { long = Some name; action = Some Set; defaults = usual ∷ [] }

-- the command of these two options, as clap has it
abbrev pub serve : App
serve =
    with_rule (with_rule (new_app (codes "serve")) (port_option (codes "control") (codes "8888"))) (port_option (codes "data") (codes "8889"))

-- clap takes the words, and this is the value that it finds for the option
pub record Finds (words : List (List ℕ)) (name text : List ℕ) : Type 0 where
  pub taken : fault_of serve words ≡ []
  pub value : first_of name (matches_of serve words) ≡ Some text

-- the text is the number of a port
pub record IsPort (text : List ℕ) (port : ℕ) : Type 0 where
  pub number : WritesNumber text port
  pub least : 1 ≤ port
  pub most : port ≤ 65535

-- the words give the option this port
pub record GivesPort (words : List (List ℕ)) (name : List ℕ) (port : ℕ) : Type 0 where
  pub text : List ℕ
  pub found : Finds words name text
  pub port_is : IsPort text port

-- The words start the server at these ports. They are texts, and the two ports differ.
pub record StartsAt (words : List (List ℕ)) (ports : Ports) : Type 0 where
  pub first : slice_get words 0 ≡ Some (codes "serve")
  pub texts : All IsUtf8 words
  pub control : GivesPort words (codes "control") ports.control
  pub records : GivesPort words (codes "data") ports.records
  pub apart : ports.control ≢ ports.records
