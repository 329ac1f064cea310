-- Which bytes are a stimulus that stands in lines, and its rows.
use Rattle.std.specs.Prelude.{◌≡◌, ℕ, ℤ, ◌<◌, ◌≤◌, ◌^◌, ◌⊎◌, List, [], ◌∷◌, ◌++◌, length, codes, unwrap_or}
use Rattle.std.specs.List.{flat_map}
use Rattle.pb_words.specs.Numbers.{WritesNumber}
use Rattle.pb_grammar.specs.Grammar.{IsText}
use Rattle.pb_stim.specs.declared.stimuli.Row.{Row}
use Rattle.pb_stim.specs.Inputs.{input_of, MayHave}
use Rattle.pb_stim.specs.Texts.{WritesSigned, IsName}

-- a line: empty or a comment, or from this tick on the input of this name has this value
pub data Line : Type 0 where
  Skipped : Line
  Level : (tick : ℕ) (target : List ℕ) (value : ℤ) → Line

-- What stands behind the tick of a row: `S TTLIN3 1`.
abbrev pub SaysLevel : List ℕ → List ℕ → ℤ → Type 0
SaysLevel rest target value =
    (written : List ℕ) × IsName target × WritesSigned written value × (rest ≡ codes "S " ++ target ++ 32 ∷ written)

-- The text of a line, without its newline. The parts of a row are separated by one space.
abbrev pub IsLine : List ℕ → Line → Type 0
IsLine text Skipped = (text ≡ []) ⊎ ((comment : List ℕ) × (text ≡ 35 ∷ comment))
IsLine text (Level tick target value) =
    (digits : List ℕ) × (rest : List ℕ) × WritesNumber digits tick × SaysLevel rest target value × (text ≡ digits ++ 32 ∷ rest)

-- the bytes are these lines, each ended by a newline
abbrev pub WritesLines : List ℕ → List Line → Type 0
WritesLines bytes [] = bytes ≡ []
WritesLines bytes (line ∷ lines) =
    (text : List ℕ) × (rest : List ℕ) × IsText text × IsLine text line × (bytes ≡ text ++ 10 ∷ rest) × WritesLines rest lines

-- The lines may follow a line of this tick: ticks are below 2^62 and never fall, the targets are inputs, and each has a value that it
-- may have.
abbrev pub KeepRules : ℕ → List Line → Type 0
KeepRules last [] = Unit {0}
KeepRules last (Skipped ∷ lines) = KeepRules last lines
KeepRules last (Level tick target value ∷ lines) =
    (tick < 2 ^ 62) × (last ≤ tick) × MayHave target value × KeepRules tick lines

-- the bytes are a stimulus, of at most 16 MiB, and these are its lines
pub record IsStimulus (bytes : List ℕ) (lines : List Line) : Type 0 where
  pub size : length bytes ≤ 16777216
  pub spelled : WritesLines bytes lines
  pub rules : KeepRules 0 lines

-- the row that a line is, if any
abbrev pub rows_of : Line → List Row
rows_of Skipped = []
rows_of (Level tick target value) = record { tick = tick; target = unwrap_or (input_of target) 0; value = value } ∷ []

-- the rows of a stimulus
abbrev pub rows_in : List Line → List Row
rows_in lines = flat_map rows_of lines
