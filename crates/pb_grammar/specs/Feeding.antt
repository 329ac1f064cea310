-- What an assembler holds of the bytes since the last whole command.
use Rattle.std.specs.Prelude.{◌≡◌, ℕ, ◌+◌, min, not, nat_lt, nat_le, if◌then◌else◌, ◌⊎◌, List, [], ◌∷◌, ◌++◌, length, take, All, Option, Some, None}
use Rattle.std.specs.List.{list_all}
use Rattle.pb_words.specs.declared.refusals.Refusal.{Refusal}
use Rattle.pb_words.specs.declared.refusals.Refusal.TheVariants as refusals
use Rattle.pb_grammar.specs.Grammar.{Opening, Opens, IsText, IsBodyLine, Said, Bad, body_fault, body_text, command_of, is_printable, is_target, longest_body, opening_text}
use Rattle.pb_grammar.specs.Streams.{IsWhole}
use Rattle.pb_grammar.specs.declared.scanning.Scan.{Scan}
use Rattle.pb_grammar.specs.declared.stages.Stage.{Stage}
use Rattle.pb_grammar.specs.declared.stages.Stage.TheVariants as stages

-- The scan has gone over these bytes of a body.
pub record Scans (scan : Scan) (body : List ℕ) : Type 0 where
  pub lines : List (List ℕ)
  pub current : List ℕ
  pub printed : body ≡ body_text lines ++ current
  pub ended : All IsBodyLine lines
  pub begun : IsText current
  -- of the current line it counts one byte more than a line may have, and no more
  pub counted : scan.line ≡ min (length current) 4097
  pub clean : scan.printable ≡ list_all is_printable current
  pub found : scan.fault ≡ body_fault 0 lines
  pub left : scan.fault ≡ None → scan.room + length (body_text lines) ≡ longest_body

-- why the current line is refused, if it ends here
abbrev pub own_fault : Scan → Option Refusal
own_fault scan =
    if nat_lt 4096 scan.line then Some refusals.LineTooLong
    else (if not scan.printable then Some refusals.NotPrintable
    else (if nat_le scan.room scan.line then Some refusals.TableTooLong else None))

-- what an assembler holds: bytes, and how far they have come
pub record Kept : Type 0 where
  pub bytes : List ℕ
  pub stage : Stage

-- the most bytes of a command that isn't refused: a line, a body, two newlines
abbrev pub room : ℕ
room = 266242

-- the refusal of a command
abbrev pub fault_of : Said → Option Refusal
fault_of (Bad refusal) = Some refusal
fault_of said = None

-- The bytes were fed since the last whole command.
abbrev pub IsStage : Stage → List ℕ → Type 0
IsStage stages.First seen = IsText seen
IsStage (stages.Body malformed scan) seen =
    (opening : Opening) × (body : List ℕ) × Opens (opening_text opening) opening
    × (seen ≡ opening_text opening ++ 10 ∷ body) × (malformed ≡ not (is_target opening.target)) × Scans scan body
IsStage (stages.Whole fault) seen = ⊥

-- The bytes are a whole command, and this is its fault.
abbrev pub IsEnd : Stage → List ℕ → Type 0
IsEnd (stages.Whole fault) bytes = IsWhole bytes × (fault ≡ fault_of (command_of bytes))
IsEnd stage bytes = ⊥

-- The bytes are those of the stage, and whole where it is the last.
abbrev pub IsNext : Stage → List ℕ → Type 0
IsNext (stages.Whole fault) bytes = IsEnd (stages.Whole fault) bytes
IsNext stage bytes = IsStage stage bytes

-- the stage is that of a whole command
abbrev pub IsWholeStage : Stage → Type 0
IsWholeStage (stages.Whole fault) = Unit {0}
IsWholeStage stage = ⊥

-- the last byte that was fed completed a command
abbrev pub HasWhole : Kept → Type 0
HasWhole kept = IsWholeStage kept.stage

-- the refusal of a whole command
abbrev pub stage_fault : Stage → Option Refusal
stage_fault (stages.Whole fault) = fault
stage_fault stage = None

-- nothing kept and nothing fed
abbrev pub nothing : Kept
nothing = record { bytes = []; stage = stages.First }

-- a whole command makes place for the next one
abbrev pub begun_at : Stage → Kept → Kept
begun_at (stages.Whole fault) kept = nothing
begun_at stage kept = kept

-- the command isn't refused
abbrev pub IsKnown : Said → Type 0
IsKnown (Bad refusal) = ⊥
IsKnown said = Unit {0}

-- These bytes were fed since the last whole command: none where one is just complete.
abbrev pub Fed : Kept → List ℕ → Type 0
Fed kept seen = (IsStage kept.stage seen × (kept.bytes ≡ take room seen)) ⊎ (HasWhole kept × (seen ≡ []))

-- These bytes are the whole command that the last byte completed.
abbrev pub Completed : Kept → List ℕ → Type 0
Completed kept bytes = IsEnd kept.stage bytes × (kept.bytes ≡ take room bytes)
