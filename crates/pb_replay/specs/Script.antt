-- Replay scripts: which bytes are which lines.
use Rattle.std.specs.Prelude.{◌≡◌, ◌≢◌, ℕ, ℤ, pos, neg_ℤ, ◌<◌, ◌≤◌, ◌^◌, ◌⊎◌, Bool, true, false, List, [], ◌∷◌, ◌++◌, length, All, codes}
use Rattle.pb_words.specs.Numbers.{WritesNumber}
use Rattle.pb_grammar.specs.Grammar.{IsText}
use Rattle.pb_replay.specs.Inputs.{MayHave}

-- what a line does at its tick
pub data Deed : Type 0 where
  -- the input of this name has this value from here on
  Level : (target : List ℕ) (value : ℤ) → Deed
  -- a control session sends this line; it opens before, where it isn't open
  Command : (session : ℕ) (text : List ℕ) → Deed
  -- a control session closes
  CloseControl : (session : ℕ) → Deed
  -- a data session opens with this options line; it closes before, where it is open
  OpenData : (session : ℕ) (options : List ℕ) → Deed
  -- a data session takes one piece
  Take : (session : ℕ) → Deed
  -- a data session closes
  CloseData : (session : ℕ) → Deed
  -- the end of the script
  End : Deed

-- a line: empty or a comment, or a deed at a tick
pub data Line : Type 0 where
  Skipped : Line
  Timed : (tick : ℕ) (deed : Deed) → Line

-- How a line is written. Its parts are separated by one space.

-- the text writes the number: digits, perhaps after a minus sign
pub record WritesSigned (text : List ℕ) (value : ℤ) : Type 0 where
  pub digits : List ℕ
  pub size : ℕ
  pub number : WritesNumber digits size
  pub signed : ((text ≡ digits) × (value ≡ pos size)) ⊎ ((text ≡ 45 ∷ digits) × (value ≡ neg_ℤ (pos size)))

-- the text can be the name of a target: it isn't empty and has no space
pub record IsName (text : List ℕ) : Type 0 where
  pub some : 0 < length text
  pub spaceless : All (λ b. b ≢ 32) text

-- what follows the number of a session: nothing, or a space and the text
abbrev pub Follows : List ℕ → List ℕ → Type 0
Follows rest text = ((rest ≡ []) × (text ≡ [])) ⊎ (rest ≡ 32 ∷ text)

-- a letter, and the number of a session
abbrev pub NamesSession : List ℕ → List ℕ → ℕ → Type 0
NamesSession rest letter session = (digits : List ℕ) × WritesNumber digits session × (rest ≡ letter ++ 32 ∷ digits)

-- a letter, the number of a session, and perhaps a text
abbrev pub SendsText : List ℕ → List ℕ → ℕ → List ℕ → Type 0
SendsText rest letter session text =
    (digits : List ℕ) × (more : List ℕ) × WritesNumber digits session × Follows more text × (rest ≡ letter ++ 32 ∷ digits ++ more)

-- What stands behind the tick of a line with this deed.
abbrev pub Says : List ℕ → Deed → Type 0
-- `S TTLIN3 1`
Says rest (Level target value) =
    (written : List ℕ) × IsName target × WritesSigned written value × (rest ≡ codes "S " ++ target ++ 32 ∷ written)
-- `C 1 LUT1.OUT?`
Says rest (Command session text) = SendsText rest (codes "C") session text
-- `X 1`
Says rest (CloseControl session) = NamesSession rest (codes "X") session
-- `D 1 ASCII UNSCALED`
Says rest (OpenData session options) = SendsText rest (codes "D") session options
-- `R 1`
Says rest (Take session) = NamesSession rest (codes "R") session
-- `Y 1`
Says rest (CloseData session) = NamesSession rest (codes "Y") session
-- `E`
Says rest End = rest ≡ codes "E"

-- The text of a line, without its newline.
abbrev pub IsLine : List ℕ → Line → Type 0
IsLine text Skipped = (text ≡ []) ⊎ ((comment : List ℕ) × (text ≡ 35 ∷ comment))
IsLine text (Timed tick deed) =
    (digits : List ℕ) × (rest : List ℕ) × WritesNumber digits tick × Says rest deed × (text ≡ digits ++ 32 ∷ rest)

-- the bytes are these lines, each ended by a newline
abbrev pub WritesLines : List ℕ → List Line → Type 0
WritesLines bytes [] = bytes ≡ []
WritesLines bytes (line ∷ lines) =
    (text : List ℕ) × (rest : List ℕ) × IsText text × IsLine text line × (bytes ≡ text ++ 10 ∷ rest) × WritesLines rest lines

-- The rules that lines keep.

-- the sessions of either port are 1 to 8
abbrev pub IsSession : ℕ → Type 0
IsSession session = (1 ≤ session) × (session ≤ 8)

-- the numbers of a deed are in range
abbrev pub IsInRange : Deed → Type 0
IsInRange (Level target value) = MayHave target value
IsInRange (Command session text) = IsSession session
IsInRange (CloseControl session) = IsSession session
IsInRange (OpenData session options) = IsSession session
IsInRange (Take session) = IsSession session
IsInRange (CloseData session) = IsSession session
IsInRange End = Unit {0}

-- the deed is the end
abbrev pub is_end : Deed → Bool
is_end (Level target value) = false
is_end (Command session text) = false
is_end (CloseControl session) = false
is_end (OpenData session options) = false
is_end (Take session) = false
is_end (CloseData session) = false
is_end End = true

-- The lines may follow a line of this tick: ticks are below 2^62 and never fall, numbers are in range, and E comes once,
-- as the last line that isn't skipped. The flag tells whether it has come.
abbrev pub KeepRules : Bool → ℕ → List Line → Type 0
KeepRules ended last [] = ended ≡ true
KeepRules ended last (Skipped ∷ lines) = KeepRules ended last lines
KeepRules ended last (Timed tick deed ∷ lines) =
    (ended ≡ false) × (tick < 2 ^ 62) × (last ≤ tick) × IsInRange deed × KeepRules (is_end deed) tick lines

-- the bytes are a script, of at most 16 MiB, and these are its lines
pub record IsScript (bytes : List ℕ) (lines : List Line) : Type 0 where
  pub size : length bytes ≤ 16777216
  pub spelled : WritesLines bytes lines
  pub rules : KeepRules false 0 lines
