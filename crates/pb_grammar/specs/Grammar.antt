-- The control grammar: which bytes are which command.
use Rattle.std.specs.Prelude.{◌≡◌, ◌≢◌, ℕ, ◌+◌, ◌-◌, ◌≤◌, ◌<◌, ◌==◌, ◌&&◌, ◌||◌, ◌⊎◌, nat_eq, nat_le, nat_lt, not, Bool, true, false, List, [], ◌∷◌, ◌++◌, length, take, drop, position, All, Option, Some, None, codes, if◌then◌else◌}
use Rattle.std.specs.List.{list_all, slice_split, flat_map}
use Rattle.std.specs.Cmp.Lexicographic.{pointwise}
use Rattle.std.specs.Option.{option_map, option_map_or, option_and_then}
use Rattle.pb_words.specs.declared.refusals.Refusal.{Refusal}
use Rattle.pb_words.specs.declared.refusals.Refusal.TheVariants as refusals
use Rattle.pb_grammar.specs.Targets.{IsTargetText, is_name}
use Rattle.pb_grammar.specs.declared.tables.OpeningLine.{OpeningLine}
use Rattle.pb_grammar.specs.declared.commands.Command.{Command}
use Rattle.pb_grammar.specs.declared.commands.Command.TheVariants as commands

-- Texts.

-- no byte is a newline
abbrev pub IsText : List ℕ → Type 0
IsText text = All (λ b. b ≢ 10) text

-- what follows the front, where the text begins with it
abbrev pub after_front : List ℕ → List ℕ → Option (List ℕ)
after_front front text =
    if pointwise nat_eq (take (length front) text) front then Some (drop (length front) text) else None

-- what stands before the end, where the text ends with it
abbrev pub before_end : List ℕ → List ℕ → Option (List ℕ)
before_end end text =
    if pointwise nat_eq (drop (length text - length end) text) end
    then Some (take (length text - length end) text)
    else None

-- Commands.

-- what a command says, its target and its value as they are written
pub data Said : Type 0 where
  Query : (target : List ℕ) → Said
  Assign : (target : List ℕ) (value : List ℕ) → Said
  Table : (target : List ℕ) (append base64 : Bool) (body : List ℕ) → Said
  Echo : (text : List ℕ) → Said
  Bad : (refusal : Refusal) → Said

-- a byte that can be printed, the space among them
abbrev pub is_printable : ℕ → Bool
is_printable b = nat_le 32 b && nat_le b 126

-- the greatest number of bytes before the newline
abbrev pub longest : ℕ
longest = 4096

-- the text can be that of a line
pub record IsSound (text : List ℕ) : Type 0 where
  pub short : length text ≤ longest
  pub printable : list_all is_printable text ≡ true

-- Lines.

-- What the text of a line says, where it says anything.
abbrev pub Says : List ℕ → Said → Type 0
-- `LUT1.FUNC?`
Says text (Query target) = IsTargetText target × (text ≡ target ++ codes "?")
-- `LUT1.FUNC=A&B`
Says text (Assign target value) = IsTargetText target × (text ≡ target ++ codes "=" ++ value)
-- `*ECHO Is anybody there?`
Says text (Echo words) = text ≡ codes "*ECHO " ++ words ++ codes "?"
Says text (Table target append base64 body) = ⊥
Says text (Bad refusal) = ⊥

-- the bytes are a line with this text
abbrev pub IsLine : List ℕ → List ℕ → Type 0
IsLine bytes text = IsText text × (bytes ≡ text ++ 10 ∷ [])

-- Why the bytes of a line are no command.
abbrev pub IsBad : List ℕ → Refusal → Type 0
IsBad bytes refusals.LineTooLong = (text : List ℕ) × IsLine bytes text × (longest < length text)
IsBad bytes refusals.NotPrintable =
    (text : List ℕ) × IsLine bytes text × (length text ≤ longest) × (list_all is_printable text ≡ false)
-- they are no line, or the text of a line that says nothing
IsBad bytes refusals.MalformedCommand =
    (text : List ℕ) → IsLine bytes text → IsSound text × ((said : Said) → ¬ (Says text said))
IsBad bytes _ = ⊥

-- the bytes are a line of a sound text, and this is what it says
abbrev pub IsSaid : List ℕ → Said → Type 0
IsSaid bytes said = (text : List ℕ) × IsLine bytes text × IsSound text × Says text said

-- The bytes of a line, its newline included, and what it says; other bytes are malformed.
abbrev pub IsLineCommand : List ℕ → Said → Type 0
IsLineCommand bytes (Bad refusal) = IsBad bytes refusal
IsLineCommand bytes said = IsSaid bytes said

-- `?`, `=` and `<` decide what a line is
abbrev pub is_deciding : ℕ → Bool
is_deciding b = b == 63 || b == 61 || b == 60

-- Table writes: a line that opens a body, the body, and an empty line.

-- what the first line of a table write says; whether the target is one doesn't matter yet
pub record Opening : Type 0 where
  pub target : List ℕ
  pub append : Bool
  pub base64 : Bool

-- what stands behind the target
abbrev pub sign_of : Bool → Bool → List ℕ
sign_of false false = codes "<"
sign_of true false = codes "<<"
sign_of false true = codes "<B"
sign_of true true = codes "<<B"

abbrev pub opening_text : Opening → List ℕ
opening_text opening = opening.target ++ sign_of opening.append opening.base64

-- the line opens a body: its first deciding byte is `<`, and behind it stands what may
pub record Opens (text : List ℕ) (opening : Opening) : Type 0 where
  pub sound : IsSound text
  pub undecided : list_all (λ b. not (is_deciding b)) opening.target ≡ true
  pub printed : text ≡ opening_text opening

-- a line of a body isn't empty
pub record IsBodyLine (line : List ℕ) : Type 0 where
  pub text : IsText line
  pub some : 0 < length line

-- the bytes of a body: its lines, each with its newline
abbrev pub body_text : List (List ℕ) → List ℕ
body_text lines = flat_map (λ line. line ++ 10 ∷ []) lines

-- the bytes are a table write of these lines
pub record IsTable (bytes : List ℕ) (opening : Opening) (lines : List (List ℕ)) : Type 0 where
  pub opens : Opens (opening_text opening) opening
  pub body : All IsBodyLine lines
  pub printed : bytes ≡ opening_text opening ++ 10 ∷ (body_text lines ++ 10 ∷ [])

-- the greatest number of bytes of a body, newlines counted
abbrev pub longest_body : ℕ
longest_body = 262144

-- why a line of a body is refused, where the body has so many bytes before it
abbrev pub line_fault : ℕ → List ℕ → Option Refusal
line_fault before line =
    if nat_lt longest (length line) then Some refusals.LineTooLong
    else (if not (list_all is_printable line) then Some refusals.NotPrintable
    else (if nat_lt longest_body (before + length line + 1) then Some refusals.TableTooLong else None))

-- the one, or else the other
abbrev pub first_of : Option Refusal → Option Refusal → Option Refusal
first_of (Some refusal) other = Some refusal
first_of None other = other

-- the first bad line of a body decides
abbrev pub body_fault : ℕ → List (List ℕ) → Option Refusal
body_fault before [] = None
body_fault before (line ∷ lines) = first_of (line_fault before line) (body_fault (before + length line + 1) lines)

-- nothing that is known
abbrev pub malformed : Said
malformed = Bad refusals.MalformedCommand

-- what a body without a fault, or with one, says of its target
abbrev pub written : Opening → List (List ℕ) → Option Refusal → Said
written opening lines None = Table opening.target opening.append opening.base64 (body_text lines)
written opening lines (Some refusal) = Bad refusal

-- The bytes are a table write, and this is what it says: the target decides before the body.
pub record IsTableCommand (bytes : List ℕ) (said : Said) : Type 0 where
  pub opening : Opening
  pub lines : List (List ℕ)
  pub table : IsTable bytes opening lines
  pub known : IsTargetText opening.target → said ≡ written opening lines (body_fault 0 lines)
  pub unknown : ¬ (IsTargetText opening.target) → said ≡ malformed

-- no table write has these bytes
abbrev pub IsNoTable : List ℕ → Type 0
IsNoTable bytes = (opening : Opening) (lines : List (List ℕ)) → ¬ (IsTable bytes opening lines)

-- The bytes of one command, its last newline included, and what it says. Bytes that are no whole command are malformed.
abbrev pub IsCommand : List ℕ → Said → Type 0
IsCommand bytes said = IsTableCommand bytes said ⊎ IsNoTable bytes × IsLineCommand bytes said

-- The same, computed.

-- what stands between the points of a text
abbrev pub pieces : List ℕ → List (List ℕ)
pieces text = slice_split (λ b. b == 46) text

-- how many names with points between them the text is; 0 for any other text
unfoldable pub names_in : List ℕ → ℕ
names_in text = if list_all is_name (pieces text) then length (pieces text) else 0

-- the number is from low to high
abbrev pub is_within : ℕ → ℕ → ℕ → Bool
is_within low high n = nat_le low n && nat_le n high

-- `LUT1.INPA`, or with an attribute `LUT1.INPA.DELAY`
abbrev pub is_plain_target : List ℕ → Bool
is_plain_target text = is_within 2 3 (names_in text)

-- what stands before `.*` is the name of a block, or a field
abbrev pub is_listed : List ℕ → Bool
is_listed front = is_within 1 2 (names_in front)

-- what stands after `*` is one to four names
abbrev pub is_star : List ℕ → Bool
is_star name = is_within 1 4 (names_in name)

-- a field or an attribute; all fields of a block, as `LUT1.*`, or all attributes of a field, as
-- `LUT1.INPA.*`; or what isn't of a block, as `*IDN`
unfoldable pub is_target : List ℕ → Bool
is_target text =
    option_map_or is_star
    (after_front (codes "*") text)
    (option_map_or is_listed (before_end (codes ".*") text) (is_plain_target text))

-- what stands before the newline, where that is the last byte and the only newline
abbrev pub line_text : List ℕ → Option (List ℕ)
line_text [] = None
line_text (b ∷ bs) =
    if b == 10
    then (if length bs == 0 then Some [] else None)
    else option_map (λ text. b ∷ text) (line_text bs)

-- what the echo query asks to be said again
abbrev pub echo_in : List ℕ → Option (List ℕ)
echo_in text = option_and_then (before_end (codes "?")) (after_front (codes "*ECHO ") text)

-- what a target says with the deciding byte behind it, and what follows that
abbrev pub decided : List ℕ → ℕ → List ℕ → Said
decided target sign rest =
    if not (is_target target) then malformed
    else (if sign == 61 then Assign target rest
    else (if sign == 63 && length rest == 0 then Query target else malformed))

-- the text from the deciding byte on
abbrev pub decided_at : List ℕ → List ℕ → Said
decided_at target [] = malformed
decided_at target (sign ∷ rest) = decided target sign rest

-- what a text says that is no echo query: its first deciding byte decides
abbrev pub plainly_said : List ℕ → Said
plainly_said text =
    option_map_or (λ place. decided_at (take place text) (drop place text)) (position is_deciding text) malformed

-- what the text of a line says
unfoldable pub said_in : List ℕ → Said
said_in text =
    if nat_lt longest (length text) then Bad refusals.LineTooLong
    else (if not (list_all is_printable text) then Bad refusals.NotPrintable
    else option_map_or (λ words. Echo words) (echo_in text) (plainly_said text))

-- the opening with this target, where what stands behind it may
abbrev pub opening_at : List ℕ → List ℕ → Option Opening
opening_at target behind =
    if pointwise nat_eq behind (codes "<") then Some (record { target = target; append = false; base64 = false })
    else (if pointwise nat_eq behind (codes "<<") then Some (record { target = target; append = true; base64 = false })
    else (if pointwise nat_eq behind (codes "<B") then Some (record { target = target; append = false; base64 = true })
    else (if pointwise nat_eq behind (codes "<<B") then Some (record { target = target; append = true; base64 = true })
    else None)))

-- whether the text can be that of a line
abbrev pub is_sound : List ℕ → Bool
is_sound text = nat_le (length text) longest && list_all is_printable text

-- the opening that the text of a line is
unfoldable pub opening_in : List ℕ → Option Opening
opening_in text =
    if is_sound text
    then option_and_then (λ place. opening_at (take place text) (drop place text)) (position is_deciding text)
    else None

-- what an opening and the lines of its body say
abbrev pub table_said : Opening → List (List ℕ) → Said
table_said opening lines = if is_target opening.target then written opening lines (body_fault 0 lines) else malformed

-- these are the two empty pieces behind the last newlines
abbrev pub is_end : List (List ℕ) → Bool
is_end [] = false
is_end (piece ∷ more) = length piece == 0 && length more == 0

-- the lines of a body, where an empty line follows them and nothing else
abbrev pub body_of : List (List ℕ) → Option (List (List ℕ))
body_of [] = None
body_of (line ∷ more) =
    if length line == 0
    then (if is_end more then Some [] else None)
    else option_map (λ lines. line ∷ lines) (body_of more)

-- what stands between the newlines
abbrev pub rows : List ℕ → List (List ℕ)
rows bytes = slice_split (λ b. b == 10) bytes

-- what an opening says with what stands behind its newline
abbrev pub with_body : Opening → List ℕ → Said
with_body opening behind = option_map_or (table_said opening) (body_of (rows behind)) malformed

-- what a first line says with what stands behind its newline
abbrev pub opened : List ℕ → List ℕ → Said
opened first behind = option_map_or (λ opening. with_body opening behind) (opening_in first) malformed

-- what the bytes of a table write say
unfoldable pub table_in : List ℕ → Said
table_in bytes =
    option_map_or (λ place. opened (take place bytes) (drop (place + 1) bytes)) (position (λ b. b == 10) bytes) malformed

-- what the bytes of a command say
unfoldable pub command_of : List ℕ → Said
command_of bytes = option_map_or said_in (line_text bytes) (table_in bytes)

-- what a command that was read says
abbrev pub said_of : Command → Said
said_of (commands.Query target) = Query target.now
said_of (commands.Assign target value) = Assign target.now value.now
said_of (commands.Table target append base64 body) = Table target.now append base64 body.now
said_of (commands.Echo text) = Echo text.now
said_of (commands.Bad refusal) = Bad refusal

-- what an opening that was read says
abbrev pub opening_of : OpeningLine → Opening
opening_of line = record { target = line.target.now; append = line.append; base64 = line.base64 }
