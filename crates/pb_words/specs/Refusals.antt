-- The numbers of the refusals and the lines that answer a refused command.
use Rattle.std.specs.Prelude.{ℕ, List, [], ◌∷◌, ◌++◌, codes}
use Rattle.pb_words.specs.declared.refusals.Refusal.{Refusal}
use Rattle.pb_words.specs.declared.refusals.Refusal.TheVariants as refusals

-- the place of the refusal in the table of refusals, from 1
abbrev pub number_of : Refusal → ℕ
number_of refusals.LineTooLong = 1
number_of refusals.NotPrintable = 2
number_of refusals.MalformedCommand = 3
number_of refusals.NoSuchBlock = 4
number_of refusals.BlockNumberOutOfRange = 5
number_of refusals.NoSuchField = 6
number_of refusals.NoSuchAttribute = 7
number_of refusals.NotReadable = 8
number_of refusals.NotWriteable = 9
number_of refusals.MalformedValue = 10
number_of refusals.ValueOutOfRange = 11
number_of refusals.UnknownLabel = 12
number_of refusals.TableTooLong = 13
number_of refusals.NotWholeRows = 14
number_of refusals.MalformedBase64 = 15
number_of refusals.AlreadyArmed = 16
number_of refusals.NotArmed = 17
number_of refusals.NothingCaptured = 18
number_of refusals.TooManyHeld = 19
number_of refusals.OutOfMemory = 20
number_of refusals.UnknownOption = 21
number_of refusals.ScaledNeedsAscii = 22

-- what the user reads
abbrev pub text_of : Refusal → List ℕ
text_of refusals.LineTooLong = codes "Line too long"
text_of refusals.NotPrintable = codes "Not printable"
text_of refusals.MalformedCommand = codes "Malformed command"
text_of refusals.NoSuchBlock = codes "No such block"
text_of refusals.BlockNumberOutOfRange = codes "Block number out of range"
text_of refusals.NoSuchField = codes "No such field"
text_of refusals.NoSuchAttribute = codes "No such attribute"
text_of refusals.NotReadable = codes "Not readable"
text_of refusals.NotWriteable = codes "Not writeable"
text_of refusals.MalformedValue = codes "Malformed value"
text_of refusals.ValueOutOfRange = codes "Value out of range"
text_of refusals.UnknownLabel = codes "Unknown label"
text_of refusals.TableTooLong = codes "Table too long"
text_of refusals.NotWholeRows = codes "Not whole rows"
text_of refusals.MalformedBase64 = codes "Malformed base64"
text_of refusals.AlreadyArmed = codes "Already armed"
text_of refusals.NotArmed = codes "Not armed"
text_of refusals.NothingCaptured = codes "Nothing captured"
text_of refusals.TooManyHeld = codes "Too many acquisitions held"
text_of refusals.OutOfMemory = codes "Out of memory"
text_of refusals.UnknownOption = codes "Unknown option"
text_of refusals.ScaledNeedsAscii = codes "SCALED needs ASCII"

-- the line `ERR text`, newline included
abbrev pub line_of : Refusal → List ℕ
line_of refusal = codes "ERR " ++ text_of refusal ++ 10 ∷ []
