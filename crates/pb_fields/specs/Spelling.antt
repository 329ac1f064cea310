-- Words of private helpers: no public clause cites them.
-- How the faults of numbers are refused.
use Rattle.pb_words.specs.declared.NumFault.{NumFault}
use Rattle.pb_words.specs.declared.NumFault.TheVariants as faults
use Rattle.pb_words.specs.declared.Refusal.{Refusal}
use Rattle.pb_words.specs.declared.Refusal.TheVariants as refusals

-- the refusal of a text in which no number is found
abbrev pub refusal_for : NumFault → Refusal
refusal_for faults.Malformed = refusals.MalformedValue
refusal_for faults.TooLarge = refusals.ValueOutOfRange
