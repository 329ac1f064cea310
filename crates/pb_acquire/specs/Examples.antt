-- A few acquisitions, for worked examples.
use Rattle.std.specs.Prelude.{pos, Bool, true, false, List, ◌∷◌, []}
use Rattle.pb_buses.specs.declared.Condition.TheVariants as conditions
use Rattle.pb_buses.specs.declared.Record.{Record}
use Rattle.pb_pcap.specs.declared.fields.Choice.TheVariants as choices
use Rattle.pb_pcap.specs.declared.fields.Field.{Field}
use Rattle.pb_pcap.specs.Examples.{scan, row, field}
use Rattle.pb_encode.specs.declared.options.Form.TheVariants as forms
use Rattle.pb_encode.specs.declared.options.Options.{Options}
use Rattle.pb_acquire.specs.Acquisitions.{AllAcquisitions, opening, armed, recorded, ended}
use Rattle.pb_acquire.specs.Taking.{opened, after_take}

-- the value of one position
abbrev pub one_value : List Field
one_value = field 0 choices.Value ∷ []

abbrev pub some_row : Record
some_row = row (pos 7) (pos 7) (pos 7) (pos 0) 0 0 0 0

-- one was armed, and had two records
abbrev pub with_two : AllAcquisitions
with_two = recorded some_row (recorded some_row (armed scan opening))

-- it was disarmed
abbrev pub after_first : AllAcquisitions
after_first = ended conditions.Disarmed with_two

-- and the next is armed
abbrev pub second : AllAcquisitions
second = armed one_value after_first

-- the bytes alone after each other, with an end, of each acquisition or of one alone
abbrev pub unframed : Bool → Options
unframed is_alone = record { form = forms.Unframed; scaled = false; header = false; status = true; one_shot = is_alone }

-- one that was armed and disarmed
abbrev pub disarmed : AllAcquisitions → AllAcquisitions
disarmed all = ended conditions.Disarmed (armed one_value all)

-- four of these since reader 1 was opened
abbrev pub four_since : Options → AllAcquisitions
four_since options = disarmed (disarmed (disarmed (disarmed (opened 1 options opening))))

-- reader 1 joined the first after two records, and took them
abbrev pub joined : AllAcquisitions
joined = after_take 1 (opened 1 (unframed false) with_two)
