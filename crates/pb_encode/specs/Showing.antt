-- A record as it is shown in ASCII: by its numbers, without a look at its bytes.
use Rattle.std.specs.Prelude.{ℕ, ◌-◌, ◌^◌, ◌<◌, nat_lt, Bool, ℤ, pos, List, ◌++◌, FitsSigned, slice_index, slice_index_or, codes, decimal, if◌then◌else◌}
use Rattle.std.specs.List.{flat_map}
use Rattle.std.specs.Int.{w32, w64}
use Rattle.pb_buses.specs.declared.Record.{Record}
use Rattle.pb_pcap.specs.declared.entries.TheConstants as names
use Rattle.pb_pcap.specs.declared.fields.Field.{Field}
use Rattle.pb_pcap.specs.Records.{stamp}
use Rattle.pb_encode.specs.declared.quantities.Quantity.{Quantity}
use Rattle.pb_encode.specs.declared.quantities.Quantity.TheVariants as quantities
use Rattle.pb_encode.specs.Encoding.{is_position, quantities_of, position_text}

-- the numbers of a position
abbrev pub position_of : Quantity → ℕ → Record → ℤ
position_of quantities.Value entry row = slice_index_or row.value entry (pos 0)
position_of quantities.Min entry row = slice_index_or row.least entry (pos 0)
position_of quantities.Max entry row = slice_index_or row.greatest entry (pos 0)
position_of quantities.Sum entry row = slice_index_or row.sum entry (pos 0)

-- a time stamp, the count, or a word of bits
abbrev pub extra_of : ℕ → Record → ℕ
extra_of entry row =
    if nat_lt entry names.BITS0 then stamp entry row else slice_index row.words (entry - names.BITS0)

-- each number of a record is in the range of its type
pub record IsInRange (row : Record) : Type 0 where
  pub value : (i : ℕ) → FitsSigned w32 (slice_index_or row.value i (pos 0))
  pub least : (i : ℕ) → FitsSigned w32 (slice_index_or row.least i (pos 0))
  pub greatest : (i : ℕ) → FitsSigned w32 (slice_index_or row.greatest i (pos 0))
  pub sum : (i : ℕ) → FitsSigned w64 (slice_index_or row.sum i (pos 0))
  pub ts_start : row.ts_start < 2 ^ 64
  pub ts_end : row.ts_end < 2 ^ 64
  pub ts_trig : row.ts_trig < 2 ^ 64
  pub gate_duration : row.gate_duration < 2 ^ 64
  pub words : (i : ℕ) → slice_index row.words i < 2 ^ 32

-- a number after a space
abbrev pub shown_number : Bool → Field → Record → Quantity → List ℕ
shown_number is_scaled field row quantity =
    codes " "
    ++ (if is_position field.entry then position_text is_scaled field quantity (position_of quantity field.entry row)
    else decimal (extra_of field.entry row))

abbrev pub shown_field : Bool → Record → Field → List ℕ
shown_field is_scaled row field = flat_map (shown_number is_scaled field row) (quantities_of field.choice)

-- a line
abbrev pub shown_record : Bool → List Field → Record → List ℕ
shown_record is_scaled fields row = flat_map (shown_field is_scaled row) fields ++ codes "\n"
