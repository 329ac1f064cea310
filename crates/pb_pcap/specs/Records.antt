-- Records as bytes: the fields of a layout one after the other, each lowest byte first, without padding.
use Rattle.std.specs.Prelude.{ℕ, ◌-◌, ◌==◌, nat_lt, ℤ, pos, List, [], ◌++◌, slice_index, slice_index_or, if◌then◌else◌}
use Rattle.std.specs.List.{flat_map}
use Rattle.std.specs.Int.{w32, w64, cast_unsigned}
use Rattle.byteorder.specs.Endian.{little_bytes}
use Rattle.pb_names.specs.declared.position_bus.TheConstants as bus_names
use Rattle.pb_buses.specs.declared.Record.{Record}
use Rattle.pb_pcap.specs.declared.entries.TheConstants as names
use Rattle.pb_pcap.specs.declared.fields.Choice.{Choice}
use Rattle.pb_pcap.specs.declared.fields.Choice.TheVariants as choices
use Rattle.pb_pcap.specs.declared.fields.Field.{Field}

-- a signed number of 32 bits, and one of 64
unfoldable pub int32 : ℤ → List ℕ
int32 number = little_bytes 4 (cast_unsigned w32 number)

unfoldable pub int64 : ℤ → List ℕ
int64 number = little_bytes 8 (cast_unsigned w64 number)

-- what is captured of a position, in the order of the choice's label
abbrev pub position_bytes : Choice → ℕ → Record → List ℕ
position_bytes choices.No entry row = []
position_bytes choices.Value entry row = int32 (slice_index_or row.value entry (pos 0))
position_bytes choices.Min entry row = int32 (slice_index_or row.least entry (pos 0))
position_bytes choices.Max entry row = int32 (slice_index_or row.greatest entry (pos 0))
position_bytes choices.Sum entry row = int64 (slice_index_or row.sum entry (pos 0))
position_bytes choices.MinMax entry row =
    int32 (slice_index_or row.least entry (pos 0)) ++ int32 (slice_index_or row.greatest entry (pos 0))
position_bytes choices.MinMaxSum entry row =
    int32 (slice_index_or row.least entry (pos 0)) ++ int32 (slice_index_or row.greatest entry (pos 0))
    ++ int64 (slice_index_or row.sum entry (pos 0))

-- the time stamp or the count of this entry
abbrev pub stamp : ℕ → Record → ℕ
stamp entry row =
    if entry == names.TS_START then row.ts_start
    else (if entry == names.TS_END then row.ts_end
    else (if entry == names.TS_TRIG then row.ts_trig else row.gate_duration))

abbrev pub extra_bytes : ℕ → Record → List ℕ
extra_bytes entry row =
    if nat_lt entry names.BITS0 then little_bytes 8 (stamp entry row)
    else little_bytes 4 (slice_index row.words (entry - names.BITS0))

abbrev pub field_bytes : Field → Record → List ℕ
field_bytes field row =
    if nat_lt field.entry bus_names.WIDTH then position_bytes field.choice field.entry row
    else extra_bytes field.entry row

-- the bytes of a record by the fields of a layout
abbrev pub record_bytes : List Field → Record → List ℕ
record_bytes fields row = flat_map (λ field. field_bytes field row) fields

-- the bytes of records, one after the other
abbrev pub records_bytes : List Field → List Record → List ℕ
records_bytes fields rows = flat_map (record_bytes fields) rows

-- The records of an acquisition: by which layout they are kept, their bytes, how many they are, and for how many
-- more there is room in memory.
pub record Held : Type 0 where
  pub layout : List Field
  pub bytes : List ℕ
  pub count : ℕ
  pub spare : ℕ
