-- What the client of a data session is handed out of an acquisition: a header, pieces of records, and an end.
use Rattle.std.specs.Prelude.{ℕ, ◌+◌, ◌-◌, ◌*◌, ◌&&◌, nat_lt, Bool, ℤ, pos, ◌+ℤ◌, ◌*ℤ◌, List, [], ◌∷◌, ◌++◌, length, take, drop, map, codes, decimal, if◌then◌else◌}
use Rattle.std.specs.List.{flat_map, range_with_len}
use Rattle.std.specs.Option.{option_map_or}
use Rattle.std.specs.Fmt.{signed_decimal}
use Rattle.std.specs.Int.{w32, w64, cast_signed, div_ceil}
use Rattle.base64.specs.Engines.{standard}
use Rattle.base64.specs.GeneralPurpose.{encode_of}
use Rattle.byteorder.specs.Endian.{little_bytes, little_number}
use Rattle.pb_names.specs.declared.TheConstants.{ITSELF}
use Rattle.pb_names.specs.declared.pcap.TheConstants as pcap
use Rattle.pb_names.specs.declared.position_bus.TheConstants as bus_names
use Rattle.pb_words.specs.Decimals.{canonical}
use Rattle.pb_fields.specs.declared.Slot.{Slot}
use Rattle.pb_fields.specs.Entries.{at_entry_of}
use Rattle.pb_fields.specs.Names.{target_of}
use Rattle.pb_fields.specs.Order.{slot_at}
use Rattle.pb_buses.specs.declared.Condition.{Condition}
use Rattle.pb_buses.specs.declared.Condition.TheVariants as conditions
use Rattle.pb_pcap.specs.declared.entries.TheConstants as names
use Rattle.pb_pcap.specs.declared.fields.Choice.{Choice}
use Rattle.pb_pcap.specs.declared.fields.Choice.TheVariants as choices
use Rattle.pb_pcap.specs.declared.fields.Field.{Field}
use Rattle.pb_pcap.specs.Fields.{name_of, field_size, size_of}
use Rattle.pb_encode.specs.declared.options.Form.{Form}
use Rattle.pb_encode.specs.declared.options.Form.TheVariants as forms
use Rattle.pb_encode.specs.declared.options.Options.{Options}
use Rattle.pb_encode.specs.declared.quantities.Quantity.{Quantity}
use Rattle.pb_encode.specs.declared.quantities.Quantity.TheVariants as quantities

-- The numbers of a record.

abbrev pub is_position : ℕ → Bool
is_position entry = nat_lt entry bus_names.WIDTH

-- what is captured of an entry, in the order of the choice's label
abbrev pub quantities_of : Choice → List Quantity
quantities_of choices.No = []
quantities_of choices.Value = quantities.Value ∷ []
quantities_of choices.Min = quantities.Min ∷ []
quantities_of choices.Max = quantities.Max ∷ []
quantities_of choices.Sum = quantities.Sum ∷ []
quantities_of choices.MinMax = quantities.Min ∷ quantities.Max ∷ []
quantities_of choices.MinMaxSum = quantities.Min ∷ quantities.Max ∷ quantities.Sum ∷ []

abbrev pub quantity_name : Quantity → List ℕ
quantity_name quantities.Value = codes "Value"
quantity_name quantities.Min = codes "Min"
quantity_name quantities.Max = codes "Max"
quantity_name quantities.Sum = codes "Sum"

-- of a position
abbrev pub position_type : Quantity → List ℕ
position_type quantities.Sum = codes "int64"
position_type _ = codes "int32"

abbrev pub position_size : Quantity → ℕ
position_size quantities.Sum = 8
position_size _ = 4

abbrev pub position_in : Quantity → List ℕ → ℤ
position_in quantities.Sum bytes = cast_signed w64 (little_number 8 bytes)
position_in _ bytes = cast_signed w32 (little_number 4 bytes)

-- time stamps and the count have 64 bits, and words of bits 32
abbrev pub type_name : ℕ → Quantity → List ℕ
type_name entry quantity =
    if is_position entry then position_type quantity
    else (if nat_lt entry names.BITS0 then codes "uint64" else codes "uint32")

abbrev pub extra_size : ℕ → ℕ
extra_size entry = if nat_lt entry names.BITS0 then 8 else 4

abbrev pub number_size : ℕ → Quantity → ℕ
number_size entry quantity = if is_position entry then position_size quantity else extra_size entry

abbrev pub count_in : ℕ → List ℕ → ℕ
count_in entry bytes = if nat_lt entry names.BITS0 then little_number 8 bytes else little_number 4 bytes

-- what is added to a scaled number, in billionths: nothing to a sum
abbrev pub offset_of : Field → Quantity → ℤ
offset_of field quantities.Sum = pos 0
offset_of field _ = field.offset.billionths

-- The header.

-- the field of PCAP whose value an entry is
abbrev pub own_slot : ℕ → Slot
own_slot entry = slot_at pcap.BLOCK 1 (pcap.TS_START + (entry - names.TS_START)) ITSELF

-- an entry's name, as it is printed
unfoldable pub entry_name : ℕ → List ℕ
entry_name entry =
    if is_position entry then option_map_or target_of (at_entry_of (bus_names.FIRST + entry)) []
    else target_of (own_slot entry)

-- how a position is scaled
abbrev pub scale_text : Field → Quantity → List ℕ
scale_text field quantity =
    codes " Scale: " ++ canonical field.scale.billionths ++ codes " Offset: " ++ canonical (offset_of field quantity)
    ++ codes " Units: " ++ name_of field.units

abbrev pub scale_where : Bool → Field → Quantity → List ℕ
scale_where is_scaled field quantity =
    if is_scaled && is_position field.entry then scale_text field quantity else []

-- the type of a number, and what it is
abbrev pub kind_text : ℕ → Quantity → List ℕ
kind_text entry quantity = codes " " ++ type_name entry quantity ++ codes " " ++ quantity_name quantity

abbrev pub number_line : Bool → Field → Quantity → List ℕ
number_line is_scaled field quantity =
    codes " " ++ entry_name field.entry ++ kind_text field.entry quantity ++ scale_where is_scaled field quantity ++ codes "\n"

abbrev pub field_lines : Bool → Field → List ℕ
field_lines is_scaled field = flat_map (number_line is_scaled field) (quantities_of field.choice)

abbrev pub process_name : Bool → List ℕ
process_name is_scaled = if is_scaled then codes "Scaled" else codes "Unscaled"

abbrev pub form_name : Form → List ℕ
form_name forms.Ascii = codes "ASCII"
form_name forms.Base64 = codes "Base64"
form_name forms.Framed = codes "Framed"
form_name forms.Unframed = codes "Unframed"

abbrev pub process_line : Bool → List ℕ
process_line is_scaled = codes "process: " ++ process_name is_scaled ++ codes "\n"

abbrev pub form_line : Form → List ℕ
form_line form = codes "format: " ++ form_name form ++ codes "\n"

-- how the acquisition is handed out
abbrev pub head : Options → List ℕ
head options = codes "missed: 0\n" ++ process_line options.scaled ++ form_line options.form ++ codes "fields:\n"

abbrev pub header : Options → List Field → List ℕ
header options fields = head options ++ flat_map (field_lines options.scaled) fields ++ codes "\n"

-- A piece of records.

-- a position in its units, or as it is
abbrev pub position_text : Bool → Field → Quantity → ℤ → List ℕ
position_text is_scaled field quantity number =
    if is_scaled then canonical (number *ℤ field.scale.billionths +ℤ offset_of field quantity) else signed_decimal number

-- a number of a record, with whose bytes these begin
abbrev pub number_text : Bool → Field → Quantity → List ℕ → List ℕ
number_text is_scaled field quantity bytes =
    if is_position field.entry then position_text is_scaled field quantity (position_in quantity bytes)
    else decimal (count_in field.entry bytes)

-- each number after a space
abbrev pub numbers_text : Bool → Field → List Quantity → List ℕ → List ℕ
numbers_text is_scaled field [] bytes = []
numbers_text is_scaled field (quantity ∷ others) bytes =
    (codes " " ++ number_text is_scaled field quantity bytes)
    ++ numbers_text is_scaled field others (drop (number_size field.entry quantity) bytes)

abbrev pub fields_text : Bool → List Field → List ℕ → List ℕ
fields_text is_scaled [] bytes = []
fields_text is_scaled (field ∷ fields) bytes =
    numbers_text is_scaled field (quantities_of field.choice) bytes ++ fields_text is_scaled fields (drop (field_size field) bytes)

-- one line for a record
abbrev pub record_line : Bool → List Field → List ℕ → List ℕ
record_line is_scaled fields bytes = fields_text is_scaled fields bytes ++ codes "\n"

-- bytes cut into parts of this size, of which the last may be shorter
abbrev pub part : ℕ → List ℕ → ℕ → List ℕ
part size bytes i = take size (drop (i * size) bytes)

abbrev pub parts : ℕ → List ℕ → List (List ℕ)
parts size bytes = map (part size bytes) (range_with_len 0 (div_ceil (length bytes) size))

abbrev pub ascii : Bool → List Field → List ℕ → List ℕ
ascii is_scaled fields raw = flat_map (record_line is_scaled fields) (parts (size_of fields) raw)

-- letters in lines of 76, each after a space
abbrev pub letters_line : List ℕ → List ℕ
letters_line letters = codes " " ++ letters ++ codes "\n"

abbrev pub letters_lines : List ℕ → List ℕ
letters_lines letters = flat_map letters_line (parts 76 letters)

abbrev pub base64 : List ℕ → List ℕ
base64 raw = letters_lines (encode_of standard raw)

-- `BIN `, and the number of bytes of the frame, its first eight among them
abbrev pub framed : List ℕ → List ℕ
framed raw = codes "BIN " ++ little_bytes 4 (length raw + 8) ++ raw

abbrev pub piece_in : Form → Bool → List Field → List ℕ → List ℕ
piece_in forms.Ascii is_scaled fields raw = ascii is_scaled fields raw
piece_in forms.Base64 is_scaled fields raw = base64 raw
piece_in forms.Framed is_scaled fields raw = framed raw
piece_in forms.Unframed is_scaled fields raw = raw

abbrev pub piece : Options → List Field → List ℕ → List ℕ
piece options fields raw = piece_in options.form options.scaled fields raw

-- The end.

abbrev pub condition_name : Condition → List ℕ
condition_name conditions.Ok = codes "Ok"
condition_name conditions.Disarmed = codes "Disarmed"
condition_name conditions.Overrun = codes "Data overrun"

abbrev pub end_line : ℕ → Condition → List ℕ
end_line count condition = codes "END " ++ decimal count ++ codes " " ++ condition_name condition ++ codes "\n"

abbrev pub end : Options → ℕ → Condition → List ℕ
end options count condition = if options.status then end_line count condition else []

-- A whole acquisition.

-- the header where it is wanted, pieces of the records one after the other, and the end
abbrev pub encoded : Options → List Field → List (List ℕ) → ℕ → Condition → List ℕ
encoded options fields pieces count condition =
    (if options.header then header options fields else []) ++ flat_map (piece options fields) pieces
    ++ end options count condition
