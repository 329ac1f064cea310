-- What readers take. An acquisition is handed out as a header where it is wanted, pieces of its records, and an end.
use Rattle.std.specs.Prelude.{ℕ, ◌/◌, nat_lt, Bool, false, List, ◌++◌, length, take, drop, Option, Some, None, is_some, slice_get, if◌then◌else◌, ⊤}
use Rattle.std.specs.Option.{option_to_list}
use Rattle.pb_buses.specs.declared.Condition.{Condition}
use Rattle.pb_buses.specs.declared.Record.{Record}
use Rattle.pb_pcap.specs.Fields.{size_of}
use Rattle.pb_pcap.specs.Records.{records_bytes}
use Rattle.pb_encode.specs.declared.options.Options.{Options}
use Rattle.pb_encode.specs.Encoding as encoding
use Rattle.pb_acquire.specs.declared.acquiring.TheConstants as limits
use Rattle.pb_acquire.specs.declared.readers.Reader.{Reader}
use Rattle.pb_acquire.specs.declared.readers.Piece.{Piece}
use Rattle.pb_acquire.specs.declared.readers.Piece.TheVariants as pieces
use Rattle.pb_acquire.specs.declared.readers.Taken.{Taken}
use Rattle.pb_acquire.specs.declared.readers.Taken.TheVariants as takes
use Rattle.pb_acquire.specs.Readers.{reader_from, reader_at, with_reader_at, after_header, after_records, after_end}
use Rattle.pb_acquire.specs.Acquisitions.{Acquisition, AllAcquisitions}

-- Readers come and go.

abbrev pub reader_of : AllAcquisitions → ℕ → Option Reader
reader_of all id = reader_at all.readers id

abbrev pub with_reader : ℕ → Option Reader → AllAcquisitions → AllAcquisitions
with_reader id reader all = record all { readers = with_reader_at all.readers id reader }

-- It begins with the acquisition that is armed or running, or else with the next one.
abbrev pub opened : ℕ → Options → AllAcquisitions → AllAcquisitions
opened id options all = with_reader id (Some (reader_from options (length all.completed))) all

abbrev pub closed : ℕ → AllAcquisitions → AllAcquisitions
closed id all = with_reader id None all

-- those that are over, and the one that is armed or running
abbrev pub all_armed : AllAcquisitions → List Acquisition
all_armed all = all.completed ++ option_to_list all.running

-- the one that so many came before, once it is armed
abbrev pub armed_at : AllAcquisitions → ℕ → Option Acquisition
armed_at all before = slice_get (all_armed all) before

-- a reader's own
abbrev pub own : Reader → AllAcquisitions → Option Acquisition
own reader all = armed_at all reader.before

-- Whether a reader's own acquisition has been armed, and its end wasn't taken.
abbrev pub is_active_reader : AllAcquisitions → Option Reader → Bool
is_active_reader all None = false
is_active_reader all (Some reader) = if reader.has_ended then false else is_some (own reader all)

-- the records of the next piece: so many that their bytes are at most 65,536, or all that are left
abbrev pub next_records : Reader → Acquisition → List Record
next_records reader acquisition =
    take (limits.PIECE_LIMIT / size_of acquisition.layout) (drop reader.given acquisition.records)

abbrev pub header_taken : Reader → Acquisition → Taken
header_taken reader acquisition = takes.Bytes (encoding.header reader.options acquisition.layout) (after_header reader)

abbrev pub records_taken : Reader → Acquisition → Taken
records_taken reader acquisition =
    takes.Bytes
    (encoding.piece reader.options acquisition.layout (records_bytes acquisition.layout (next_records reader acquisition)))
    (after_records reader (length (next_records reader acquisition)))

-- the end, if the acquisition is over
abbrev pub end_taken : Reader → ℕ → Option Condition → Taken
end_taken reader count None = takes.NotYet
end_taken reader count (Some condition) = takes.Bytes (encoding.end reader.options count condition) (after_end reader)

-- of an acquisition that has been armed
abbrev pub taken_of : Reader → Acquisition → Taken
taken_of reader acquisition =
    if reader.header_is_owed then header_taken reader acquisition
    else (if nat_lt reader.given (length acquisition.records) then records_taken reader acquisition
    else end_taken reader (length acquisition.records) acquisition.condition)

abbrev pub taken_if_armed : Reader → Option Acquisition → Taken
taken_if_armed reader None = takes.NotYet
taken_if_armed reader (Some acquisition) = taken_of reader acquisition

-- What a reader takes is the first of these that fits: nothing any more, since it is a reader of one alone and took the
-- end of it; nothing yet, since its acquisition isn't armed; the header, if it is wanted and still to come; records, if
-- some are still to come; nothing yet, since the acquisition is armed or running; the end.
abbrev pub taken : Reader → Option Acquisition → Taken
taken reader acquisition = if reader.has_ended then takes.Done else taken_if_armed reader acquisition

abbrev pub taken_by : AllAcquisitions → Option Reader → Taken
taken_by all None = takes.NotYet
taken_by all (Some reader) = taken reader (own reader all)

-- what the reader of this id takes
abbrev pub take_of : AllAcquisitions → ℕ → Taken
take_of all id = taken_by all (reader_of all id)

-- what it is handed, and what there is afterwards
abbrev pub piece_of : Taken → Piece
piece_of takes.Done = pieces.Done
piece_of takes.NotYet = pieces.NotYet
piece_of (takes.Bytes text reader) = pieces.Bytes text

abbrev pub left_by : ℕ → AllAcquisitions → Taken → AllAcquisitions
left_by id all takes.Done = all
left_by id all takes.NotYet = all
left_by id all (takes.Bytes text reader) = with_reader id (Some reader) all

abbrev pub after_take : ℕ → AllAcquisitions → AllAcquisitions
after_take id all = left_by id all (take_of all id)

abbrev pub HandsBytes : Taken → Type 0
HandsBytes takes.Done = ⊥
HandsBytes takes.NotYet = ⊥
HandsBytes (takes.Bytes text reader) = ⊤
