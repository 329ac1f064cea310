-- Readers: the clients that take acquisitions, one after the other or one alone.
use Rattle.std.specs.Prelude.{ℕ, ◌+◌, ◌-◌, ◌==◌, ◌&&◌, nat_le, not, Bool, true, false, List, Option, Some, None, slice_index_or, slice_set, if◌then◌else◌}
use Rattle.std.specs.List.{list_any}
use Rattle.pb_encode.specs.declared.options.Options.{Options}
use Rattle.pb_acquire.specs.declared.readers.Reader.{Reader}

-- a reader that was given nothing yet of the acquisition that so many came before
abbrev pub reader_from : Options → ℕ → Reader
reader_from options before =
    record { options = options; before = before; header_is_owed = options.header; given = 0; has_ended = false }

-- Whether it has still to take from the acquisition that so many came before: from its own, and if it isn't a reader of
-- one alone, from each that comes after.
abbrev pub needs : Reader → ℕ → Bool
needs reader place =
    not reader.has_ended && (if reader.options.one_shot then reader.before == place else nat_le reader.before place)

abbrev pub open_needs : ℕ → Option Reader → Bool
open_needs place None = false
open_needs place (Some reader) = needs reader place

-- whether an open reader has
abbrev pub is_needed : List (Option Reader) → ℕ → Bool
is_needed readers place = list_any (open_needs place) readers

-- Readers have the ids 1 to 8.
abbrev pub reader_at : List (Option Reader) → ℕ → Option Reader
reader_at readers id = slice_index_or readers (id - 1) None

abbrev pub with_reader_at : List (Option Reader) → ℕ → Option Reader → List (Option Reader)
with_reader_at readers id reader = slice_set readers (id - 1) reader

-- What a reader is after it was given something.

abbrev pub after_header : Reader → Reader
after_header reader = record reader { header_is_owed = false }

abbrev pub after_records : Reader → ℕ → Reader
after_records reader count = record reader { given = reader.given + count }

-- A reader of one alone is at its end, and another goes on to the next.
abbrev pub after_end : Reader → Reader
after_end reader =
    if reader.options.one_shot then record reader { has_ended = true }
    else reader_from reader.options (reader.before + 1)
