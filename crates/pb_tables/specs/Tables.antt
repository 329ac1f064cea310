-- Tables: their rows, and what writing one leaves.
use Rattle.std.specs.Prelude.{◌≡◌, ◌≢◌, ℕ, ◌+◌, ◌*◌, ◌/◌, ◌%◌, ◌^◌, ◌<◌, ◌≤◌, ◌⊎◌, Bool, if◌then◌else◌, List, [], ◌++◌, length, slice_index}
use Rattle.std.specs.Int.{w32, cast_signed}
use Rattle.pb_words.specs.declared.refusals.Refusal.{Refusal}
use Rattle.pb_words.specs.declared.refusals.Refusal.TheVariants as refusals
use Rattle.pb_tables.specs.declared.seq_rows.SeqRow.{SeqRow}
use Rattle.pb_tables.specs.Bodies.{Says, SaysNone}

-- Rows.

-- a row's trigger stands in bits 16 to 19 of its first word
abbrev pub trigger_of : ℕ → ℕ
trigger_of word = word / 2 ^ 16 % 2 ^ 4

-- the row of these four words
abbrev pub row_of : ℕ → ℕ → ℕ → ℕ → SeqRow
row_of flags position time1 time2 =
    record {
      repeats = flags % 2 ^ 16;
      trigger = trigger_of flags;
      out1 = flags / 2 ^ 20 % 2 ^ 6;
      out2 = flags / 2 ^ 26;
      position = cast_signed w32 position;
      time1 = time1;
      time2 = time2;
    }

-- row i of a table, counted from 0
abbrev pub row_at : List ℕ → ℕ → SeqRow
row_at words i =
    row_of (slice_index words (4 * i)) (slice_index words (4 * i + 1))
    (slice_index words (4 * i + 2)) (slice_index words (4 * i + 3))

-- Tables.

-- the greatest number of words in a table
abbrev pub most : ℕ
most = 16384

-- the greatest trigger
abbrev pub last_trigger : ℕ
last_trigger = 12

-- behind so many words of a table these can stand
pub record CanFollow (before : ℕ) (words : List ℕ) : Type 0 where
  pub whole : length words % 4 ≡ 0
  pub short : before + length words ≤ most
  pub triggers : (i : ℕ) → 4 * i < length words → trigger_of (slice_index words (4 * i)) ≤ last_trigger

-- the words can be a table: whole rows, not too many, each with a trigger that there is
abbrev pub IsTable : List ℕ → Type 0
IsTable words = CanFollow 0 words

-- Why words can't follow so many words of a table, the first reason that fits.
abbrev pub CannotFollow : ℕ → List ℕ → Refusal → Type 0
CannotFollow before words refusals.NotWholeRows = length words % 4 ≢ 0
CannotFollow before words refusals.TableTooLong = (length words % 4 ≡ 0) × (most < before + length words)
CannotFollow before words refusals.ValueOutOfRange =
    (length words % 4 ≡ 0) × (before + length words ≤ most)
    × ((i : ℕ) × (4 * i < length words) × (last_trigger < trigger_of (slice_index words (4 * i))))
CannotFollow before words _ = ⊥

-- Writing.

-- the words of the table that stay before those of a body that is appended or not
abbrev pub kept : Bool → List ℕ → List ℕ
kept append old = if append then old else []

-- the body says words that can follow what is kept, and the table is then both
pub record IsWritten (old : List ℕ) (append base64 : Bool) (body new : List ℕ) : Type 0 where
  pub words : List ℕ
  pub said : Says base64 body words
  pub fit : CanFollow (length (kept append old)) words
  pub left : new ≡ kept append old ++ words

-- why nothing is written: the body says no words, or words that can't follow what is kept
abbrev pub IsRefused : List ℕ → Bool → Bool → List ℕ → Refusal → Type 0
IsRefused old append base64 body refusal =
    SaysNone base64 body refusal
    ⊎ ((words : List ℕ) × Says base64 body words × CannotFollow (length (kept append old)) words refusal)
