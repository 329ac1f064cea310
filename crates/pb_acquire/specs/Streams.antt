-- What a reader is handed over time: whole acquisitions one after the other, and then a front of the next.
use Rattle.std.specs.Prelude.{ℕ, ◌+◌, ◌≡◌, ◌≢◌, ◌≤◌, ◌==◌, true, false, List, [], ◌∷◌, ◌++◌, length, map, Option, Some, None, All, if◌then◌else◌, ⊤}
use Rattle.std.specs.List.{flat_map}
use Rattle.pb_words.specs.declared.Refusal.{Refusal}
use Rattle.pb_buses.specs.declared.Condition.{Condition}
use Rattle.pb_buses.specs.declared.Record.{Record}
use Rattle.pb_pcap.specs.declared.fields.Field.{Field}
use Rattle.pb_pcap.specs.Records.{records_bytes}
use Rattle.pb_encode.specs.declared.options.Options.{Options}
use Rattle.pb_encode.specs.Encoding.{header, piece, encoded}
use Rattle.pb_acquire.specs.declared.readers.Reader.{Reader}
use Rattle.pb_acquire.specs.declared.readers.Taken.{Taken}
use Rattle.pb_acquire.specs.declared.readers.Taken.TheVariants as takes
use Rattle.pb_acquire.specs.Readers.{reader_from}
use Rattle.pb_acquire.specs.Acquisitions.{Acquisition, AllAcquisitions, arm_refusal, armed, recorded, ended}
use Rattle.pb_acquire.specs.Taking.{reader_of, opened, closed, take_of, after_take}

-- What happens to acquisitions and readers: a layout is to be armed, there is a record more, the one that runs is over, a
-- reader is opened, closed, or takes.
pub data Event : Type 0 where
  arms : List Field → Event
  adds : Record → Event
  ends : Condition → Event
  opens : ℕ → Options → Event
  closes : ℕ → Event
  asks : ℕ → Event

-- A layout that is refused isn't armed.
abbrev pub armed_unless : Option Refusal → List Field → AllAcquisitions → AllAcquisitions
armed_unless None layout all = armed layout all
armed_unless (Some refusal) layout all = all

abbrev pub after_event : AllAcquisitions → Event → AllAcquisitions
after_event all (arms layout) = armed_unless (arm_refusal all layout) layout all
after_event all (adds row) = recorded row all
after_event all (ends condition) = ended condition all
after_event all (opens id options) = opened id options all
after_event all (closes id) = closed id all
after_event all (asks id) = after_take id all

abbrev pub after_events : AllAcquisitions → List Event → AllAcquisitions
after_events all [] = all
after_events all (event ∷ events) = after_events (after_event all event) events

-- what the reader of this id is handed
abbrev pub bytes_in : Taken → List ℕ
bytes_in takes.Done = []
bytes_in takes.NotYet = []
bytes_in (takes.Bytes text reader) = text

abbrev pub handed_by : ℕ → AllAcquisitions → Event → List ℕ
handed_by id all (asks other) = if id == other then bytes_in (take_of all other) else []
handed_by id all event = []

abbrev pub handed : ℕ → AllAcquisitions → List Event → List ℕ
handed id all [] = []
handed id all (event ∷ events) = handed_by id all event ++ handed id (after_event all event) events

-- It neither opens nor closes the reader of this id. Ids begin at 1.
abbrev pub Spares : ℕ → Event → Type 0
Spares id (opens other options) = (1 ≤ other) × (other ≢ id)
Spares id (closes other) = (1 ≤ other) × (other ≢ id)
Spares id (asks other) = 1 ≤ other
Spares id event = ⊤

-- An acquisition that was handed out whole: how its records were cut into pieces, and how it ended.
pub record Share : Type 0 where
  pub acquisition : Acquisition
  pub cut : List (List Record)
  pub condition : Condition

-- pieces of records, put together
abbrev pub joined : List (List Record) → List Record
joined cut = flat_map (λ rows. rows) cut

-- all its records, and the end that it had
pub record IsWhole (share : Share) : Type 0 where
  pub all_records : joined share.cut ≡ share.acquisition.records
  pub over : share.acquisition.condition ≡ Some share.condition

-- the bytes of pieces of its records
abbrev pub raw_pieces : Acquisition → List (List Record) → List (List ℕ)
raw_pieces acquisition cut = map (records_bytes acquisition.layout) cut

-- as it is handed out: the header where it is wanted, the pieces, and the end
abbrev pub share_bytes : Options → Share → List ℕ
share_bytes options share =
    encoded options share.acquisition.layout (raw_pieces share.acquisition share.cut) (length share.acquisition.records) share.condition

-- the header where it is wanted, and pieces of the first records
abbrev pub front_bytes : Options → Acquisition → List (List Record) → List ℕ
front_bytes options acquisition cut =
    (if options.header then header options acquisition.layout else []) ++ flat_map (piece options acquisition.layout) (raw_pieces acquisition cut)

-- the next acquisition: the first of these, or else the one that is armed or running
abbrev pub next_of : List Acquisition → Option Acquisition → Option Acquisition
next_of [] running = running
next_of (acquisition ∷ others) running = Some acquisition

-- a reader that was given the header, if it is wanted, and so many records
abbrev pub reader_within : Options → ℕ → ℕ → Reader
reader_within options place given = record (reader_from options place) { header_is_owed = false; given = given }

-- How far a reader is with the next one, and what it was handed of it: nothing, since it wants no more; nothing, since that
-- isn't armed or nothing of it was taken; or the header where it is wanted, and pieces of its first records.
pub data HasFront (options : Options) (place : ℕ) (next : Option Acquisition) (reader : Reader) (bytes : List ℕ) : Type 0 where
  at_its_end : reader.has_ended ≡ true → bytes ≡ [] → HasFront options place next reader bytes
  at_a_start : reader ≡ reader_from options place → bytes ≡ [] → HasFront options place next reader bytes
  within : (acquisition : Acquisition) (cut : List (List Record)) (others : List Record) → next ≡ Some acquisition →
      reader ≡ reader_within options place (length (joined cut)) → joined cut ++ others ≡ acquisition.records →
      bytes ≡ front_bytes options acquisition cut → HasFront options place next reader bytes

-- What a reader was handed that began behind so many acquisitions: those that came then, whole, and a front of the next.
-- A reader of one alone has one of them whole once it is at its end, and none before.
pub record IsGiven (options : Options) (before : ℕ) (reader : Option Reader) (completed : List Acquisition) (running : Option Acquisition) (bytes : List ℕ) : Type 0 where
  pub earlier : List Acquisition
  pub shares : List Share
  pub others : List Acquisition
  pub front : List ℕ
  pub its : Reader
  pub is : reader ≡ Some its
  pub since : length earlier ≡ before
  pub they_are : completed ≡ earlier ++ map (λ s. s.acquisition) shares ++ others
  pub whole : All IsWhole shares
  pub alone : options.one_shot ≡ true → length shares ≡ (if its.has_ended then 1 else 0)
  pub stands : HasFront options (before + length shares) (next_of others running) its front
  pub told : bytes ≡ flat_map (share_bytes options) shares ++ front

-- the one that is armed or running isn't over
abbrev pub RunsOn : Option Acquisition → Type 0
RunsOn None = ⊤
RunsOn (Some acquisition) = acquisition.condition ≡ None

-- what the reader of an id was handed
abbrev pub IsGivenTo : Options → ℕ → ℕ → AllAcquisitions → List ℕ → Type 0
IsGivenTo options before id all bytes = IsGiven options before (reader_of all id) all.completed all.running bytes
