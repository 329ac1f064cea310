-- What is kept of all acquisitions: the records of the one that is armed or running and of those that are over and
-- held, of the last that is over how many records it had and how it ended, how many are over, and the readers.
use Rattle.std.specs.Prelude.{◌≡◌, ◌≤◌, ◌<◌, ◌^◌, ◌+◌, ℕ, Bool, true, false, List, [], ◌∷◌, length, map, Option, Some, None, IsSome, ⊤}
use Rattle.std.specs.List.{last_or}
use Rattle.pb_words.specs.declared.Refusal.{Refusal}
use Rattle.pb_buses.specs.declared.Condition.{Condition}
use Rattle.pb_pcap.specs.declared.fields.Field.{Field}
use Rattle.pb_pcap.specs.Records.{Held, records_bytes}
use Rattle.pb_acquire.specs.declared.faults.ArmFault.{ArmFault}
use Rattle.pb_acquire.specs.declared.faults.ArmFault.TheVariants as faults
use Rattle.pb_acquire.specs.declared.readers.Reader.{Reader}
use Rattle.pb_acquire.specs.declared.readers.Piece.{Piece}
use Rattle.pb_acquire.specs.declared.readers.Piece.TheVariants as pieces
use Rattle.pb_acquire.specs.Acquisitions.{Acquisition, AllAcquisitions, Placed, held, captured_by, condition_by}

-- One that is over: how many came before it, what a record of it holds, its records, and how it ended.
pub record Over : Type 0 where
  pub before : ℕ
  pub layout : List Field
  pub bytes : List ℕ
  pub count : ℕ
  pub condition : Option Condition

abbrev pub over_of : Placed → Over
over_of p =
    record {
      before = p.before;
      layout = p.acquisition.layout;
      bytes = records_bytes p.acquisition.layout p.acquisition.records;
      count = length p.acquisition.records;
      condition = p.acquisition.condition;
    }

-- it is held, if it is needed
abbrev pub stored_if : Bool → Over → List Over
stored_if true over = over ∷ []
stored_if false over = []

-- the one whose records these are, when it is over
abbrev pub over_by : ℕ → Held → Condition → Over
over_by before records condition =
    record { before = before; layout = records.layout; bytes = records.bytes; count = records.count; condition = Some condition }

-- `places` is for how many more that are over there is room in memory.
pub record Kept : Type 0 where
  pub running : Option Held
  pub captured : ℕ
  pub condition : Option Condition
  pub made : ℕ
  pub held : List Over
  pub places : ℕ
  pub readers : List (Option Reader)

-- The records that are held are those of this acquisition, which isn't over.
pub record Holds (held : Held) (acquisition : Acquisition) : Type 0 where
  pub by_layout : held.layout ≡ acquisition.layout
  pub as_bytes : held.bytes ≡ records_bytes acquisition.layout acquisition.records
  pub so_many : held.count ≡ length acquisition.records
  pub not_over : acquisition.condition ≡ None

abbrev pub RunsAs : Option Held → Option Acquisition → Type 0
RunsAs None None = ⊤
RunsAs None (Some acquisition) = ⊥
RunsAs (Some held) None = ⊥
RunsAs (Some held) (Some acquisition) = Holds held acquisition

-- The one that runs has a place among those that are over, and a number.
pub record IsReady (kept : Kept) : Type 0 where
  pub place : 1 ≤ kept.places
  pub number : kept.made + 1 < 2 ^ 64

pub record Agrees (kept : Kept) (all : AllAcquisitions) : Type 0 where
  pub runs : RunsAs kept.running all.running
  pub so_many : kept.captured ≡ captured_by (last_or None all.completed)
  pub ended_so : kept.condition ≡ condition_by (last_or None all.completed)
  pub made : kept.made ≡ length all.completed
  pub held : kept.held ≡ map over_of (held all)
  pub readers : kept.readers ≡ all.readers
  pub ready : IsSome kept.running → IsReady kept

-- other records of the one that is armed or running
abbrev pub with_records : Kept → Held → Kept
with_records kept held = record kept { running = Some held }

-- for how many more records there is room in memory
abbrev pub spare_by : Option Held → ℕ
spare_by None = 0
spare_by (Some held) = held.spare

abbrev pub spare_of : Kept → ℕ
spare_of kept = spare_by kept.running

-- the fault is the refusal, or want of memory where there is no reason to refuse
abbrev pub IsFault : Option Refusal → ArmFault → Type 0
IsFault (Some refusal) fault = fault ≡ faults.Refused refusal
IsFault None fault = fault ≡ faults.OutOfMemory

-- These records are those of this acquisition, and this is how it ended, if it has.
pub record IsOf (records : Held) (condition : Option Condition) (own : Acquisition) : Type 0 where
  pub by_layout : records.layout ≡ own.layout
  pub as_bytes : records.bytes ≡ records_bytes own.layout own.records
  pub so_many : records.count ≡ length own.records
  pub ended_so : condition ≡ own.condition

-- Where a reader is handed no bytes, what is kept stays as it was.
abbrev pub StaysUnlessBytes : Kept → Kept → Piece → Type 0
StaysUnlessBytes old new pieces.Done = new ≡ old
StaysUnlessBytes old new pieces.NotYet = new ≡ old
StaysUnlessBytes old new (pieces.Bytes text) = ⊤
