-- What is kept of a reader's own acquisition.
use Rattle.std.proofs.Common.{◌≡◌, refl, sym, ap, subst, ◌∙◌, ℕ, ◌-◌, ◌<◌, ◌≤◌, true, false, ◌==◌, List, length, Option, Some, None, IsSome, arith}
use Rattle.std.specs.List.{find, filter, slice_get}
use Rattle.std.specs.Option.{option_map, unwrap_or}
use Rattle.std.proofs.lemmas.Bool.{cond-false}
use Rattle.pb_buses.specs.declared.Condition.{Condition}
use Rattle.pb_pcap.specs.Records.{Held}
use Rattle.pb_acquire.specs.declared.readers.Reader.{Reader}
use Rattle.pb_acquire.specs.declared.readers.Taken.{Taken}
use Rattle.pb_acquire.specs.declared.readers.Taken.TheVariants as takes
use Rattle.pb_acquire.specs.declared.readers.Piece.TheVariants as pieces
use Rattle.pb_acquire.specs.Readers.{is_needed, needs, open_needs, reader_at, with_reader_at}
use Rattle.pb_acquire.specs.Acquisitions.{Acquisition, AllAcquisitions, held}
use Rattle.pb_acquire.specs.Taking.{own, taken_of, taken_if_armed, taken_by, take_of, piece_of, left_by, after_take}
use Rattle.pb_acquire.specs.Kept.{Kept, Over, over_of, over_by, IsOf, RunsAs, Agrees}
use Rattle.pb_acquire.proofs.HeldLemmas.{placed_at, found_held, armed_over, armed_running, armed_later, some_over, needed_by}
use Rattle.pb_acquire.proofs.TakingLemmas.{needs_its_own, taken_needs}
use Rattle.pb_acquire.proofs.KeptLemmas.{put_agrees}

-- The one of which a value is found.
record Found (o : Option Acquisition) (f : Acquisition → Over) (over : Over) : Type 0 where
  it : Acquisition
  is : o ≡ Some it
  value : over ≡ f it

found_in : (o : Option Acquisition) (f : Acquisition → Over) (over : Over) → IsSome o → Some over ≡ option_map f o → Found o f over
found_in None f over some e = cc
found_in (Some a) f over some e = record { it = a; is = refl; value = ap (λ x. unwrap_or x over) e }

found_own :
    (kept : Kept) (all : AllAcquisitions) (reader : Reader) (over : Over) → Agrees kept all → reader.before < kept.made →
    is_needed kept.readers reader.before ≡ true → Some over ≡ find (λ o. o.before == reader.before) kept.held →
    Found (own reader all) (λ a. over_of (placed_at reader.before a)) over
found_own kept all reader over agrees below need e =
    let within : reader.before < length all.completed = omega (arith, below, agrees.made) in
    let needed : is_needed all.readers reader.before ≡ true = rw (← agrees.readers) need in
    let there = found_held all.readers all.completed reader.before within needed in
    let same : own reader all ≡ slice_get all.completed reader.before = armed_over all.completed all.running reader.before within in
    let f = found_in (slice_get all.completed reader.before) (λ a. over_of (placed_at reader.before a)) over
    (some_over all.completed reader.before within)
    (e ∙ ap (find (λ o. o.before == reader.before)) agrees.held ∙ there) in
    record { it = f.it; is = same ∙ f.is; value = f.value }

held_is :
    (records : Held) (condition : Condition) (before place : ℕ) (over : Over) (a : Acquisition) →
    over_by before records condition ≡ over → over ≡ over_of (placed_at place a) → IsOf records (Some condition) a
held_is records condition before place over a view value =
    let e = view ∙ value in
    record {
      by_layout = ap (λ o. o.layout) e;
      as_bytes = ap (λ o. o.bytes) e;
      so_many = ap (λ o. o.count) e;
      ended_so = ap (λ o. o.condition) e;
    }

-- what is said of each acquisition whose records are these holds of the reader's own
pub of_found :
    (P : Taken → Type 0) (kept : Kept) (all : AllAcquisitions) (reader : Reader) (records : Held) (condition : Condition) (before : ℕ) (over : Over) →
    Agrees kept all → reader.before < kept.made → is_needed kept.readers reader.before ≡ true →
    Some over ≡ find (λ o. o.before == reader.before) kept.held → over_by before records condition ≡ over →
    ((a : Acquisition) → IsOf records (Some condition) a → P (taken_of reader a)) → P (taken_if_armed reader (own reader all))
of_found P kept all reader records condition before over agrees below need e view each =
    let f = found_own kept all reader over agrees below need e in
    rw f.is (each f.it (held_is records condition before reader.before over f.it view f.value))

none_missing : (o : Option Acquisition) (f : Acquisition → Over) → IsSome o → None ≡ option_map f o → ⊥
none_missing None f some e = cc
none_missing (Some a) f some e = cc

pub is_found :
    (kept : Kept) (all : AllAcquisitions) (reader : Reader) → Agrees kept all → reader.before < kept.made →
    is_needed kept.readers reader.before ≡ true → None ≡ find (λ o. o.before == reader.before) kept.held → ⊥
is_found kept all reader agrees below need e =
    let within : reader.before < length all.completed = omega (arith, below, agrees.made) in
    let needed : is_needed all.readers reader.before ≡ true = rw (← agrees.readers) need in
    let there = found_held all.readers all.completed reader.before within needed in
    none_missing (slice_get all.completed reader.before) (λ a. over_of (placed_at reader.before a)) (some_over all.completed reader.before within)
    (e ∙ ap (find (λ o. o.before == reader.before)) agrees.held ∙ there)

-- of the one that is armed or running
running_by :
    (P : Taken → Type 0) (reader : Reader) (records : Held) (running : Option Acquisition) → RunsAs (Some records) running →
    ((a : Acquisition) → IsOf records None a → P (taken_of reader a)) → P (taken_if_armed reader running)
running_by P reader records None runs each = absurd runs
running_by P reader records (Some a) runs each =
    each a (record { by_layout = runs.by_layout; as_bytes = runs.as_bytes; so_many = runs.so_many; ended_so = sym runs.not_over })

pub of_running :
    (P : Taken → Type 0) (kept : Kept) (all : AllAcquisitions) (reader : Reader) (records : Held) → Agrees kept all →
    reader.before ≡ kept.made → kept.running ≡ Some records →
    ((a : Acquisition) → IsOf records None a → P (taken_of reader a)) → P (taken_if_armed reader (own reader all))
of_running P kept all reader records agrees last running each =
    let same = armed_running all.completed all.running reader.before (last ∙ agrees.made) in
    let runs : RunsAs (Some records) all.running = rw (← running) agrees.runs in
    rw same (running_by P reader records all.running runs each)

none_running : (P : Taken → Type 0) (reader : Reader) (running : Option Acquisition) → RunsAs None running → P takes.NotYet → P (taken_if_armed reader running)
none_running P reader None runs so = so
none_running P reader (Some a) runs so = absurd runs

pub of_none :
    (P : Taken → Type 0) (kept : Kept) (all : AllAcquisitions) (reader : Reader) → Agrees kept all → reader.before ≡ kept.made →
    kept.running ≡ None → P takes.NotYet → P (taken_if_armed reader (own reader all))
of_none P kept all reader agrees last running so =
    let same = armed_running all.completed all.running reader.before (last ∙ agrees.made) in
    let runs : RunsAs None all.running = rw (← running) agrees.runs in
    rw same (none_running P reader all.running runs so)

-- What the reader of an id takes, by what is kept.

pub by_ended :
    (P : Taken → Type 0) (kept : Kept) (all : AllAcquisitions) (id : ℕ) (reader : Reader) → Agrees kept all →
    reader_at kept.readers id ≡ Some reader → reader.has_ended ≡ true → P takes.Done → P (take_of all id)
by_ended P kept all id reader agrees is ended so =
    let there : reader_at all.readers id ≡ Some reader = rw (← agrees.readers) is in
    rw (there, ended) so

pub by_own :
    (P : Taken → Type 0) (kept : Kept) (all : AllAcquisitions) (id : ℕ) (reader : Reader) → Agrees kept all →
    reader_at kept.readers id ≡ Some reader → reader.has_ended ≡ false →
    (is_needed kept.readers reader.before ≡ true → P (taken_if_armed reader (own reader all))) → P (take_of all id)
by_own P kept all id reader agrees is alive so =
    let there : reader_at all.readers id ≡ Some reader = rw (← agrees.readers) is in
    let e = cond-false reader.has_ended takes.Done (taken_if_armed reader (own reader all)) alive in
    rw there (subst P (sym e) (so (needed_by kept.readers (id - 1) reader reader.before is (needs_its_own reader alive))))

pub by_later :
    (P : Taken → Type 0) (kept : Kept) (all : AllAcquisitions) (reader : Reader) → Agrees kept all → kept.made < reader.before →
    P takes.NotYet → P (taken_if_armed reader (own reader all))
by_later P kept all reader agrees above so =
    let none = armed_later all.completed all.running reader.before (omega (arith, above, agrees.made)) in rw none so

pub by_closed :
    (P : Taken → Type 0) (kept : Kept) (all : AllAcquisitions) (id : ℕ) → Agrees kept all → reader_at kept.readers id ≡ None →
    P takes.NotYet → P (take_of all id)
by_closed P kept all id agrees is so =
    let there : reader_at all.readers id ≡ None = rw (← agrees.readers) is in rw there so

-- A reader took.

no_bytes : (text : List ℕ) (reader : Reader) → takes.Bytes text reader ≡ takes.NotYet → ⊥
no_bytes text reader e = cc

took_no_more :
    (all : AllAcquisitions) (o : Option Reader) (text : List ℕ) (after : Reader) (place : ℕ) → takes.Bytes text after ≡ taken_by all o →
    needs after place ≡ true → open_needs place o ≡ true
took_no_more all None text after place e need = absurd (no_bytes text after e)
took_no_more all (Some reader) text after place e need = taken_needs reader after (own reader all) text place e need

pub took :
    (old new : Kept) (all : AllAcquisitions) (id : ℕ) (text : List ℕ) (after : Reader) → Agrees old all →
    takes.Bytes text after ≡ take_of all id →
    new.running ≡ old.running → new.captured ≡ old.captured → new.condition ≡ old.condition → new.made ≡ old.made →
    new.readers ≡ with_reader_at old.readers id (Some after) →
    new.held ≡ filter (λ o. is_needed (with_reader_at old.readers id (Some after)) o.before) old.held → old.places ≤ new.places →
    (pieces.Bytes text ≡ piece_of (take_of all id)) × Agrees new (after_take id all)
took old new all id text after agrees e running captured condition made readers held places =
    let left = put_agrees old new all id (Some after) agrees running captured condition made readers held places
    (λ place below need. took_no_more all (reader_at all.readers id) text after place e need) in
    (ap piece_of e, subst (λ t. Agrees new (left_by id all t)) e left)
