-- What is kept, when an acquisition is over and when it has a record more.
use Rattle.std.proofs.Common.{◌≡◌, refl, sym, subst, true, ℕ, ◌+◌, ◌-◌, ◌^◌, ◌<◌, ◌≤◌, min, List, [], ◌∷◌, ◌++◌, length, map, Option, Some, None, IsSome, ◌∙◌, length-append, arith}
use Rattle.std.specs.List.{last_or, filter}
use Rattle.pb_buses.specs.declared.Condition.{Condition}
use Rattle.pb_buses.specs.declared.Record.{Record}
use Rattle.pb_pcap.specs.Records.{Held, record_bytes}
use Rattle.pb_pcap.proofs.PackingLemmas.{records_more}
use Rattle.pb_acquire.specs.declared.readers.Reader.{Reader}
use Rattle.pb_acquire.specs.Readers.{is_needed, open_needs, reader_at, with_reader_at}
use Rattle.pb_acquire.specs.Taking.{with_reader}
use Rattle.pb_acquire.specs.Acquisitions.{Acquisition, AllAcquisitions, held_of, with_record, with_condition, latest_of, captured_by, condition_by, ended, recorded, captured}
use Rattle.pb_acquire.specs.Kept.{Kept, Holds, RunsAs, Agrees, with_records, over_of, over_by, stored_if}
use Rattle.pb_acquire.proofs.HeldLemmas.{one_more_over, let_go_of, needed_before}

-- the last of a list with one more
pub last_more : {X : Type 0} (first : Option X) (xs : List X) (x : X) → last_or first (xs ++ x ∷ []) ≡ Some x
last_more first [] x = refl
last_more first (y ∷ ys) x = last_more (Some y) ys x

-- the one that was running is the last that is over
over :
    (completed : List Acquisition) (running : Option Acquisition) (held : Option Held) (condition : Condition) →
    RunsAs held running → IsSome held →
    (captured_by (latest_of running completed) ≡ captured_by (last_or None (completed ++ with_condition condition running)))
    × (Some condition ≡ condition_by (last_or None (completed ++ with_condition condition running)))
over completed None None condition runs some = cc
over completed None (Some held) condition runs some = absurd runs
over completed (Some acquisition) None condition runs some = cc
over completed (Some acquisition) (Some held) condition runs some =
    let last = last_more None completed (record { number = acquisition.number; layout = acquisition.layout; records = acquisition.records; condition = Some condition }) in
    rw last (refl, refl)

never_some : (o : Option Held) → o ≡ None → IsSome o → ⊥
never_some None none some = cc
never_some (Some held) none some = cc

held_over :
    (readers : List (Option Reader)) (completed : List Acquisition) (running : Option Acquisition) (held : Held) (condition : Condition) →
    RunsAs (Some held) running →
    map over_of (held_of readers completed) ++ stored_if (is_needed readers (length completed)) (over_by (length completed) held condition)
    ≡ map over_of (held_of readers (completed ++ with_condition condition running))
held_over readers completed None held condition runs = absurd runs
held_over readers completed (Some a) held condition runs =
    let over : Acquisition = record { number = a.number; layout = a.layout; records = a.records; condition = Some condition } in
    rw (runs.by_layout, runs.as_bytes, runs.so_many) (sym (one_more_over readers completed over))

one_longer :
    (completed : List Acquisition) (running : Option Acquisition) (held : Held) (condition : Condition) → RunsAs (Some held) running →
    length (completed ++ with_condition condition running) ≡ length completed + 1
one_longer completed None held condition runs = absurd runs
one_longer completed (Some a) held condition runs = length-append completed _

pub ended_agrees :
    (old new : Kept) (all : AllAcquisitions) (condition : Condition) (records : Held) → Agrees old all → old.running ≡ Some records →
    new.running ≡ None → new.captured ≡ captured all → new.condition ≡ Some condition → new.made ≡ min (old.made + 1) (2 ^ 64 - 1) →
    (1 ≤ old.places → new.held ≡ old.held ++ stored_if (is_needed old.readers old.made) (over_by old.made records condition)) →
    new.readers ≡ old.readers → Agrees new (ended condition all)
ended_agrees old new all condition records agrees running none captured_now condition_now made held readers =
    let some : IsSome old.running = rw running refl in
    let ready = agrees.ready some in
    let runs : RunsAs (Some records) all.running = rw (← running) agrees.runs in
    let told = over all.completed all.running old.running condition agrees.runs some in
    let longer = one_longer all.completed all.running records condition runs in
    record {
      runs = rw none tt;
      so_many = captured_now ∙ told.0;
      ended_so = condition_now ∙ told.1;
      made = omega (arith, made, ready.number, agrees.made, longer);
      held = held ready.place ∙ rw (agrees.held, agrees.readers, agrees.made) (held_over all.readers all.completed all.running records condition runs);
      readers = readers ∙ agrees.readers;
      ready = λ is. absurd (never_some new.running none is);
    }

-- Another reader, or none, in the place of one.
pub put_agrees :
    (old new : Kept) (all : AllAcquisitions) (id : ℕ) (reader : Option Reader) → Agrees old all →
    new.running ≡ old.running → new.captured ≡ old.captured → new.condition ≡ old.condition → new.made ≡ old.made →
    new.readers ≡ with_reader_at old.readers id reader →
    new.held ≡ filter (λ o. is_needed (with_reader_at old.readers id reader) o.before) old.held → old.places ≤ new.places →
    ((place : ℕ) → place < length all.completed → open_needs place reader ≡ true → open_needs place (reader_at all.readers id) ≡ true) →
    Agrees new (with_reader id reader all)
put_agrees old new all id reader agrees running captured_same condition_same made readers held places only =
    record {
      runs = rw running agrees.runs;
      so_many = captured_same ∙ agrees.so_many;
      ended_so = condition_same ∙ agrees.ended_so;
      made = made ∙ agrees.made;
      held = held ∙ rw (agrees.held, agrees.readers)
          (let_go_of all.readers (with_reader_at all.readers id reader) all.completed
          (λ place below need. needed_before all.readers (id - 1) reader place (only place below) need));
      readers = readers ∙ rw agrees.readers refl;
      ready = λ is.
          (let ready = agrees.ready (subst (λ o. IsSome o) running is) in
          record { place = omega (arith, ready.place, places); number = omega (arith, ready.number, made) });
    }

-- a record more, behind the others
holds_more :
    (held more : Held) (acquisition : Acquisition) (row : Record) → Holds held acquisition →
    more.layout ≡ held.layout → more.bytes ≡ held.bytes ++ record_bytes held.layout row → more.count ≡ held.count + 1 →
    RunsAs (Some more) (with_record row (Some acquisition))
holds_more held more acquisition row holds layout bytes count =
    let all = records_more acquisition.layout acquisition.records row in
    record {
      by_layout = layout ∙ holds.by_layout;
      as_bytes = rw (bytes, holds.as_bytes, holds.by_layout, all) refl;
      so_many = rw (count, holds.so_many, length-append acquisition.records (row ∷ [])) refl;
      not_over = holds.not_over;
    }

runs_more :
    (held more : Held) (running : Option Acquisition) (row : Record) → RunsAs (Some held) running →
    more.layout ≡ held.layout → more.bytes ≡ held.bytes ++ record_bytes held.layout row → more.count ≡ held.count + 1 →
    RunsAs (Some more) (with_record row running)
runs_more held more None row runs layout bytes count = absurd runs
runs_more held more (Some acquisition) row runs layout bytes count = holds_more held more acquisition row runs layout bytes count

pub recorded_agrees :
    (kept : Kept) (held more : Held) (all : AllAcquisitions) (row : Record) → Agrees kept all → kept.running ≡ Some held →
    more.layout ≡ held.layout → more.bytes ≡ held.bytes ++ record_bytes held.layout row → more.count ≡ held.count + 1 →
    Agrees (with_records kept more) (recorded row all)
recorded_agrees kept held more all row agrees running layout bytes count =
    let runs : RunsAs (Some held) all.running = rw (← running) agrees.runs in
    record {
      runs = runs_more held more all.running row runs layout bytes count;
      so_many = agrees.so_many;
      ended_so = agrees.ended_so;
      made = agrees.made;
      held = agrees.held;
      readers = agrees.readers;
      ready = λ _. (let ready = agrees.ready (rw running refl) in record { place = ready.place; number = ready.number });
    }

-- the same records, in other memory
runs_same :
    (held other : Held) (running : Option Acquisition) → RunsAs (Some held) running →
    other.layout ≡ held.layout → other.bytes ≡ held.bytes → other.count ≡ held.count → RunsAs (Some other) running
runs_same held other None runs layout bytes count = absurd runs
runs_same held other (Some acquisition) runs layout bytes count =
    record {
      by_layout = layout ∙ runs.by_layout;
      as_bytes = bytes ∙ runs.as_bytes;
      so_many = count ∙ runs.so_many;
      not_over = runs.not_over;
    }

pub reserved_agrees :
    (kept : Kept) (held other : Held) (all : AllAcquisitions) → Agrees kept all → kept.running ≡ Some held →
    other.layout ≡ held.layout → other.bytes ≡ held.bytes → other.count ≡ held.count →
    Agrees (with_records kept other) all
reserved_agrees kept held other all agrees running layout bytes count =
    let runs : RunsAs (Some held) all.running = rw (← running) agrees.runs in
    record {
      runs = runs_same held other all.running runs layout bytes count;
      so_many = agrees.so_many;
      ended_so = agrees.ended_so;
      made = agrees.made;
      held = agrees.held;
      readers = agrees.readers;
      ready = λ _. (let ready = agrees.ready (rw running refl) in record { place = ready.place; number = ready.number });
    }
