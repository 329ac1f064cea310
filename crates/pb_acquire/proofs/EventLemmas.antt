-- What a reader is handed over many events.
use Rattle.std.proofs.Common.{◌≡◌, ◌≢◌, refl, sym, ap, subst, ◌∙◌, ℕ, suc, ◌+◌, ◌-◌, ◌<◌, ◌≤◌, Bool, true, false, cond, ◌==◌, List, [], ◌∷◌, ◌++◌, length, map, Option, Some, None, is_some, All, arith, append_assoc, append-nil}
use Rattle.std.proofs.lemmas.Bool.{eqb-true}
use Rattle.std.proofs.lemmas.List.{length-set, get_or-set_same, get_or-set_other}
use Rattle.pb_words.specs.declared.Refusal.{Refusal}
use Rattle.pb_buses.specs.declared.Condition.{Condition}
use Rattle.pb_buses.specs.declared.Record.{Record}
use Rattle.pb_pcap.specs.declared.fields.Field.{Field}
use Rattle.pb_encode.specs.declared.options.Options.{Options}
use Rattle.pb_acquire.specs.declared.readers.Reader.{Reader}
use Rattle.pb_acquire.specs.declared.readers.Taken.{Taken}
use Rattle.pb_acquire.specs.declared.readers.Taken.TheVariants as takes
use Rattle.pb_acquire.specs.Readers.{reader_from, reader_at, with_reader_at}
use Rattle.pb_acquire.specs.Acquisitions.{Acquisition, AllAcquisitions, arm_refusal, recorded, ended, with_record, with_condition}
use Rattle.pb_acquire.specs.Taking.{own, taken, taken_by, take_of, left_by, opened, with_reader}
use Rattle.pb_acquire.specs.Streams.{Event, arms, adds, ends, opens, closes, asks, armed_unless, after_event, after_events, bytes_in, handed_by, handed, Spares, at_a_start, IsGiven, RunsOn, IsGivenTo}
use Rattle.pb_acquire.proofs.TakingLemmas.{reader_after}
use Rattle.pb_acquire.proofs.StreamLemmas.{front_armed, front_recorded, front_ended, take_by}

no_more :
    (options : Options) (before : ℕ) (all : AllAcquisitions) (id : ℕ) (bytes : List ℕ) → IsGivenTo options before id all bytes → IsGivenTo options before id all (bytes ++ [])
no_more options before all id bytes given = subst (λ bs. IsGivenTo options before id all bs) (sym (append-nil bytes)) given

-- A layout is armed.

idle : (running : Option Acquisition) (rest : Option Refusal) (refusal : Refusal) → cond (is_some running) (Some refusal) rest ≡ None → running ≡ None
idle None rest refusal e = refl
idle (Some a) rest refusal e = cc

armed_given :
    (options : Options) (before id : ℕ) (all : AllAcquisitions) (bytes : List ℕ) (layout : List Field) (refusal : Option Refusal) →
    arm_refusal all layout ≡ refusal → IsGivenTo options before id all bytes → IsGivenTo options before id (armed_unless refusal layout all) bytes
armed_given options before id all bytes layout (Some refusal) e given = given
armed_given options before id all bytes layout None e given =
    let none : all.running ≡ None = idle all.running _ _ e in
    record {
      earlier = given.earlier;
      shares = given.shares;
      others = given.others;
      front = given.front;
      its = given.its;
      is = given.is;
      since = given.since;
      they_are = given.they_are;
      whole = given.whole;
      alone = given.alone;
      stands = front_armed options (before + length given.shares) given.others all.running _ given.its given.front none given.stands;
      told = given.told;
    }

recorded_given :
    (options : Options) (before id : ℕ) (all : AllAcquisitions) (bytes : List ℕ) (row : Record) →
    IsGivenTo options before id all bytes → IsGivenTo options before id (recorded row all) bytes
recorded_given options before id all bytes row given =
    record {
      earlier = given.earlier;
      shares = given.shares;
      others = given.others;
      front = given.front;
      its = given.its;
      is = given.is;
      since = given.since;
      they_are = given.they_are;
      whole = given.whole;
      alone = given.alone;
      stands = front_recorded options (before + length given.shares) given.others all.running row given.its given.front given.stands;
      told = given.told;
    }

ended_given :
    (options : Options) (before id : ℕ) (all : AllAcquisitions) (bytes : List ℕ) (condition : Condition) →
    IsGivenTo options before id all bytes → IsGivenTo options before id (ended condition all) bytes
ended_given options before id all bytes condition given =
    let over : List Acquisition = with_condition condition all.running in
    record {
      earlier = given.earlier;
      shares = given.shares;
      others = given.others ++ over;
      front = given.front;
      its = given.its;
      is = given.is;
      since = given.since;
      they_are =
          ap (λ xs. xs ++ over) given.they_are
          ∙ append_assoc (given.earlier ++ map (λ s. s.acquisition) given.shares) given.others over;
      whole = given.whole;
      alone = given.alone;
      stands = front_ended options (before + length given.shares) given.others all.running condition given.its given.front given.stands;
      told = given.told;
    }

-- Another reader is changed.

other_place : (id other : ℕ) → 1 ≤ id → 1 ≤ other → other ≢ id → (id - 1) ≢ (other - 1)
other_place id other first first_other differ same = differ (omega (arith, first, first_other, same))

put_given :
    (options : Options) (before id other : ℕ) (all : AllAcquisitions) (bytes : List ℕ) (reader : Option Reader) → 1 ≤ id → 1 ≤ other → other ≢ id →
    IsGivenTo options before id all bytes → IsGivenTo options before id (with_reader other reader all) bytes
put_given options before id other all bytes reader first first_other differ given =
    let same : reader_at (with_reader_at all.readers other reader) id ≡ reader_at all.readers id =
    get_or-set_other all.readers (other - 1) (id - 1) reader None (other_place id other first first_other differ) in
    subst (λ r. IsGiven options before r all.completed all.running bytes) (sym same) given

left_given :
    (options : Options) (before id other : ℕ) (all : AllAcquisitions) (bytes : List ℕ) (t : Taken) → 1 ≤ id → 1 ≤ other → other ≢ id →
    IsGivenTo options before id all bytes → IsGivenTo options before id (left_by other all t) bytes
left_given options before id other all bytes takes.Done first first_other differ given = given
left_given options before id other all bytes takes.NotYet first first_other differ given = given
left_given options before id other all bytes (takes.Bytes text reader) first first_other differ given =
    put_given options before id other all bytes (Some reader) first first_other differ given

-- The reader takes.

after_own :
    (options : Options) (before id : ℕ) (all : AllAcquisitions) (bytes : List ℕ) (reader : Reader) (t : Taken) → id - 1 < length all.readers →
    reader_at all.readers id ≡ Some reader → IsGiven options before (Some (reader_after reader t)) all.completed all.running bytes →
    IsGivenTo options before id (left_by id all t) bytes
after_own options before id all bytes reader takes.Done within is given =
    subst (λ r. IsGiven options before r all.completed all.running bytes) (sym is) given
after_own options before id all bytes reader takes.NotYet within is given =
    subst (λ r. IsGiven options before r all.completed all.running bytes) (sym is) given
after_own options before id all bytes reader (takes.Bytes text after) within is given =
    subst (λ r. IsGiven options before r all.completed all.running bytes)
    (sym (get_or-set_same all.readers (id - 1) (Some after) None within)) given

own_taken :
    (options : Options) (before id : ℕ) (all : AllAcquisitions) (bytes : List ℕ) → id - 1 < length all.readers → RunsOn all.running →
    IsGivenTo options before id all bytes → IsGivenTo options before id (left_by id all (take_of all id)) (bytes ++ bytes_in (take_of all id))
own_taken options before id all bytes within runs given =
    let reader : Reader = given.its in
    let of_it : IsGiven options before (Some reader) all.completed all.running bytes =
    record {
      earlier = given.earlier;
      shares = given.shares;
      others = given.others;
      front = given.front;
      its = reader;
      is = refl;
      since = given.since;
      they_are = given.they_are;
      whole = given.whole;
      alone = given.alone;
      stands = given.stands;
      told = given.told;
    } in
    let t : Taken = taken reader (own reader all) in
    let told : take_of all id ≡ t = ap (taken_by all) given.is in
    let step = take_by options before all.completed all.running bytes reader of_it runs given.stands in
    subst (λ x. IsGivenTo options before id (left_by id all x) (bytes ++ bytes_in x)) (sym told)
    (after_own options before id all (bytes ++ bytes_in t) reader t within given.is step)

asked_given :
    (options : Options) (before id other : ℕ) (all : AllAcquisitions) (bytes : List ℕ) (b : Bool) → (id == other) ≡ b → 1 ≤ id → 1 ≤ other →
    id - 1 < length all.readers → RunsOn all.running → IsGivenTo options before id all bytes →
    IsGivenTo options before id (left_by other all (take_of all other)) (bytes ++ cond b (bytes_in (take_of all other)) [])
asked_given options before id other all bytes true e first first_other within runs given =
    let same : id ≡ other = eqb-true id other e in
    subst (λ o. IsGivenTo options before id (left_by o all (take_of all o)) (bytes ++ bytes_in (take_of all o))) same
    (own_taken options before id all bytes within runs given)
asked_given options before id other all bytes false e first first_other within runs given =
    no_more options before (left_by other all (take_of all other)) id bytes
    (left_given options before id other all bytes (take_of all other) first first_other (apart id other e) given)
  where
    apart : (x y : ℕ) → (x == y) ≡ false → y ≢ x
    apart x y tells = grind arith

-- One event more.

one_event :
    (options : Options) (before id : ℕ) (all : AllAcquisitions) (bytes : List ℕ) (event : Event) → 1 ≤ id → id - 1 < length all.readers →
    RunsOn all.running → Spares id event → IsGivenTo options before id all bytes →
    IsGivenTo options before id (after_event all event) (bytes ++ handed_by id all event)
one_event options before id all bytes (arms layout) first within runs spares given =
    no_more options before (armed_unless (arm_refusal all layout) layout all) id bytes
    (armed_given options before id all bytes layout (arm_refusal all layout) refl given)
one_event options before id all bytes (adds row) first within runs spares given =
    no_more options before (recorded row all) id bytes (recorded_given options before id all bytes row given)
one_event options before id all bytes (ends condition) first within runs spares given =
    no_more options before (ended condition all) id bytes (ended_given options before id all bytes condition given)
one_event options before id all bytes (opens other chosen) first within runs spares given =
    no_more options before (opened other chosen all) id bytes
    (put_given options before id other all bytes (Some (reader_from chosen (length all.completed))) first spares.0 spares.1 given)
one_event options before id all bytes (closes other) first within runs spares given =
    no_more options before (with_reader other None all) id bytes (put_given options before id other all bytes None first spares.0 spares.1 given)
one_event options before id all bytes (asks other) first within runs spares given =
    asked_given options before id other all bytes (id == other) refl first spares within runs given

armed_on : (refusal : Option Refusal) (layout : List Field) (all : AllAcquisitions) → RunsOn all.running → RunsOn (armed_unless refusal layout all).running
armed_on None layout all runs = refl
armed_on (Some refusal) layout all runs = runs

recorded_on : (running : Option Acquisition) (row : Record) → RunsOn running → RunsOn (with_record row running)
recorded_on None row runs = runs
recorded_on (Some a) row runs = runs

left_on : (id : ℕ) (all : AllAcquisitions) (t : Taken) → RunsOn all.running → RunsOn (left_by id all t).running
left_on id all takes.Done runs = runs
left_on id all takes.NotYet runs = runs
left_on id all (takes.Bytes text reader) runs = runs

pub runs_on : (all : AllAcquisitions) (event : Event) → RunsOn all.running → RunsOn (after_event all event).running
runs_on all (arms layout) runs = armed_on (arm_refusal all layout) layout all runs
runs_on all (adds row) runs = recorded_on all.running row runs
runs_on all (ends condition) runs = tt
runs_on all (opens id options) runs = runs
runs_on all (closes id) runs = runs
runs_on all (asks id) runs = left_on id all (take_of all id) runs

armed_as_many : (refusal : Option Refusal) (layout : List Field) (all : AllAcquisitions) → length (armed_unless refusal layout all).readers ≡ length all.readers
armed_as_many None layout all = refl
armed_as_many (Some refusal) layout all = refl

left_as_many : (id : ℕ) (all : AllAcquisitions) (t : Taken) → length (left_by id all t).readers ≡ length all.readers
left_as_many id all takes.Done = refl
left_as_many id all takes.NotYet = refl
left_as_many id all (takes.Bytes text reader) = length-set all.readers (id - 1) (Some reader)

pub as_many : (all : AllAcquisitions) (event : Event) → length (after_event all event).readers ≡ length all.readers
as_many all (arms layout) = armed_as_many (arm_refusal all layout) layout all
as_many all (adds row) = refl
as_many all (ends condition) = refl
as_many all (opens id options) = length-set all.readers (id - 1) (Some (reader_from options (length all.completed)))
as_many all (closes id) = length-set all.readers (id - 1) None
as_many all (asks id) = left_as_many id all (take_of all id)

many_events :
    (options : Options) (before id : ℕ) (all : AllAcquisitions) (bytes : List ℕ) (events : List Event) → 1 ≤ id → id - 1 < length all.readers →
    RunsOn all.running → All (Spares id) events → IsGivenTo options before id all bytes →
    IsGivenTo options before id (after_events all events) (bytes ++ handed id all events)
many_events options before id all bytes [] first within runs spares given = no_more options before all id bytes given
many_events options before id all bytes (event ∷ events) first within runs spares given =
    let still : id - 1 < length (after_event all event).readers = omega (arith, within, as_many all event) in
    let one = one_event options before id all bytes event first within runs (spares 0 event (omega arith)) given in
    let rest = many_events options before id (after_event all event) (bytes ++ handed_by id all event) events first still (runs_on all event runs)
    (λ k d below. spares (suc k) d (omega (arith, below))) one in
    subst (λ bs. IsGivenTo options before id (after_events (after_event all event) events) bs)
    (append_assoc bytes (handed_by id all event) (handed id (after_event all event) events)) rest

at_opening :
    (all : AllAcquisitions) (id : ℕ) (options : Options) → id - 1 < length all.readers →
    IsGivenTo options (length all.completed) id (opened id options all) []
at_opening all id options within =
    let fresh : Reader = reader_from options (length all.completed) in
    record {
      earlier = all.completed;
      shares = [];
      others = [];
      front = [];
      its = fresh;
      is = get_or-set_same all.readers (id - 1) (Some fresh) None within;
      since = refl;
      they_are = sym (append-nil (all.completed ++ []) ∙ append-nil all.completed);
      whole = λ k d below. absurd (omega (arith, below));
      alone = λ _. refl;
      stands = at_a_start (ap (reader_from options) (omega arith)) refl;
      told = refl;
    }

pub given_since_opened :
    (all : AllAcquisitions) (id : ℕ) (options : Options) (events : List Event) → 1 ≤ id → id ≤ length all.readers → RunsOn all.running →
    All (Spares id) events →
    IsGivenTo options (length all.completed) id (after_events (opened id options all) events) (handed id (opened id options all) events)
given_since_opened all id options events first last runs spares =
    let within : id - 1 < length all.readers = omega (arith, first, last) in
    let still : id - 1 < length (opened id options all).readers =
    omega (arith, within, length-set all.readers (id - 1) (Some (reader_from options (length all.completed)))) in
    many_events options (length all.completed) id (opened id options all) [] events first still runs spares (at_opening all id options within)
