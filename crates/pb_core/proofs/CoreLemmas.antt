-- What commands and advances leave.
use Rattle.std.proofs.Common.{◌≡◌, ℕ, Bool, true, false, List, ◌∷◌, Option, Some, None, Result, Ok, Err, IfOk, IfSome, refl, sym, ap, subst, ◌∙◌, arith}
use Rattle.std.specs.Prelude.{if◌then◌else◌}
use Rattle.pb_words.specs.declared.Refusal.{Refusal}
use Rattle.pb_words.specs.declared.Refusal.TheVariants as refusals
use Rattle.pb_words.specs.Refusing.{result_map, result_then}
use Rattle.pb_fields.specs.declared.Slot.{Slot}
use Rattle.pb_fields.specs.declared.Attribute.{Attribute}
use Rattle.pb_fields.specs.declared.Attribute.TheVariants as attributes
use Rattle.pb_fields.specs.Slots.{IsSlot, attribute_at}
use Rattle.pb_pcap.specs.declared.Field.{Field}
use Rattle.pb_tables.specs.Computed.{written, answer_of}
use Rattle.pb_grammar.specs.Grammar.{Said}
use Rattle.pb_buses.specs.declared.Condition.{Condition}
use Rattle.pb_buses.specs.declared.Condition.TheVariants as conditions
use Rattle.pb_model.specs.declared.Change.{Change}
use Rattle.pb_model.specs.declared.Change.TheVariants as changes
use Rattle.pb_model.specs.declared.Block.{Block}
use Rattle.pb_model.specs.Changes.{IsChange}
use Rattle.pb_model.specs.Tick.{Standing}
use Rattle.pb_model.specs.Kept.{stands_of}
use Rattle.pb_model.specs.Tables.{table_of}
use Rattle.pb_still.specs.Eventful.{Moment, moment_after}
use Rattle.pb_going.specs.Sims.{Going, now_of}
use Rattle.pb_going.specs.Sims as sims
use Rattle.pb_jump.specs.Changing.{changed_moment, written_moment}
use Rattle.pb_going.specs.Advanced.{completion}
use Rattle.pb_config.specs.Settings.{Settings}
use Rattle.pb_config.specs.Assigning.{raw_given, target, target_by, assigned, after_by, change_of, told}
use Rattle.pb_config.specs.KeptConfig.{KeptConfig, numbers_by, with_assignment, with_clearing, with_note}
use Rattle.pb_config.specs.Numbers.{AgreesWithAssigned}
use Rattle.pb_config.specs.Capturing.{without_captures}
use Rattle.pb_config.proofs.NumberLemmas.{one_more_agrees, cleared_agree}
use Rattle.pb_acquire.specs.Acquisitions.{AllAcquisitions, armed, ended, room_of}
use Rattle.pb_acquire.specs.Kept as acquire
use Rattle.pb_changes.specs.declared.Group.{Group}
use Rattle.pb_core.specs.declared.targets.Named.{Named}
use Rattle.pb_core.specs.Core.{CoreState, moment_of, ticks_of_core}
use Rattle.pb_core.specs.Kept.{KeptCore, AreKept, box_of, Agrees, Stands}
use Rattle.pb_core.specs.Naming.{named_by}
use Rattle.pb_core.specs.Sessions.{open_of}
use Rattle.pb_core.specs.Captures.{clears, arms, disarms}
use Rattle.pb_core.specs.Assignments.{Given, given, gives, captures, with_given, with_deed, changed_by, slot_given}
use Rattle.pb_core.specs.Taking.{all_taken, records_of, ended_by, IsTaken}
use Rattle.pb_core.specs.Writing.{left_to, is_table, table_written, slot_written, named_written, table_write}
use Rattle.pb_core.specs.Answer.{left_by, written_by, said_answer}
use Rattle.pb_core.proofs.MarkLemmas.{same_open}
use Rattle.pb_core.proofs.RunLemmas.{stood_at, touched_run, stands_same, moment_then, ticks_last, taken_then, taken_parts, completion_taken}

-- the tick of a core is kept
pub tick_is : (kept : KeptCore) (core : CoreState) → Agrees kept core → kept.sim.tick ≡ core.box.stands.tick
tick_is kept core h = ap (λ (s : Standing). s.tick) h.run.box.stands

-- Advances.

-- what is kept after some ticks is that of the core after them
pub advanced_agrees : (kept next : KeptCore) (core : CoreState) (n : ℕ) (completed : Option Condition) (acquired : acquire.Kept) →
    next.config ≡ kept.config → next.sessions ≡ kept.sessions →
    sims.Agrees next.sim (moment_after n (moment_of core)) →
    IsTaken (moment_of core) n completed core.acquisitions acquired →
    ((all : AllAcquisitions) → acquire.Agrees acquired all → acquire.Agrees next.acquisitions (ended_by completed all)) →
    Agrees kept core → Agrees next (ticks_of_core n core)
advanced_agrees kept next core n completed acquired config sessions run t ends h =
    let last = ticks_last n core in
    let all : (ticks_of_core n core).acquisitions ≡ ended_by completed (all_taken (records_of t.rows) core.acquisitions) =
    taken_then n core
    ∙ (ap (λ emitted. all_taken emitted core.acquisitions) t.handed
    ∙ (taken_parts (records_of t.rows) (completion completed) core.acquisitions
    ∙ completion_taken completed (all_taken (records_of t.rows) core.acquisitions))) in
    record {
      settings = ap (λ (c : KeptConfig). c.settings) config ∙ (h.settings ∙ sym last.settings);
      assigned =
          subst (λ (c : KeptConfig). AgreesWithAssigned c.numbers (ticks_of_core n core).assigned) (sym config)
          (subst (λ slots. AgreesWithAssigned kept.config.numbers slots) (sym last.assigned) h.assigned);
      run = subst (λ m. sims.Agrees next.sim m) (sym (moment_then n core)) run;
      sessions =
          subst (λ s. AreKept s (ticks_of_core n core).sessions) (sym sessions)
          (subst (λ s. AreKept kept.sessions s) (sym last.sessions) h.sessions);
      acquisitions = subst (λ a. acquire.Agrees next.acquisitions a) (sym all) (ends (all_taken (records_of t.rows) core.acquisitions) t.agrees);
    }

-- Commands.

-- the slot that an assignment sets is in the catalogue
target_by_there : (o : Option Attribute) (slot : Slot) → IsSlot slot → IsSlot (target_by o slot)
target_by_there None slot s = s
target_by_there (Some attributes.TimeRaw) slot s =
    record { in_blocks = s.in_blocks; from_one = s.from_one; in_count = s.in_count; in_fields = s.in_fields; in_attributes = omega arith }
target_by_there (Some _) slot s = s

-- an accepted table write counts as an assignment
abbrev pub noted_if : Result (List ℕ) Refusal → KeptConfig → Slot → KeptConfig
noted_if (Ok words) config slot = with_note config slot
noted_if (Err refusal) config slot = config

-- a value that was given

-- what a change, if there is one, leaves of the run
abbrev pub RunsBy : Result (Option Change) Refusal → Going → Going → Type 0
RunsBy (Ok (Some change)) old new = (moment : Moment) → sims.Agrees old moment → sims.Agrees new (changed_moment moment change)
RunsBy (Ok None) old new = new ≡ old
RunsBy (Err refusal) old new = new ≡ old

run_given : (change : Option Change) (old new : Going) (core : CoreState) → RunsBy (Ok change) old new → sims.Agrees old (moment_of core) →
    sims.Agrees (sims.touched new) (record { rows = core.rows; box = changed_by change core.box; before = core.before; stood = true })
run_given None old new core is h =
    touched_run new (moment_of core) (subst (λ g. sims.Agrees g (moment_of core)) (sym is) h)
run_given (Some change) old new core runs h = touched_run new (changed_moment (moment_of core) change) (runs (moment_of core) h)

given_stands : (kept next : KeptCore) (core : CoreState) (new : Given) → raw_given kept.config.settings new.slot new.text ≡ Ok new.raw → IsSlot new.slot →
    next.config ≡ with_assignment kept.config new.slot new.text → next.sessions ≡ kept.sessions → next.acquisitions ≡ kept.acquisitions →
    RunsBy (Ok (change_of new.slot new.raw)) kept.sim next.sim → Agrees kept core → Stands next (with_given core new)
given_stands kept next core new e s config sessions acquired runs h =
    record {
      settings =
          ap (λ (c : KeptConfig). c.settings) config
          ∙ (ap (after_by kept.config.settings new.slot new.text) e ∙ ap (λ (x : Settings). assigned x new.slot new.text new.raw) h.settings);
      assigned =
          subst (λ numbers. AgreesWithAssigned numbers (target new.slot ∷ core.assigned))
          (sym (ap (λ (c : KeptConfig). c.numbers) config ∙ ap (numbers_by kept.config.numbers new.slot) e))
          (one_more_agrees kept.config.numbers core.assigned (target new.slot) h.assigned
          (target_by_there (attribute_at new.slot) new.slot s));
      run = run_given (change_of new.slot new.raw) kept.sim next.sim core runs h.run;
      sessions = subst (λ k. AreKept k core.sessions) (sym sessions) h.sessions;
      acquisitions = subst (λ k. acquire.Agrees k core.acquisitions) (sym acquired) h.acquisitions;
    }

-- with nothing changed
same_stands : (kept next : KeptCore) (core : CoreState) → next.config.settings ≡ kept.config.settings → next.config.numbers ≡ kept.config.numbers →
    next.sim ≡ kept.sim → next.sessions ≡ kept.sessions → next.acquisitions ≡ kept.acquisitions → Agrees kept core → Stands next core
same_stands kept next core settings numbers sim sessions acquired h =
    let s : Stands kept core = stands_same kept core h in
    record {
      settings = settings ∙ h.settings;
      assigned = subst (λ n. AgreesWithAssigned n core.assigned) (sym numbers) h.assigned;
      run = subst (λ g. sims.Agrees (sims.touched g) (stood_at (moment_of core))) (sym sim) s.run;
      sessions = subst (λ k. AreKept k core.sessions) (sym sessions) h.sessions;
      acquisitions = subst (λ k. acquire.Agrees k core.acquisitions) (sym acquired) h.acquisitions;
    }

given_by : (kept next : KeptCore) (core : CoreState) (id : ℕ) (slot : Slot) (text : List ℕ) (r : Result ℕ Refusal) →
    raw_given kept.config.settings slot text ≡ r → IsSlot slot →
    next.config ≡ with_assignment kept.config slot text → next.sessions ≡ kept.sessions → next.acquisitions ≡ kept.acquisitions →
    RunsBy (result_map (change_of slot) r) kept.sim next.sim → Agrees kept core →
    Stands next (left_by core id (result_map gives (result_map (given slot text) r)))
given_by kept next core id slot text (Ok raw) e s config sessions acquired runs h =
    given_stands kept next core (given slot text raw) e s config sessions acquired runs h
given_by kept next core id slot text (Err refusal) e s config sessions acquired runs h =
    same_stands kept next core
    (ap (λ (c : KeptConfig). c.settings) config ∙ ap (after_by kept.config.settings slot text) e)
    (ap (λ (c : KeptConfig). c.numbers) config ∙ ap (numbers_by kept.config.numbers slot) e)
    runs sessions acquired h

pub set_stands : (kept next : KeptCore) (core : CoreState) (id : ℕ) (slot : Slot) (text : List ℕ) → IsSlot slot →
    next.config ≡ with_assignment kept.config slot text → next.sessions ≡ kept.sessions → next.acquisitions ≡ kept.acquisitions →
    RunsBy (told kept.config.settings slot text) kept.sim next.sim → Agrees kept core →
    Stands next (left_by core id (result_map gives (slot_given core.settings text slot)))
set_stands kept next core id slot text s config sessions acquired runs h =
    subst (λ (x : Settings). Stands next (left_by core id (result_map gives (slot_given x text slot)))) h.settings
    (given_by kept next core id slot text (raw_given kept.config.settings slot text) refl s config sessions acquired runs h)

-- a command of capture

pub clears_stands : (kept next : KeptCore) (core : CoreState) (id : ℕ) → next.config ≡ with_clearing kept.config → next.sim ≡ kept.sim →
    next.sessions ≡ kept.sessions → next.acquisitions ≡ kept.acquisitions → Agrees kept core → Stands next (with_deed core id (captures clears))
clears_stands kept next core id config sim sessions acquired h =
    let s : Stands kept core = stands_same kept core h in
    record {
      settings = ap (λ (c : KeptConfig). c.settings) config ∙ ap without_captures h.settings;
      assigned =
          subst (λ (c : KeptConfig). AgreesWithAssigned c.numbers (with_deed core id (captures clears)).assigned) (sym config)
          (cleared_agree kept.config.numbers core.assigned h.assigned);
      run = subst (λ g. sims.Agrees (sims.touched g) (stood_at (moment_of core))) (sym sim) s.run;
      sessions = subst (λ k. AreKept k core.sessions) (sym sessions) h.sessions;
      acquisitions = subst (λ k. acquire.Agrees k core.acquisitions) (sym acquired) h.acquisitions;
    }

-- PCAP is armed or disarmed
capture_stands : (kept next : KeptCore) (core left : CoreState) (change : Change) → next.config ≡ kept.config → next.sessions ≡ kept.sessions →
    left.settings ≡ core.settings → left.assigned ≡ core.assigned → left.sessions ≡ core.sessions →
    stood_at (moment_of left) ≡ changed_moment (moment_of core) change →
    ((moment : Moment) → sims.Agrees kept.sim moment → sims.Agrees next.sim (changed_moment moment change)) →
    acquire.Agrees next.acquisitions left.acquisitions → Agrees kept core → Stands next left
capture_stands kept next core left change config sessions s a o m runs acquired h =
    record {
      settings = ap (λ (c : KeptConfig). c.settings) config ∙ (h.settings ∙ sym s);
      assigned =
          subst (λ (c : KeptConfig). AgreesWithAssigned c.numbers left.assigned) (sym config)
          (subst (λ slots. AgreesWithAssigned kept.config.numbers slots) (sym a) h.assigned);
      run =
          subst (λ moment. sims.Agrees (sims.touched next.sim) moment) (sym m)
          (touched_run next.sim (changed_moment (moment_of core) change) (runs (moment_of core) h.run));
      sessions =
          subst (λ k. AreKept k left.sessions) (sym sessions) (subst (λ l. AreKept kept.sessions l) (sym o) h.sessions);
      acquisitions = acquired;
    }

pub arms_stands : (kept next : KeptCore) (core : CoreState) (id : ℕ) (layout : List Field) → next.config ≡ kept.config → next.sessions ≡ kept.sessions →
    ((moment : Moment) → sims.Agrees kept.sim moment → sims.Agrees next.sim (changed_moment moment (changes.Arm (room_of layout)))) →
    acquire.Agrees next.acquisitions (armed layout core.acquisitions) → Agrees kept core → Stands next (with_deed core id (captures (arms layout)))
arms_stands kept next core id layout config sessions runs acquired h =
    capture_stands kept next core (with_deed core id (captures (arms layout))) (changes.Arm (room_of layout)) config sessions refl refl refl refl runs acquired h

pub disarms_stands : (kept next : KeptCore) (core : CoreState) (id : ℕ) → next.config ≡ kept.config → next.sessions ≡ kept.sessions →
    ((moment : Moment) → sims.Agrees kept.sim moment → sims.Agrees next.sim (changed_moment moment changes.Disarm)) →
    acquire.Agrees next.acquisitions (ended conditions.Disarmed core.acquisitions) → Agrees kept core → Stands next (with_deed core id (captures disarms))
disarms_stands kept next core id config sessions runs acquired h =
    capture_stands kept next core (with_deed core id (captures disarms)) changes.Disarm config sessions refl refl refl refl runs acquired h

-- a table that was written

written_stands : (kept next : KeptCore) (core : CoreState) (slot : Slot) (left : Result (List ℕ) Refusal) → IsSlot slot →
    next.config ≡ noted_if left kept.config slot → next.sessions ≡ kept.sessions → next.acquisitions ≡ kept.acquisitions →
    ((moment : Moment) → sims.Agrees kept.sim moment → sims.Agrees next.sim (written_moment moment slot.instance left)) → Agrees kept core →
    Stands next (written_by core (result_map (left_to slot) left))
written_stands kept next core slot (Err refusal) s config sessions acquired runs h =
    record {
      settings = ap (λ (c : KeptConfig). c.settings) config ∙ h.settings;
      assigned = subst (λ (c : KeptConfig). AgreesWithAssigned c.numbers core.assigned) (sym config) h.assigned;
      run = touched_run next.sim (moment_of core) (runs (moment_of core) h.run);
      sessions = subst (λ k. AreKept k core.sessions) (sym sessions) h.sessions;
      acquisitions = subst (λ k. acquire.Agrees k core.acquisitions) (sym acquired) h.acquisitions;
    }
written_stands kept next core slot (Ok words) s config sessions acquired runs h =
    record {
      settings = ap (λ (c : KeptConfig). c.settings) config ∙ h.settings;
      assigned =
          subst (λ (c : KeptConfig). AgreesWithAssigned c.numbers (slot ∷ core.assigned)) (sym config)
          (one_more_agrees kept.config.numbers core.assigned slot h.assigned s);
      run = touched_run next.sim (written_moment (moment_of core) slot.instance (Ok words)) (runs (moment_of core) h.run);
      sessions = subst (λ k. AreKept k core.sessions) (sym sessions) h.sessions;
      acquisitions = subst (λ k. acquire.Agrees k core.acquisitions) (sym acquired) h.acquisitions;
    }

pub noted_ok : (left : Result (List ℕ) Refusal) (config next : KeptConfig) (slot : Slot) → Ok tt ≡ answer_of left → next ≡ with_note config slot →
    next ≡ noted_if left config slot
noted_ok (Ok words) config next slot e h = h
noted_ok (Err refusal) config next slot e h = absurd (cc)

pub noted_err : (left : Result (List ℕ) Refusal) (config next : KeptConfig) (slot : Slot) (refusal : Refusal) → Err refusal ≡ answer_of left → next ≡ config →
    next ≡ noted_if left config slot
noted_err (Ok words) config next slot refusal e h = absurd (cc)
noted_err (Err other) config next slot refusal e h = h

-- by the words that stand in the table
pub table_stands : (kept next : KeptCore) (core : CoreState) (slot : Slot) (append base64 : Bool) (body : List ℕ) → IsSlot slot →
    next.config ≡ noted_if (written (table_of (box_of kept).blocks slot.instance) append base64 body) kept.config slot →
    next.sessions ≡ kept.sessions → next.acquisitions ≡ kept.acquisitions →
    ((moment : Moment) → sims.Agrees kept.sim moment →
    sims.Agrees next.sim (written_moment moment slot.instance (written (table_of (box_of kept).blocks slot.instance) append base64 body))) → Agrees kept core →
    Stands next (written_by core (table_written core.box.stands append base64 body slot))
table_stands kept next core slot append base64 body s config sessions acquired runs h =
    subst (λ (box : Standing). Stands next (written_by core (table_written box append base64 body slot))) h.run.box.stands
    (written_stands kept next core slot (written (table_of (box_of kept).blocks slot.instance) append base64 body) s config sessions acquired runs h)

-- what is left after a table write to a slot
pub wrote : (next : KeptCore) (core : CoreState) (slot : Slot) (append base64 : Bool) (body : List ℕ) → is_table slot ≡ true →
    Stands next (written_by core (table_written core.box.stands append base64 body slot)) →
    Stands next (written_by core (slot_written core.box.stands append base64 body slot))
wrote next core slot append base64 body t h =
    let here : slot_written core.box.stands append base64 body slot ≡ table_written core.box.stands append base64 body slot =
    ap (λ b. if b then table_written core.box.stands append base64 body slot else Err refusals.NotWriteable) t in
    subst (λ r. Stands next (written_by core r)) (sym here) h

-- nothing is written where the slot is no table
pub wrote_nothing : (kept : KeptCore) (core : CoreState) (slot : Slot) (append base64 : Bool) (body : List ℕ) → is_table slot ≡ false →
    Agrees kept core → Stands kept (written_by core (slot_written core.box.stands append base64 body slot))
wrote_nothing kept core slot append base64 body t h =
    let here : slot_written core.box.stands append base64 body slot ≡ Err refusals.NotWriteable =
    ap (λ b. if b then table_written core.box.stands append base64 body slot else Err refusals.NotWriteable) t in
    subst (λ r. Stands kept (written_by core r)) (sym here) (stands_same kept core h)

-- to what a target names
pub wrote_named : (next : KeptCore) (core : CoreState) (target : List ℕ) (named : Named) (append base64 : Bool) (body : List ℕ) → named_by target ≡ Ok named →
    Stands next (written_by core (named_written core.box.stands append base64 body named)) →
    Stands next (written_by core (table_write core.box.stands target append base64 body))
wrote_named next core target named append base64 body e h =
    subst (λ r. Stands next (written_by core (result_then r (named_written core.box.stands append base64 body)))) (sym e) h

-- what is told by what is kept is told by the core
pub answers_agree : (kept : KeptCore) (core : CoreState) (reports : Option Group → List ℕ) (said : Said) → Agrees kept core →
    said_answer kept.config.settings (stands_of (box_of kept)) (open_of kept.sessions) core.acquisitions reports said
    ≡ said_answer core.settings core.box.stands (open_of core.sessions) core.acquisitions reports said
answers_agree kept core reports said h =
    ap (λ s. said_answer s (stands_of (box_of kept)) (open_of kept.sessions) core.acquisitions reports said) h.settings
    ∙ (ap (λ b. said_answer core.settings b (open_of kept.sessions) core.acquisitions reports said) h.run.box.stands
    ∙ ap (λ x. said_answer core.settings core.box.stands x core.acquisitions reports said) (same_open kept.sessions core.sessions h.sessions))

-- the change that an assignment tells is one that the box takes
pub told_change : (blocks : List Block) (told : Result (Option Change) Refusal) (change : Change) → told ≡ Ok (Some change) →
    IfOk told (λ t. IfSome t (λ one. IsChange blocks one)) → IsChange blocks change
told_change blocks told change e h = subst (λ t. IfOk t (λ x. IfSome x (λ one. IsChange blocks one))) e h
