-- What the reader of a data session gets in a history of all sessions.
use Rattle.std.proofs.Common.{◌≡◌, ◌≢◌, ◌==◌, ◌≤◌, ◌++◌, ◌∷◌, [], ℕ, Bool, true, false, List, length, filter, Option, Some, None, Result, Ok, Err, cond, refl, sym, ap, ◌∙◌, subst, append_assoc, append-nil, arith, inl, inr}
use Rattle.std.specs.List.{All}
use Rattle.std.proofs.lemmas.Bool.{eq-eqb, eqb-true}
use Rattle.std.proofs.lemmas.List.Elements.{All-nil, All-cons, All-head, All-tail, filter-append}
use Rattle.pb_words.specs.declared.OutOfMemory.{OutOfMemory}
use Rattle.pb_words.specs.declared.Refusal.{Refusal}
use Rattle.pb_ports.specs.Ports as ports
use Rattle.pb_stim.specs.declared.Row.{Row}
use Rattle.pb_turn.specs.Seeing.{Known, calls_of}
use Rattle.pb_encode.specs.declared.Options.{Options}
use Rattle.pb_encode.specs.Choosing.{options_of}
use Rattle.pb_acquire.specs.Acquisitions.{AllAcquisitions}
use Rattle.pb_acquire.specs.Taking.{opened}
use Rattle.pb_acquire.specs.Streams.{after_events, handed, RunsOn, IsGivenTo}
use Rattle.pb_acquire.proofs.EventLemmas.{given_since_opened}
use Rattle.pb_core.specs.declared.Event.{Event}
use Rattle.pb_core.specs.declared.Event.TheVariants as events
use Rattle.pb_core.specs.declared.Answer.{Answer}
use Rattle.pb_core.specs.declared.Answer.TheVariants as answers
use Rattle.pb_core.specs.declared.Entry.{Entry}
use Rattle.pb_core.specs.Core.{CoreState, opening}
use Rattle.pb_core.specs.Sessions.{opened_by, opened_answer}
use Rattle.pb_core.specs.Answer.{after, bytes_of}
use Rattle.pb_core.specs.History.{IsNext, IsLegal, IsResult, IsTaking, after_entry, core_after}
use Rattle.pb_core.proofs.FittingLemmas.{is_taking}
use Rattle.pb_session.specs.declared.endings.DataEnded.{DataEnded}
use Rattle.pb_session.specs.declared.endings.DataEnded.TheVariants as endings
use Rattle.pb_session.specs.Calls.{Adds, entry}
use Rattle.pb_session.specs.Controls.{AddsFront}
use Rattle.pb_session.specs.Data as data_sessions
use Rattle.pb_session.specs.Data.{IsRefused, AreGoing, EndsBy, HasRun, handed_of, bytes_to, opens, leaves, stream_of}
use Rattle.pb_session.specs.Readings.{is_of, entries_of, AreTakes, ServesAlone, IsGivenIn, WasGiven, IsWritten, written}
use Rattle.pb_session.proofs.MovingLemmas.{piece_in, pieces_in, SparesReader, history_moves, many_on, many_as_many}

-- Parts of histories.

-- a legal history in two parts
legal_parts : (core : CoreState) (xs ys : List Entry) → IsLegal core (xs ++ ys) → IsLegal core xs × IsLegal (core_after core xs) ys
legal_parts core [] ys legal = (tt, legal)
legal_parts core (x ∷ xs) ys legal = let more = legal_parts (after_entry core x) xs ys legal.1 in ((legal.0, more.0), more.1)

core_parts : (core : CoreState) (xs ys : List Entry) → core_after core (xs ++ ys) ≡ core_after (core_after core xs) ys
core_parts core [] ys = refl
core_parts core (x ∷ xs) ys = core_parts (after_entry core x) xs ys

is_head : (x y : Entry) (xs ys : List Entry) → x ∷ xs ≡ y ∷ ys → x ≡ y
is_head x y xs ys e = cc

is_tail : (x y : Entry) (xs ys : List Entry) → x ∷ xs ≡ y ∷ ys → xs ≡ ys
is_tail x y xs ys e = cc

module _ (id : ℕ) where
  apart : (x y : ℕ) → (x == y) ≡ false → y ≢ x
  apart x y tells = grind arith

  -- A history is cut at one of a session's entries, by what happened to that session.
  record Cut (history front : List Entry) (at : Entry) (rest : List Entry) : Type 0 where
    before : List Entry
    behind : List Entry
    is : history ≡ before ++ at ∷ behind
    front_is : entries_of id before ≡ front
    rest_is : entries_of id behind ≡ rest

  cut_step : (x : Entry) (history front : List Entry) (at : Entry) (rest : List Entry)
      → ((f : List Entry) → entries_of id history ≡ f ++ at ∷ rest → Cut history f at rest)
      → (b : Bool) → is_of id x.event ≡ b → cond b (x ∷ entries_of id history) (entries_of id history) ≡ front ++ at ∷ rest → Cut (x ∷ history) front at rest
  cut_step x history [] at rest more true tells h =
      record { before = []; behind = history; is = ap (λ (e : Entry). e ∷ history) (is_head x at (entries_of id history) rest h); front_is = refl; rest_is = is_tail x at (entries_of id history) rest h }
  cut_step x history (f ∷ front) at rest more true tells h =
      let c = more front (is_tail x f (entries_of id history) (front ++ at ∷ rest) h) in
      let first : x ≡ f = is_head x f (entries_of id history) (front ++ at ∷ rest) h in
      record {
        before = x ∷ c.before;
        behind = c.behind;
        is = ap (λ (l : List Entry). x ∷ l) c.is;
        front_is = ap (λ (b : Bool). cond b (x ∷ entries_of id c.before) (entries_of id c.before)) tells ∙ (ap (λ (l : List Entry). x ∷ l) c.front_is ∙ ap (λ (e : Entry). e ∷ front) first);
        rest_is = c.rest_is;
      }
  cut_step x history front at rest more false tells h =
      let c = more front h in
      record {
        before = x ∷ c.before;
        behind = c.behind;
        is = ap (λ (l : List Entry). x ∷ l) c.is;
        front_is = ap (λ (b : Bool). cond b (x ∷ entries_of id c.before) (entries_of id c.before)) tells ∙ c.front_is;
        rest_is = c.rest_is;
      }

  cut_at : (history front : List Entry) (at : Entry) (rest : List Entry) → entries_of id history ≡ front ++ at ∷ rest → Cut history front at rest
  cut_at [] [] at rest h = cc
  cut_at [] (f ∷ front) at rest h = cc
  cut_at (x ∷ history) front at rest h = cut_step x history front at rest (λ f e. cut_at history f at rest e) (is_of id x.event) refl h

  -- Where only takes happened to a session, its reader was spared, and was handed their pieces.

  is_spared : (event : Event) → is_of id event ≡ false → SparesReader id event
  is_spared (events.OpenData other line) tells = apart id other tells
  is_spared (events.CloseData other) tells = apart id other tells
  is_spared event tells = tt

  abbrev AreSpared : List Entry → Type 0
  AreSpared history = All (λ (e : Entry). SparesReader id e.event) history

  spared_step : (e : Entry) (history : List Entry) → (AreTakes id (entries_of id history) → AreSpared history)
      → (b : Bool) → is_of id e.event ≡ b → AreTakes id (cond b (e ∷ entries_of id history) (entries_of id history)) → AreSpared (e ∷ history)
  spared_step e history rest true tells takes =
      let its : e.event ≡ events.Take id = All-head (λ (t : Entry). t.event ≡ events.Take id) e (entries_of id history) takes in
      All-cons (λ (t : Entry). SparesReader id t.event) e history (subst (λ (v : Event). SparesReader id v) (sym its) tt)
      (rest (All-tail (λ (t : Entry). t.event ≡ events.Take id) e (entries_of id history) takes))
  spared_step e history rest false tells takes = All-cons (λ (t : Entry). SparesReader id t.event) e history (is_spared e.event tells) (rest takes)

  are_spared : (history : List Entry) → AreTakes id (entries_of id history) → AreSpared history
  are_spared [] takes = All-nil (λ (t : Entry). SparesReader id t.event)
  are_spared (e ∷ history) takes = spared_step e history (λ t. are_spared history t) (is_of id e.event) refl takes

  piece_is : (result : Result Answer OutOfMemory) → IsTaking result → piece_in id (events.Take id) result ≡ data_sessions.handed result
  piece_is (Ok (answers.Piece text)) h = ap (λ (b : Bool). cond b text []) (eq-eqb id id refl)
  piece_is (Ok answers.NotYet) h = refl
  piece_is (Ok answers.Finished) h = refl
  piece_is (Ok answers.Closed) h = refl
  piece_is (Ok answers.Nothing) h = absurd h
  piece_is (Ok answers.Ok) h = absurd h
  piece_is (Ok (answers.Reply text)) h = absurd h
  piece_is (Ok (answers.Error refusal)) h = absurd h
  piece_is (Ok (answers.Opened status)) h = absurd h
  piece_is (Ok (answers.Reached tick why)) h = absurd h
  piece_is (Err lack) h = refl

  nothing_of : (event : Event) (result : Result Answer OutOfMemory) → is_of id event ≡ false → piece_in id event result ≡ []
  nothing_of (events.Take other) (Ok (answers.Piece text)) tells = ap (λ (b : Bool). cond b text []) tells
  nothing_of event result tells = refl

  pieces_step : (core : CoreState) (e : Entry) (history : List Entry) → IsNext core e → (AreTakes id (entries_of id history) → pieces_in id history ≡ handed_of (entries_of id history))
      → (b : Bool) → is_of id e.event ≡ b → AreTakes id (cond b (e ∷ entries_of id history) (entries_of id history))
      → piece_in id e.event e.result ++ pieces_in id history ≡ handed_of (cond b (e ∷ entries_of id history) (entries_of id history))
  pieces_step core e history next rest true tells takes =
      let its : e.event ≡ events.Take id = All-head (λ (t : Entry). t.event ≡ events.Take id) e (entries_of id history) takes in
      let told : IsTaking e.result = is_taking core id e.result (subst (λ (v : Event). IsResult core v e.result) its next.told) in
      ap (λ (l : List ℕ). l ++ pieces_in id history) (ap (λ (v : Event). piece_in id v e.result) its ∙ piece_is e.result told)
      ∙ ap (λ (l : List ℕ). data_sessions.handed e.result ++ l) (rest (All-tail (λ (t : Entry). t.event ≡ events.Take id) e (entries_of id history) takes))
  pieces_step core e history next rest false tells takes = ap (λ (l : List ℕ). l ++ pieces_in id history) (nothing_of e.event e.result tells) ∙ rest takes

  pieces_are : (core : CoreState) (history : List Entry) → IsLegal core history → AreTakes id (entries_of id history) → pieces_in id history ≡ handed_of (entries_of id history)
  pieces_are core [] legal takes = refl
  pieces_are core (e ∷ history) legal takes =
      pieces_step core e history legal.0 (λ t. pieces_are (after_entry core e) history legal.1 t) (is_of id e.event) refl takes

  -- Behind the opening of a reader.

  given_behind : (rows : List Row) (before behind : List Entry) (line : List ℕ) (options : Options) → (1 ≤ id) × (id ≤ 8) → IsLegal (opening rows) before → options_of line ≡ Ok options
      → IsLegal (after (core_after (opening rows) before) (events.OpenData id line)) behind → AreTakes id (entries_of id behind)
      → IsGivenTo options (length (core_after (opening rows) before).acquisitions.completed) id (core_after (after (core_after (opening rows) before) (events.OpenData id line)) behind).acquisitions (handed_of (entries_of id behind))
  given_behind rows before behind line options session legal accepted more takes =
      let first = opening rows in
      let core = core_after first before in
      let all = core.acquisitions in
      let start : AllAcquisitions = opened id options all in
      let next = after core (events.OpenData id line) in
      let one = history_moves id ⊥ first before legal (λ none. absurd none) in
      let runs : RunsOn all.running = subst (λ (a : AllAcquisitions). RunsOn a.running) (sym one.is) (many_on first.acquisitions one.moved tt) in
      let places : length all.readers ≡ 8 = ap (λ (a : AllAcquisitions). length a.readers) one.is ∙ many_as_many first.acquisitions one.moved in
      let opens_it : next.acquisitions ≡ start = ap (λ (o : Result Options Refusal). opened_by id o all) accepted in
      let two = history_moves id (Unit {0}) next behind more (λ _. are_spared behind takes) in
      let given = given_since_opened all id options two.moved session.0 (subst (λ (n : ℕ). id ≤ n) (sym places) session.1) runs (two.spared tt) in
      let same : (core_after next behind).acquisitions ≡ after_events start two.moved = two.is ∙ ap (λ (a : AllAcquisitions). after_events a two.moved) opens_it in
      let told : handed_of (entries_of id behind) ≡ handed id start two.moved = sym (pieces_are next behind more takes) ∙ (two.told ∙ ap (λ (a : AllAcquisitions). handed id a two.moved) opens_it) in
      subst (λ (a : AllAcquisitions). IsGivenTo options (length all.completed) id a (handed_of (entries_of id behind))) (sym same)
      (subst (λ (l : List ℕ). IsGivenTo options (length all.completed) id (after_events start two.moved) l) (sym told) given)

  pub given_in_whole : (rows : List Row) (before behind takes : List Entry) (line : List ℕ) (told : Answer) (options : Options)
      → IsLegal (opening rows) (before ++ opens id line told ∷ behind) → options_of line ≡ Ok options → entries_of id behind ≡ takes → AreTakes id takes
      → IsGivenIn (opening rows) id options before (opens id line told) behind (handed_of takes)
  given_in_whole rows before behind takes line told options legal accepted are its =
      let first = opening rows in
      let e : Entry = opens id line told in
      let parts = legal_parts first before (e ∷ behind) legal in
      let can = parts.1.0.can in
      subst (λ (c : CoreState). IsGivenTo options (length (core_after first before).acquisitions.completed) id c.acquisitions (handed_of takes)) (sym (core_parts first before (e ∷ behind)))
      (subst (λ (l : List Entry). IsGivenTo options (length (core_after first before).acquisitions.completed) id (core_after (after (core_after first before) (events.OpenData id line)) behind).acquisitions (handed_of l)) are
      (given_behind rows before behind line options (can.from_one, can.in_count) parts.0 accepted parts.1.1 (subst (λ (l : List Entry). AreTakes id l) (sym are) its)))

  -- what an opening is answered in a legal history
  told_opened : (core : CoreState) (before behind : List Entry) (line : List ℕ) (told : Answer) (options : Options)
      → IsLegal core (before ++ opens id line told ∷ behind) → options_of line ≡ Ok options → told ≡ answers.Opened options.status
  told_opened core before behind line told options legal accepted =
      let parts = legal_parts core before (opens id line told ∷ behind) legal in
      parts.1.0.told ∙ ap (λ (o : Result Options Refusal). opened_answer o) accepted

  -- The takes of a session.

  going_takes : (takes : List Entry) → AreGoing id takes → AreTakes id takes
  going_takes [] are = All-nil (λ (t : Entry). t.event ≡ events.Take id)
  going_takes (t ∷ takes) are = All-cons (λ (t : Entry). t.event ≡ events.Take id) t takes are.0 (going_takes takes are.2)

  one_take_more : (takes : List Entry) (last : Entry) → AreTakes id takes → last.event ≡ events.Take id → AreTakes id (takes ++ last ∷ [])
  one_take_more [] last are its = All-cons (λ (t : Entry). t.event ≡ events.Take id) last [] its are
  one_take_more (t ∷ takes) last are its =
      All-cons (λ (t : Entry). t.event ≡ events.Take id) t (takes ++ last ∷ []) (All-head (λ (t : Entry). t.event ≡ events.Take id) t takes are)
      (one_take_more takes last (All-tail (λ (t : Entry). t.event ≡ events.Take id) t takes are) its)

  ended_takes : (takes : List Entry) (result : Result Answer OutOfMemory) → EndsBy id takes result → AreTakes id takes
  ended_takes takes result ends =
      subst (λ (l : List Entry). AreTakes id l) (sym ends.last) (one_take_more ends.going (entry (events.Take id) result) (going_takes ends.going ends.are) refl)

  its_own : (e : Entry) (es : List Entry) → is_of id e.event ≡ true → entries_of id (e ∷ es) ≡ e ∷ entries_of id es
  its_own e es tells = ap (λ (b : Bool). cond b (e ∷ entries_of id es) (entries_of id es)) tells

  own_takes : (takes : List Entry) → AreTakes id takes → entries_of id takes ≡ takes
  own_takes [] are = refl
  own_takes (t ∷ takes) are =
      its_own t takes (ap (λ (v : Event). is_of id v) (All-head (λ (t : Entry). t.event ≡ events.Take id) t takes are) ∙ eq-eqb id id refl)
      ∙ ap (λ (l : List Entry). t ∷ l) (own_takes takes (All-tail (λ (t : Entry). t.event ≡ events.Take id) t takes are))

  both_parts : (xs ys : List Entry) → entries_of id (xs ++ ys) ≡ entries_of id xs ++ entries_of id ys
  both_parts xs ys = filter-append (λ (e : Entry). is_of id e.event) xs ys

  -- all of it is the session's own
  own_stream : (line : List ℕ) (told : Answer) (takes : List Entry) → AreTakes id takes → entries_of id (stream_of id line told takes) ≡ stream_of id line told takes
  own_stream line told takes are =
      its_own (opens id line told) (takes ++ leaves id ∷ []) (eq-eqb id id refl)
      ∙ ap (λ (l : List Entry). opens id line told ∷ l)
      (both_parts takes (leaves id ∷ [])
      ∙ (ap (λ (l : List Entry). l ++ entries_of id (leaves id ∷ [])) (own_takes takes are) ∙ ap (λ (l : List Entry). takes ++ l) (its_own (leaves id) [] (eq-eqb id id refl))))

  -- A whole session.
  module _ {V : Type 0} (began : V → CoreState) (rows : List Row) (value : V) (pass new : Known Entry V) (line : List ℕ) (options : Options)
      (at : pass.opened ≡ Some value) (begins : began value ≡ opening rows) (accepted : options_of line ≡ Ok options) (alone : ServesAlone id new) where
    -- its calls are what happened to it at last
    happened : (told : Answer) (takes : List Entry) → Adds began pass new (stream_of id line told takes) → AreTakes id takes
        → entries_of id new.seen ≡ entries_of id (calls_of pass) ++ stream_of id line told takes
    happened told takes adds are =
        alone ∙ (ap (λ (l : List Entry). entries_of id l) adds.calls
        ∙ (both_parts (calls_of pass) (stream_of id line told takes) ∙ ap (λ (l : List Entry). entries_of id (calls_of pass) ++ l) (own_stream line told takes are)))

    record Saw (told : Answer) (takes : List Entry) : Type 0 where
      was : WasGiven (opening rows) new.seen id line options (handed_of takes)
      is_told : told ≡ answers.Opened options.status

    saw_parts : (told : Answer) (takes before rest behind later : List Entry) → AreTakes id takes → IsLegal (opening rows) new.seen
        → new.seen ≡ before ++ opens id line told ∷ rest → rest ≡ behind ++ later → entries_of id behind ≡ takes → told ≡ answers.Opened options.status → Saw told takes
    saw_parts told takes before rest behind later are legal is cut its is_told =
        let seen : new.seen ≡ before ++ opens id line told ∷ (behind ++ later) = is ∙ ap (λ (l : List Entry). before ++ opens id line told ∷ l) cut in
        let joined : before ++ opens id line told ∷ (behind ++ later) ≡ (before ++ opens id line told ∷ behind) ++ later = sym (append_assoc before (opens id line told ∷ behind) later) in
        let front = legal_parts (opening rows) (before ++ opens id line told ∷ behind) later (subst (λ (l : List Entry). IsLegal (opening rows) l) (seen ∙ joined) legal) in
        let given = given_in_whole rows before behind takes line told options front.0 accepted its are in
        record {
          was = record {
            before = before;
            behind = behind;
            later = later;
            are = seen ∙ ap (λ (t : Answer). before ++ opens id line t ∷ (behind ++ later)) is_told;
            given = subst (λ (t : Answer). IsGivenIn (opening rows) id options before (opens id line t) behind (handed_of takes)) is_told given;
          };
          is_told = is_told;
        }

    saw : (told : Answer) (takes : List Entry) → Adds began pass new (stream_of id line told takes) → AreTakes id takes → Saw told takes
    saw told takes adds are =
        let legal : IsLegal (opening rows) new.seen = subst (λ (c : CoreState). IsLegal c new.seen) begins (adds.legal value at) in
        let one = cut_at new.seen (entries_of id (calls_of pass)) (opens id line told) (takes ++ leaves id ∷ []) (happened told takes adds are) in
        let two = cut_at one.behind takes (leaves id) [] one.rest_is in
        saw_parts told takes one.before one.behind two.before (leaves id ∷ two.behind) are legal one.is two.is two.front_is
        (told_opened (opening rows) one.before one.behind line told options (subst (λ (l : List Entry). IsLegal (opening rows) l) one.is legal) accepted)

    abbrev Written : DataEnded → Option (List ℕ) → Option (List ℕ) → Type 0
    Written ended held holds = (bytes : List ℕ) × WasGiven (opening rows) new.seen id line options bytes × IsWritten ended (written options bytes) held holds

    -- what was told and handed is what is written
    all_bytes : (told : Answer) (takes : List Entry) → Saw told takes → bytes_to told takes ≡ written options (handed_of takes)
    all_bytes told takes s = ap (λ (t : Answer). bytes_of t ++ handed_of takes) s.is_told

    wrote_all : (told : Answer) (takes : List Entry) (held holds : Option (List ℕ)) → Saw told takes → ports.Adds held (bytes_to told takes) holds → ports.Adds held (written options (handed_of takes)) holds
    wrote_all told takes held holds s h = subst (λ (l : List ℕ). ports.Adds held l holds) (all_bytes told takes s) h

    refused_not : (status : Bool) → IsRefused (answers.Opened status) → ⊥
    refused_not status h = h

    pub session_given : (ended : DataEnded) (held holds : Option (List ℕ)) → HasRun (stream_of id line) began id pass ended new held holds → Written ended held holds
    session_given endings.Finished held holds (r, is, ends, wrote) =
        let s = saw r.told r.takes r.adds (ended_takes r.takes (Ok answers.Finished) ends) in (handed_of r.takes, s.was, wrote_all r.told r.takes held holds s wrote)
    session_given endings.Displaced held holds (r, is, ends, wrote) =
        let s = saw r.told r.takes r.adds (ended_takes r.takes (Ok answers.Closed) ends) in (handed_of r.takes, s.was, wrote_all r.told r.takes held holds s wrote)
    session_given endings.NoMemory held holds (r, is, (lack, ends), wrote) =
        let s = saw r.told r.takes r.adds (ended_takes r.takes (Err lack) ends) in (handed_of r.takes, s.was, wrote_all r.told r.takes held holds s wrote)
    session_given endings.WriteFault held holds (r, is, are, wrote) =
        let s = saw r.told r.takes r.adds (going_takes r.takes are) in
        (handed_of r.takes, s.was, subst (λ (l : List ℕ). AddsFront held l holds) (all_bytes r.told r.takes s) wrote)
    session_given endings.Refused held holds (r, is, none, wrote) =
        let s = saw r.told r.takes r.adds (subst (λ (l : List Entry). AreTakes id l) (sym none) (All-nil (λ (t : Entry). t.event ≡ events.Take id))) in
        absurd (refused_not options.status (subst (λ (t : Answer). IsRefused t) s.is_told is))
    session_given endings.Closed held holds h = absurd h
    session_given endings.ReadFault held holds h = absurd h
