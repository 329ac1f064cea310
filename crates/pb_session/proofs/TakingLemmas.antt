-- A data session goes on by a take, and ends.
use Rattle.std.proofs.Common.{◌≡◌, ◌++◌, ◌∷◌, [], ℕ, List, Option, Result, Ok, sym, ap, ◌∙◌, subst, refl, append_assoc, append-nil, inl, inr}
use Rattle.pb_words.specs.declared.OutOfMemory.{OutOfMemory}
use Rattle.pb_ports.specs.Ports.{Takes, IsSpent}
use Rattle.pb_ports.specs.Ports as ports
use Rattle.pb_turn.specs.Seeing.{Known}
use Rattle.pb_core.specs.declared.Event.TheVariants as events
use Rattle.pb_core.specs.declared.Answer.{Answer}
use Rattle.pb_core.specs.declared.Answer.TheVariants as answers
use Rattle.pb_core.specs.declared.Entry.{Entry}
use Rattle.pb_core.specs.Answer.{CoreState, bytes_of}
use Rattle.pb_core.specs.History.{IsOpening}
use Rattle.pb_session.specs.declared.endings.DataEnded.{DataEnded}
use Rattle.pb_session.specs.declared.endings.DataEnded.TheVariants as endings
use Rattle.pb_session.specs.Calls.{Adds, Keeps, entry}
use Rattle.pb_session.specs.Controls.{AddsFront}
use Rattle.pb_session.specs.Options.{ReadsLine}
use Rattle.pb_session.specs.Reading.{HasNoLine}
use Rattle.pb_session.specs.Data.{IsOpened, IsRefused, IsTold, GoesOn, AreGoing, handed, handed_of, opens, leaves, stream_of, Ran, HasRun, HasStreamed}
use Rattle.pb_session.specs.Streaming.{Going, Ended, Failed, HasTaken}
use Rattle.pb_session.proofs.CallLemmas.{adds_more}
use Rattle.pb_session.proofs.ServingLemmas.{wrote_more, front_more}
use Rattle.pb_session.proofs.EndingLemmas.{adds_nothing}

-- one take more
are_more : (id : ℕ) (takes : List Entry) (e : Entry) → AreGoing id takes → e.event ≡ events.Take id → GoesOn e.result → AreGoing id (takes ++ e ∷ [])
are_more id [] e h is more = (is, more, tt)
are_more id (t ∷ takes) e h is more = (h.0, h.1, are_more id takes e h.2 is more)

handed_more : (takes : List Entry) (e : Entry) → handed_of (takes ++ e ∷ []) ≡ handed_of takes ++ handed e.result
handed_more [] e = append-nil (handed e.result)
handed_more (t ∷ takes) e = ap (λ (l : List ℕ). handed t.result ++ l) (handed_more takes e) ∙ sym (append_assoc (handed t.result) (handed_of takes) (handed e.result))

-- nothing is written for it
same_bytes : (takes : List Entry) (e : Entry) (held holds : Option (List ℕ)) → handed e.result ≡ [] → ports.Adds held (handed_of takes) holds → ports.Adds held (handed_of (takes ++ e ∷ [])) holds
same_bytes takes e held holds none h =
    subst (λ (l : List ℕ). ports.Adds held l holds) (sym (handed_more takes e ∙ (ap (λ (l : List ℕ). handed_of takes ++ l) none ∙ append-nil (handed_of takes)))) h

module _ {V : Type 0} (opening : V → CoreState) (id : ℕ) where
  pub going_first : (start pass : Known Entry V) (before : List Entry) (held : Option (List ℕ)) → Adds opening start pass before → Going opening id start pass before held held
  going_first start pass before held a =
      record { takes = []; are = tt; adds = subst (λ (es : List Entry). Adds opening start pass es) (sym (append-nil before)) a; wrote = adds_nothing held }

  added : (start pass next : Known Entry V) (before takes : List Entry) (e : Entry) → Adds opening start pass (before ++ takes) → Adds opening pass next (e ∷ []) → Adds opening start next (before ++ (takes ++ e ∷ []))
  added start pass next before takes e a b =
      subst (λ (es : List Entry). Adds opening start next es) (append_assoc before takes (e ∷ [])) (adds_more opening start pass next (before ++ takes) (e ∷ []) a b)

  -- it was handed a piece, and wrote it
  pub going_piece : (start pass next : Known Entry V) (before : List Entry) (held holds now : Option (List ℕ)) (text : List ℕ) → Adds opening pass next (entry (events.Take id) (Ok (answers.Piece text)) ∷ [])
      → ports.Adds holds text now → Going opening id start pass before held holds → Going opening id start next before held now
  going_piece start pass next before held holds now text a wrote s =
      let e : Entry = entry (events.Take id) (Ok (answers.Piece text)) in
      record {
        takes = s.takes ++ e ∷ [];
        are = are_more id s.takes e s.are refl tt;
        adds = added start pass next before s.takes e s.adds a;
        wrote = subst (λ (l : List ℕ). ports.Adds held l now) (sym (handed_more s.takes e)) (wrote_more held holds now (handed_of s.takes) text s.wrote wrote);
      }

  -- there was none yet
  pub going_none : (start pass next : Known Entry V) (before : List Entry) (held holds : Option (List ℕ)) → Adds opening pass next (entry (events.Take id) (Ok answers.NotYet) ∷ [])
      → Going opening id start pass before held holds → Going opening id start next before held holds
  going_none start pass next before held holds a s =
      let e : Entry = entry (events.Take id) (Ok answers.NotYet) in
      record {
        takes = s.takes ++ e ∷ [];
        are = are_more id s.takes e s.are refl tt;
        adds = added start pass next before s.takes e s.adds a;
        wrote = same_bytes s.takes e held holds refl s.wrote;
      }

  -- the last take
  pub ends_by : (start pass next : Known Entry V) (before : List Entry) (held holds : Option (List ℕ)) (result : Result Answer OutOfMemory) → handed result ≡ [] → Adds opening pass next (entry (events.Take id) result ∷ [])
      → Going opening id start pass before held holds → Ended opening id start next before result held holds
  ends_by start pass next before held holds result none a s =
      let e : Entry = entry (events.Take id) result in
      record {
        takes = s.takes ++ e ∷ [];
        ends = record { going = s.takes; are = s.are; last = refl };
        adds = added start pass next before s.takes e s.adds a;
        wrote = same_bytes s.takes e held holds none s.wrote;
      }

  -- a piece that wasn't written whole
  pub fails : (start pass next : Known Entry V) (before : List Entry) (held holds now : Option (List ℕ)) (text : List ℕ) → Adds opening pass next (entry (events.Take id) (Ok (answers.Piece text)) ∷ [])
      → AddsFront holds text now → Going opening id start pass before held holds → Failed opening id start next before held now
  fails start pass next before held holds now text a wrote s =
      let e : Entry = entry (events.Take id) (Ok (answers.Piece text)) in
      record {
        takes = s.takes ++ e ∷ [];
        are = are_more id s.takes e s.are refl tt;
        adds = added start pass next before s.takes e s.adds a;
        wrote = subst (λ (l : List ℕ). AddsFront held l now) (sym (handed_more s.takes e)) (front_more held holds now (handed_of s.takes) text s.wrote wrote);
      }

  -- One take, by what it was answered.

  pub once_piece : (start pass next : Known Entry V) (before : List Entry) (held holds now : Option (List ℕ)) (result : Result Answer OutOfMemory) (text bytes : List ℕ) → result ≡ Ok (answers.Piece text) → bytes ≡ text
      → Adds opening pass next (entry (events.Take id) result ∷ []) → ports.Adds holds bytes now → Going opening id start pass before held holds → Going opening id start next before held now
  once_piece start pass next before held holds now result text bytes is same a wrote s =
      going_piece start pass next before held holds now text (subst (λ (r : Result Answer OutOfMemory). Adds opening pass next (entry (events.Take id) r ∷ [])) is a)
      (subst (λ (l : List ℕ). ports.Adds holds l now) same wrote) s

  pub once_fails : (start pass next : Known Entry V) (before : List Entry) (held holds now : Option (List ℕ)) (result : Result Answer OutOfMemory) (text bytes : List ℕ) → result ≡ Ok (answers.Piece text) → bytes ≡ text
      → Adds opening pass next (entry (events.Take id) result ∷ []) → AddsFront holds bytes now → Going opening id start pass before held holds → Failed opening id start next before held now
  once_fails start pass next before held holds now result text bytes is same a wrote s =
      fails start pass next before held holds now text (subst (λ (r : Result Answer OutOfMemory). Adds opening pass next (entry (events.Take id) r ∷ [])) is a)
      (subst (λ (l : List ℕ). AddsFront holds l now) same wrote) s

  pub once_none : (start pass next : Known Entry V) (before : List Entry) (held holds : Option (List ℕ)) (result : Result Answer OutOfMemory) → result ≡ Ok answers.NotYet
      → Adds opening pass next (entry (events.Take id) result ∷ []) → Going opening id start pass before held holds → Going opening id start next before held holds
  once_none start pass next before held holds result is a s =
      going_none start pass next before held holds (subst (λ (r : Result Answer OutOfMemory). Adds opening pass next (entry (events.Take id) r ∷ [])) is a) s

  pub once_ends : (start pass next : Known Entry V) (before : List Entry) (held holds : Option (List ℕ)) (result by : Result Answer OutOfMemory) → result ≡ by → handed by ≡ []
      → Adds opening pass next (entry (events.Take id) result ∷ []) → Going opening id start pass before held holds → Ended opening id start next before by held holds
  once_ends start pass next before held holds result by is none a s =
      ends_by start pass next before held holds by none (subst (λ (r : Result Answer OutOfMemory). Adds opening pass next (entry (events.Take id) r ∷ [])) is a) s

  -- The whole session.

  is_told : (told : Answer) → IsOpening (Ok told) → IsTold told []
  is_told (answers.Opened status) h = inl tt
  is_told (answers.Error refusal) h = inr (tt, refl)
  is_told answers.Nothing h = absurd h
  is_told answers.Ok h = absurd h
  is_told (answers.Reply text) h = absurd h
  is_told (answers.Piece text) h = absurd h
  is_told answers.NotYet h = absurd h
  is_told answers.Finished h = absurd h
  is_told answers.Closed h = absurd h
  is_told (answers.Reached tick why) h = absurd h

  -- what it was told at first wasn't written whole
  pub runs_to_fault : (line : List ℕ) (start new : Known Entry V) (told : Answer) (held holds : Option (List ℕ)) → IsOpening (Ok told) → Adds opening start new (opens id line told ∷ [])
      → AddsFront held (bytes_of told) holds → HasRun (λ t takes. opens id line t ∷ takes) opening id start endings.WriteFault new held holds
  runs_to_fault line start new told held holds fits a wrote =
      (record { told = told; takes = []; adds = a }, is_told told fits, tt, subst (λ (l : List ℕ). AddsFront held l holds) (sym (append-nil (bytes_of told))) wrote)

  -- it was refused
  pub runs_to_refusal : (line : List ℕ) (start new : Known Entry V) (told : Answer) (held holds : Option (List ℕ)) → IsRefused told → Adds opening start new (opens id line told ∷ [])
      → ports.Adds held (bytes_of told) holds → HasRun (λ t takes. opens id line t ∷ takes) opening id start endings.Refused new held holds
  runs_to_refusal line start new told held holds refused a wrote = (record { told = told; takes = []; adds = a }, refused, refl, wrote)

  -- it took
  pub runs_to_end : (line : List ℕ) (start new : Known Entry V) (told : Answer) (ended : DataEnded) (held holds now : Option (List ℕ)) → IsOpened told
      → ports.Adds held (bytes_of told) holds → HasTaken opening id start ended new (opens id line told ∷ []) holds now → HasRun (λ t takes. opens id line t ∷ takes) opening id start ended new held now
  runs_to_end line start new told endings.Finished held holds now is wrote h =
      (record { told = told; takes = h.takes; adds = h.adds }, is, h.ends, wrote_more held holds now (bytes_of told) (handed_of h.takes) wrote h.wrote)
  runs_to_end line start new told endings.Displaced held holds now is wrote h =
      (record { told = told; takes = h.takes; adds = h.adds }, is, h.ends, wrote_more held holds now (bytes_of told) (handed_of h.takes) wrote h.wrote)
  runs_to_end line start new told endings.NoMemory held holds now is wrote (lack, h) =
      (record { told = told; takes = h.takes; adds = h.adds }, is, (lack, h.ends), wrote_more held holds now (bytes_of told) (handed_of h.takes) wrote h.wrote)
  runs_to_end line start new told endings.WriteFault held holds now is wrote h =
      (record { told = told; takes = h.takes; adds = h.adds }, inl is, h.are, front_more held holds now (bytes_of told) (handed_of h.takes) wrote h.wrote)
  runs_to_end line start new told endings.Refused held holds now is wrote h = absurd h
  runs_to_end line start new told endings.Closed held holds now is wrote h = absurd h
  runs_to_end line start new told endings.ReadFault held holds now is wrote h = absurd h

  -- it closed
  abbrev ran_leaves : (line : List ℕ) (start pass next : Known Entry V) → Adds opening pass next (leaves id ∷ []) → Ran (λ t takes. opens id line t ∷ takes) opening start pass → Ran (stream_of id line) opening start next
  ran_leaves line start pass next a r = record { told = r.told; takes = r.takes; adds = adds_more opening start pass next (opens id line r.told ∷ r.takes) (leaves id ∷ []) r.adds a }

  pub runs_and_leaves : (line : List ℕ) (ended : DataEnded) (start pass next : Known Entry V) (held holds : Option (List ℕ)) → Adds opening pass next (leaves id ∷ [])
      → HasRun (λ t takes. opens id line t ∷ takes) opening id start ended pass held holds → HasRun (stream_of id line) opening id start ended next held holds
  runs_and_leaves line endings.Finished start pass next held holds a (r, is, ends, wrote) = (ran_leaves line start pass next a r, is, ends, wrote)
  runs_and_leaves line endings.Displaced start pass next held holds a (r, is, ends, wrote) = (ran_leaves line start pass next a r, is, ends, wrote)
  runs_and_leaves line endings.Refused start pass next held holds a (r, is, none, wrote) = (ran_leaves line start pass next a r, is, none, wrote)
  runs_and_leaves line endings.WriteFault start pass next held holds a (r, is, are, wrote) = (ran_leaves line start pass next a r, is, are, wrote)
  runs_and_leaves line endings.NoMemory start pass next held holds a (r, is, ends, wrote) = (ran_leaves line start pass next a r, is, ends, wrote)
  runs_and_leaves line endings.Closed start pass next held holds a h = absurd h
  runs_and_leaves line endings.ReadFault start pass next held holds a h = absurd h

  -- with the line that it read
  pub streams : (line : List ℕ) (ended : DataEnded) (pass new : Known Entry V) (left rest held holds : Option (List ℕ)) → ReadsLine left rest line
      → HasRun (stream_of id line) opening id pass ended new held holds → HasStreamed opening id pass ended new left rest held holds
  streams line endings.Finished pass new left rest held holds reads h = (line, reads, h)
  streams line endings.Displaced pass new left rest held holds reads h = (line, reads, h)
  streams line endings.Refused pass new left rest held holds reads h = (line, reads, h)
  streams line endings.WriteFault pass new left rest held holds reads h = (line, reads, h)
  streams line endings.NoMemory pass new left rest held holds reads h = inr (line, reads, h)
  streams line endings.Closed pass new left rest held holds reads h = absurd h
  streams line endings.ReadFault pass new left rest held holds reads h = absurd h

  -- without one
  pub streams_nothing : (ended : DataEnded) (pass : Known Entry V) (left rest held : Option (List ℕ)) → HasNoLine ended left rest → HasStreamed opening id pass ended pass left rest held held
  streams_nothing endings.Closed pass left rest held h = (record { same = refl; writes_none = refl }, h.0, h.1)
  streams_nothing endings.ReadFault pass left rest held h = (record { same = refl; writes_none = refl }, h)
  streams_nothing endings.NoMemory pass left rest held h = inl (record { same = refl; writes_none = refl }, h)
  streams_nothing endings.Finished pass left rest held h = absurd h
  streams_nothing endings.Displaced pass left rest held h = absurd h
  streams_nothing endings.Refused pass left rest held h = absurd h
  streams_nothing endings.WriteFault pass left rest held h = absurd h

  pub run_keeps : (line : List ℕ) (ended : DataEnded) (pass new : Known Entry V) (held holds : Option (List ℕ)) → HasRun (stream_of id line) opening id pass ended new held holds → Keeps pass new
  run_keeps line endings.Finished pass new held holds h = h.0.adds.same
  run_keeps line endings.Displaced pass new held holds h = h.0.adds.same
  run_keeps line endings.Refused pass new held holds h = h.0.adds.same
  run_keeps line endings.WriteFault pass new held holds h = h.0.adds.same
  run_keeps line endings.NoMemory pass new held holds h = h.0.adds.same
  run_keeps line endings.Closed pass new held holds h = absurd h
  run_keeps line endings.ReadFault pass new held holds h = absurd h

  -- it has no other ending
  pub run_reads : (line : List ℕ) (ended : DataEnded) (pass new : Known Entry V) (held holds : Option (List ℕ)) → HasRun (stream_of id line) opening id pass ended new held holds → ¬ (ended ≡ endings.ReadFault)
  run_reads line endings.Finished pass new held holds h e = cc
  run_reads line endings.Displaced pass new held holds h e = cc
  run_reads line endings.Refused pass new held holds h e = cc
  run_reads line endings.WriteFault pass new held holds h e = cc
  run_reads line endings.NoMemory pass new held holds h e = cc
  run_reads line endings.Closed pass new held holds h e = absurd h
  run_reads line endings.ReadFault pass new held holds h e = absurd h

pub none_writes : (ended : DataEnded) (left rest : Option (List ℕ)) → HasNoLine ended left rest → ¬ (ended ≡ endings.WriteFault)
none_writes endings.Finished left rest h e = absurd h
none_writes endings.Displaced left rest h e = absurd h
none_writes endings.Refused left rest h e = absurd h
none_writes endings.WriteFault left rest h e = absurd h
none_writes endings.NoMemory left rest h e = cc
none_writes endings.Closed left rest h e = cc
none_writes endings.ReadFault left rest h e = cc
