-- How a control session comes to its end.
use Rattle.std.proofs.Common.{◌≡◌, ◌++◌, ◌∷◌, [], ℕ, List, Option, Some, None, Err, sym, ap, ◌∙◌, subst, refl, append_assoc, append-nil}
use Rattle.pb_ports.specs.declared.Failed.{Failed}
use Rattle.pb_ports.specs.Ports.{Takes, IsSpent}
use Rattle.pb_ports.specs.Ports as ports
use Rattle.pb_turn.specs.Seeing.{Known}
use Rattle.pb_grammar.specs.Feeding.{Kept, Fed}
use Rattle.pb_grammar.proofs.StreamLemmas.{begun_none}
use Rattle.pb_core.specs.declared.Entry.{Entry}
use Rattle.pb_core.specs.Answer.{CoreState}
use Rattle.pb_session.specs.declared.endings.Ended.{Ended}
use Rattle.pb_session.specs.declared.endings.Ended.TheVariants as endings
use Rattle.pb_session.specs.Calls.{Adds, Keeps, knowing}
use Rattle.pb_session.specs.Controls.{Did, HasEnded, session_of, opens, closes}
use Rattle.pb_session.specs.Serving.{Serving, HasFed, Comes}
use Rattle.pb_session.proofs.CallLemmas.{adds_more}

-- nothing is taken
pub takes_nothing : (left : Option (List ℕ)) → Takes left [] left
takes_nothing None = refl
takes_nothing (Some bytes) = (bytes, refl, refl)

-- one part, and then another
pub takes_twice : (given mid left : Option (List ℕ)) (a b : List ℕ) → Takes given a mid → Takes mid b left → Takes given (a ++ b) left
takes_twice None None left a b h k = k
takes_twice None (Some more) left a b h k = cc
takes_twice (Some bytes) None left a b h k = let none : None ≡ Some h.0 = h.2 in cc
takes_twice (Some bytes) (Some more) left a b h k =
    let same : more ≡ h.0 = let e = h.2 in cc in
    (k.0, h.1 ∙ (ap (λ (x : List ℕ). a ++ x) (sym same ∙ k.1) ∙ sym (append_assoc a b k.0)), k.2)

-- nothing is added
pub adds_nothing : (held : Option (List ℕ)) → ports.Adds held [] held
adds_nothing None = refl
adds_nothing (Some bytes) = ap (λ (l : List ℕ). Some l) (sym (append-nil bytes))

module _ {V : Type 0} (opening : V → CoreState) (id : ℕ) where
  -- a session that has just opened
  pub comes_first : (start pass : Known Entry V) (left : Option (List ℕ)) (kept : Kept) (held : Option (List ℕ)) → Fed kept []
      → Adds opening start pass (opens id ∷ []) → Comes opening id start pass left left kept held held
  comes_first start pass left kept held fed a =
      record {
        looked = [];
        taken = takes_nothing left;
        serving = record { commands = []; begun = []; done = []; are = (refl, begun_none); fed = fed; sent = tt; adds = a; wrote = adds_nothing held };
      }

  -- a piece that was read and looked at
  pub comes_more : (start pass next : Known Entry V) (left mid rest : Option (List ℕ)) (kept new : Kept) (held holds now : Option (List ℕ)) (piece : List ℕ)
      → ((looked : List ℕ) → Serving opening id start pass looked kept held holds → Serving opening id start next (looked ++ piece) new held now)
      → Takes mid piece rest
      → Comes opening id start pass left mid kept held holds → Comes opening id start next left rest new held now
  comes_more start pass next left mid rest kept new held holds now piece feeds takes s =
      record { looked = s.looked ++ piece; taken = takes_twice left mid rest s.looked piece s.taken takes; serving = feeds s.looked s.serving }

  -- a read failed
  pub ends_read : (start pass : Known Entry V) (left mid rest : Option (List ℕ)) (kept : Kept) (held holds : Option (List ℕ)) → rest ≡ mid
      → Comes opening id start pass left mid kept held holds → HasEnded (λ done. opens id ∷ done) opening id start endings.ReadFault pass left rest held holds
  ends_read start pass left mid rest kept held holds same s =
      let v = s.serving in
      let read : Takes left (s.looked ++ []) rest = subst (λ (l : Option (List ℕ)). Takes left (s.looked ++ []) l) (sym same) (subst (λ (l : List ℕ). Takes left l mid) (sym (append-nil s.looked)) s.taken) in
      (record { looked = s.looked; behind = []; commands = v.commands; begun = v.begun; done = v.done; read = read; are = v.are; sent = v.sent; adds = v.adds }, refl, v.wrote)

  -- the source ended
  pub ends_closed : (start pass : Known Entry V) (left mid rest : Option (List ℕ)) (kept : Kept) (held holds : Option (List ℕ)) → IsSpent mid → rest ≡ mid
      → Comes opening id start pass left mid kept held holds → HasEnded (λ done. opens id ∷ done) opening id start endings.Closed pass left rest held holds
  ends_closed start pass left mid rest kept held holds spent same s =
      let did = ends_read start pass left mid rest kept held holds same s in
      (did.0, did.1, subst IsSpent (sym same) spent, did.2)

  -- a write failed within a piece
  pub ends_write : (start pass next : Known Entry V) (left mid rest : Option (List ℕ)) (kept new : Kept) (held holds now : Option (List ℕ)) (piece : List ℕ) (failed : Failed)
      → ((looked : List ℕ) → Serving opening id start pass looked kept held holds → HasFed opening id start next looked piece new (Err failed) held now)
      → Takes mid piece rest
      → Comes opening id start pass left mid kept held holds → HasEnded (λ done. opens id ∷ done) opening id start endings.WriteFault next left rest held now
  ends_write start pass next left mid rest kept new held holds now piece failed feeds takes s =
      let (front, behind, is, v) = feeds s.looked s.serving in
      let all : s.looked ++ piece ≡ (s.looked ++ front) ++ behind = ap (λ (l : List ℕ). s.looked ++ l) is ∙ sym (append_assoc s.looked front behind) in
      let read = subst (λ (l : List ℕ). Takes left l rest) all (takes_twice left mid rest s.looked piece s.taken takes) in
      (record { looked = s.looked ++ front; behind = behind; commands = v.commands; begun = v.begun; done = v.done; read = read; are = v.are; sent = v.sent; adds = v.adds }, v.wrote)

  abbrev did_close : (start pass next : Known Entry V) (left rest : Option (List ℕ)) → Adds opening pass next (closes id ∷ [])
      → Did (λ done. opens id ∷ done) opening id start pass left rest → Did (session_of id) opening id start next left rest
  did_close start pass next left rest a did =
      record {
        looked = did.looked;
        behind = did.behind;
        commands = did.commands;
        begun = did.begun;
        done = did.done;
        read = did.read;
        are = did.are;
        sent = did.sent;
        adds = adds_more opening start pass next (opens id ∷ did.done) (closes id ∷ []) did.adds a;
      }

  -- the session closes
  pub ends_with_close : (ended : Ended) (start pass next : Known Entry V) (left rest held holds : Option (List ℕ)) → ¬ (ended ≡ endings.NoMemory) → Adds opening pass next (closes id ∷ [])
      → HasEnded (λ done. opens id ∷ done) opening id start ended pass left rest held holds → HasEnded (session_of id) opening id start ended next left rest held holds
  ends_with_close endings.Closed start pass next left rest held holds known a (did, none, spent, wrote) = (did_close start pass next left rest a did, none, spent, wrote)
  ends_with_close endings.ReadFault start pass next left rest held holds known a (did, none, wrote) = (did_close start pass next left rest a did, none, wrote)
  ends_with_close endings.WriteFault start pass next left rest held holds known a (did, wrote) = (did_close start pass next left rest a did, wrote)
  ends_with_close endings.NoMemory start pass next left rest held holds known a h = absurd (known refl)

-- whatever it did, its pass is one of the same turn
pub ended_keeps : {V : Type 0} (opening : V → CoreState) (id : ℕ) (calls : List Entry → List Entry) (ended : Ended) (pass new : Known Entry V) (left rest held holds : Option (List ℕ))
    → HasEnded calls opening id pass ended new left rest held holds → Keeps pass new
ended_keeps opening id calls endings.Closed pass new left rest held holds h = h.0.adds.same
ended_keeps opening id calls endings.ReadFault pass new left rest held holds h = h.0.adds.same
ended_keeps opening id calls endings.WriteFault pass new left rest held holds h = h.0.adds.same
ended_keeps opening id calls endings.NoMemory pass new left rest held holds h = h.0 ∙ ap (λ (p : Known Entry _). knowing pass p.seen p.made p.lost) (sym h.0)
