-- A control session goes on by a byte, by a command, by a piece.
use Rattle.std.proofs.Common.{◌≡◌, ◌++◌, ◌∷◌, [], ℕ, List, Option, Some, None, Ok, Err, sym, ap, ◌∙◌, subst, append_assoc, append-nil, ◌<◌, ◌+◌, length, get_or, take, IsTrue}
use Rattle.std.proofs.lemmas.List.{take_more}
use Rattle.std.specs.List.{flat_map}
use Rattle.pb_ports.specs.declared.Failed.{Failed}
use Rattle.pb_ports.specs.Ports as ports
use Rattle.pb_turn.specs.Seeing.{Known}
use Rattle.pb_grammar.specs.Streams.{IsWhole}
use Rattle.pb_grammar.specs.Feeding.{Kept, Fed}
use Rattle.pb_grammar.proofs.StreamLemmas.{none_more, one_more}
use Rattle.pb_core.specs.declared.Entry.{Entry}
use Rattle.pb_core.specs.Answer.{CoreState}
use Rattle.pb_session.specs.Controls.{IsSent, AreSent, AddsFront, told, told_of, opens}
use Rattle.pb_session.specs.Serving.{Answers, Serving, Broken}
use Rattle.pb_session.proofs.CallLemmas.{adds_more}

-- one command more became one entry more
pub sent_more : (id : ℕ) (commands : List (List ℕ)) (done : List Entry) (command : List ℕ) (e : Entry) → AreSent id commands done → IsSent id command e.event → AreSent id (commands ++ command ∷ []) (done ++ e ∷ [])
sent_more id [] [] command e h is = (is, tt)
sent_more id (c ∷ cs) (d ∷ ds) command e h is = (h.0, sent_more id cs ds command e h.1 is)
sent_more id [] (d ∷ ds) command e h is = elim h [ ]
sent_more id (c ∷ cs) [] command e h is = elim h [ ]

-- what is written for one entry more
pub told_more : (done : List Entry) (e : Entry) → told_of (done ++ e ∷ []) ≡ told_of done ++ told e.result
told_more [] e = append-nil (told e.result)
told_more (d ∷ done) e = ap (λ (l : List ℕ). told d.result ++ l) (told_more done e) ∙ sym (append_assoc (told d.result) (told_of done) (told e.result))

-- bytes that are added, and more
pub wrote_more : (held mid holds : Option (List ℕ)) (xs ys : List ℕ) → ports.Adds held xs mid → ports.Adds mid ys holds → ports.Adds held (xs ++ ys) holds
wrote_more None mid holds xs ys a b = let P : Option (List ℕ) → Type 0 = λ m. ports.Adds m ys holds in subst P a b
wrote_more (Some bytes) mid holds xs ys a b =
    let P : Option (List ℕ) → Type 0 = λ m. ports.Adds m ys holds in
    let now : ports.Adds (Some (bytes ++ xs)) ys holds = subst P a b in
    now ∙ ap (λ (l : List ℕ). Some l) (append_assoc bytes xs ys)

-- bytes that are added, and a front of more
pub front_more : (held mid holds : Option (List ℕ)) (xs ys : List ℕ) → ports.Adds held xs mid → AddsFront mid ys holds → AddsFront held (xs ++ ys) holds
front_more held mid holds xs ys a (front, rest, is, b) =
    (xs ++ front, rest, ap (λ (l : List ℕ). xs ++ l) is ∙ sym (append_assoc xs front rest), wrote_more held mid holds xs front a b)

module _ {V : Type 0} (opening : V → CoreState) (id : ℕ) where
  -- a byte that completes no command
  pub serving_byte : (start pass : Known Entry V) (looked : List ℕ) (kept new : Kept) (held holds : Option (List ℕ)) (byte : ℕ) (whole : Rattle.std.specs.Prelude.Bool)
      → ((seen : List ℕ) → Fed kept seen → (IsTrue whole → IsWhole (seen ++ byte ∷ [])) × (IsWhole (seen ++ byte ∷ []) → IsTrue whole))
      → ((seen : List ℕ) → Fed kept seen → ¬ (IsTrue whole) → Fed new (seen ++ byte ∷ []))
      → ¬ (IsTrue whole)
      → Serving opening id start pass looked kept held holds → Serving opening id start pass (looked ++ byte ∷ []) new held holds
  serving_byte start pass looked kept new held holds byte whole completes begun unfinished s =
      record {
        commands = s.commands;
        begun = s.begun ++ byte ∷ [];
        done = s.done;
        are = none_more looked s.commands s.begun byte s.are (λ w. unfinished ((completes s.begun s.fed).1 w));
        fed = begun s.begun s.fed unfinished;
        sent = s.sent;
        adds = s.adds;
        wrote = s.wrote;
      }

  -- a byte that completes one, which was answered
  pub serving_command : (start pass next : Known Entry V) (looked : List ℕ) (kept new : Kept) (held holds now : Option (List ℕ)) (byte : ℕ)
      → ((seen : List ℕ) → Fed kept seen → IsWhole (seen ++ byte ∷ []))
      → Fed new []
      → ((seen : List ℕ) → Fed kept seen → Answers opening id (seen ++ byte ∷ []) pass next (Ok tt) holds now)
      → Serving opening id start pass looked kept held holds → Serving opening id start next (looked ++ byte ∷ []) new held now
  serving_command start pass next looked kept new held holds now byte whole nothing answers s =
      let a = answers s.begun s.fed in
      record {
        commands = s.commands ++ (s.begun ++ byte ∷ []) ∷ [];
        begun = [];
        done = s.done ++ a.done ∷ [];
        are = one_more looked s.commands s.begun byte s.are (whole s.begun s.fed);
        fed = nothing;
        sent = sent_more id s.commands s.done (s.begun ++ byte ∷ []) a.done s.sent a.sent;
        adds = adds_more opening start pass next (opens id ∷ s.done) (a.done ∷ []) s.adds a.adds;
        wrote = subst (λ (l : List ℕ). ports.Adds held l now) (sym (told_more s.done a.done)) (wrote_more held holds now (told_of s.done) (told a.done.result) s.wrote a.wrote);
      }

  -- a byte that completes one, whose answer wasn't written whole
  pub broken_command : (start pass next : Known Entry V) (looked : List ℕ) (kept : Kept) (held holds now : Option (List ℕ)) (byte : ℕ) (failed : Failed)
      → ((seen : List ℕ) → Fed kept seen → IsWhole (seen ++ byte ∷ []))
      → ((seen : List ℕ) → Fed kept seen → Answers opening id (seen ++ byte ∷ []) pass next (Err failed) holds now)
      → Serving opening id start pass looked kept held holds → Broken opening id start next (looked ++ byte ∷ []) held now
  broken_command start pass next looked kept held holds now byte failed whole answers s =
      let a = answers s.begun s.fed in
      record {
        commands = s.commands ++ (s.begun ++ byte ∷ []) ∷ [];
        begun = [];
        done = s.done ++ a.done ∷ [];
        are = one_more looked s.commands s.begun byte s.are (whole s.begun s.fed);
        sent = sent_more id s.commands s.done (s.begun ++ byte ∷ []) a.done s.sent a.sent;
        adds = adds_more opening start pass next (opens id ∷ s.done) (a.done ∷ []) s.adds a.adds;
        wrote = subst (λ (l : List ℕ). AddsFront held l now) (sym (told_more s.done a.done)) (front_more held holds now (told_of s.done) (told a.done.result) s.wrote a.wrote);
      }

-- a front of a piece that is one byte longer
pub one_byte : (looked piece : List ℕ) (i : ℕ) → i < length piece → looked ++ take (i + 1) piece ≡ (looked ++ take i piece) ++ get_or piece i 0 ∷ []
one_byte looked piece i lt = ap (λ (l : List ℕ). looked ++ l) (take_more piece i 0 lt) ∙ sym (append_assoc looked (take i piece) (get_or piece i 0 ∷ []))
