-- The event of a command.
use Rattle.std.proofs.Common.{◌≡◌, ℕ, List, refl}
use Rattle.pb_grammar.specs.Grammar.{Said, Query, Assign, Table, Echo, Bad}
use Rattle.pb_grammar.specs.Feeding.{IsKnown}
use Rattle.pb_core.specs.declared.Event.TheVariants as events
use Rattle.pb_replay.specs.Events.{sent_as}

pub known_sent : (session : ℕ) (bytes : List ℕ) (said : Said) → IsKnown said → sent_as session bytes said ≡ events.Line session bytes
known_sent session bytes (Query target) h = refl
known_sent session bytes (Assign target value) h = refl
known_sent session bytes (Table target append base64 body) h = refl
known_sent session bytes (Echo text) h = refl
known_sent session bytes (Bad refusal) h = absurd h
