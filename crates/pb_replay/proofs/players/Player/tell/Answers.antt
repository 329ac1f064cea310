use Rattle.std.proofs.Common.{◌≡◌, refl, sym, subst}
use Rattle.pb_core.specs.Kept.{Agrees}
use Rattle.pb_core.specs.Answer.{after, bytes_of}
use Rattle.pb_replay.proofs.PendingLemmas.{front_none}
use Rattle.pb_replay.proofs.ToldLemmas.{is_answered, written_is, told_plays}
use Rattle.pb_replay.proofs.TallyLemmas.{answered_calls, calls_same}
use Rattle.pb_replay.proofs.players.Player.tell.Goals as goal

pub answer-requires-clause-told : goal.answer-requires-clause-told
answer-requires-clause-told g c = is_answered c.args.self.now.event _ c.requires.told

pub returns-in-Ok-clause-plays : goal.returns-in-Ok-clause-plays
returns-in-Ok-clause-plays g c = λ state h.
    told_plays _ _ c.hand_out.result c.args.self.now.pending c.args.self.now.pending c.hand_out.new.self.pending (g.K.Sink.held c.args.output.now) (g.K.Sink.held c.hand_out.new.output)
    (written_is state c.args.self.now.core c.args.self.now.event _ c.now-tick.result c.in-Ok.answer (bytes_of c.in-Ok.answer) h c.now-tick.ensures.now c.requires.told (c.in-Ok.ensures.ok state h) refl) refl
    c.hand_out.ensures.plays

pub returns-in-Ok-clause-core : goal.returns-in-Ok-clause-core
returns-in-Ok-clause-core g c = λ there state h.
    subst (λ kept. Agrees kept (after state c.args.self.now.event)) (sym c.hand_out.ensures.core) (c.in-Ok.ensures.core state h)

pub returns-in-Ok-clause-calls : goal.returns-in-Ok-clause-calls
returns-in-Ok-clause-calls g c = λ state h.
    calls_same 21 _ c.answer.new.core c.hand_out.new.self.core c.args.self.now.eventful c.hand_out.new.self.eventful c.answer.new.steps c.hand_out.ensures.core c.hand_out.ensures.eventful
    (answered_calls c.args.self.now.event c.args.self.now.core c.answer.new.core c.args.self.now.eventful c.args.steps.now c.answer.new.steps (is_answered c.args.self.now.event _ c.requires.told)
    (c.answer.ensures.costs state h))

pub returns-in-Err-clause-calls : goal.returns-in-Err-clause-calls
returns-in-Err-clause-calls g c = λ state h.
    answered_calls c.args.self.now.event c.args.self.now.core c.answer.new.core c.args.self.now.eventful c.args.steps.now c.answer.new.steps (is_answered c.args.self.now.event _ c.requires.told)
    (c.answer.ensures.costs state h)

pub returns-in-Err-clause-plays : goal.returns-in-Err-clause-plays
returns-in-Err-clause-plays g c = λ state h. front_none _ _
