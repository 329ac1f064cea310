use Rattle.std.proofs.Common.{rules, ◌++◌, ◌∷◌, [], ℕ, List, ◌+◌, get_or, take, drop, sym, subst, ◌∙◌}
use Rattle.std.proofs.lemmas.List.{take-append-drop}
use Rattle.std.proofs.lemmas.Bool.{false≢true}
use Rattle.pb_session.specs.Serving.{Serving, Broken}
use Rattle.pb_session.proofs.ServingLemmas.{serving_byte, serving_command, broken_command, one_byte}
use Rattle.pb_session.proofs.controls.feed.Goals as goal
use Rattle.pb_session.proofs.controls.feed.Goals.{then-feed+in-Ok, else-feed}

pub returns-in-Err-clause-fed : goal.returns-in-Err-clause-fed
returns-in-Err-clause-fed g c start looked held s =
    let piece = c.args.piece.now in
    let i = c.loop-byte.byte-index in
    let byte = get_or piece i 0 in
    let op = g.V.Server.opening in
    let id = c.args.id in
    let was = c.loop-byte.invariant.serving start looked held s in
    let one = one_byte looked piece i c.loop-byte-test.true in
    let broken = broken_command op id start c.loop-byte.pass c.answer-next.result.0 (looked ++ take i piece) c.loop-byte.assembler held (g.K.Sink.held c.loop-byte.sink) (g.K.Sink.held c.answer-next.new.sink) byte c.in-Err.failed
    (λ seen fed. (c.feed.ensures.completes seen fed).0 c.if-feed.true)
    (λ seen fed.
    let a = c.answer-next.ensures.answers (seen ++ byte ∷ []) (c.feed.ensures.whole seen fed c.if-feed.true) in
    rw c.in-Err.is at a)
    was in (
      take (i + 1) piece,
      drop (i + 1) piece,
      sym (take-append-drop (i + 1) piece),
      subst (λ (l : List ℕ). Broken op id start c.answer-next.result.0 l held (g.K.Sink.held c.answer-next.new.sink)) (sym one) broken,
    )

pub loop-byte-preserved : goal.loop-byte-preserved
loop-byte-preserved g c =
    let piece = c.args.piece.now in
    let i = c.loop-byte.byte-index in
    let byte = get_or piece i 0 in
    let op = g.V.Server.opening in
    let id = c.args.id in
    let was = c.loop-byte.invariant.serving in
    elim c.if-feed.branch [
      | then-feed+in-Ok w ↦
          record {
            turn = search rules;
            serving = λ start looked held s.
                let one = one_byte looked piece i c.loop-byte-test.true in
                let next = w.answer-next.result.0 in
                let served = serving_command op id start c.loop-byte.pass next (looked ++ take i piece) c.loop-byte.assembler c.feed.new.self held (g.K.Sink.held c.loop-byte.sink) (g.K.Sink.held w.answer-next.new.sink) byte
                (λ seen fed. (c.feed.ensures.completes seen fed).0 w.if-feed.true)
                (c.feed.ensures.next w.if-feed.true)
                (λ seen fed.
                let a = w.answer-next.ensures.answers (seen ++ byte ∷ []) (c.feed.ensures.whole seen fed w.if-feed.true) in
                rw w.in-Ok.is at a)
                (was start looked held s) in
                rw (w.pass-is, w.sink-is) (subst (λ (l : List ℕ). Serving op id start next l c.feed.new.self held (g.K.Sink.held w.answer-next.new.sink)) (sym one) served);
            count = search rules;
          }
      | else-feed w ↦
          record {
            turn = search rules;
            serving = λ start looked held s.
                let one = one_byte looked piece i c.loop-byte-test.true in
                let served = serving_byte op id start c.loop-byte.pass (looked ++ take i piece) c.loop-byte.assembler c.feed.new.self held (g.K.Sink.held c.loop-byte.sink) byte c.feed.result
                c.feed.ensures.completes c.feed.ensures.begun (λ t. false≢true (sym w.if-feed.false ∙ t))
                (was start looked held s) in
                rw (w.pass-is, w.sink-is) (subst (λ (l : List ℕ). Serving op id start c.loop-byte.pass l c.feed.new.self held (g.K.Sink.held c.loop-byte.sink)) (sym one) served);
            count = search rules;
          }
    ]
