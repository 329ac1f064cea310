use Rattle.std.proofs.Common.{refl, ap, ◌∙◌, Ok}
use Rattle.pb_core.specs.declared.Answer.TheVariants as answers
use Rattle.pb_session.proofs.TakingLemmas.{once_piece, once_fails, once_none, once_ends}
use Rattle.pb_session.proofs.taking.take_once.Goals as goal

pub returns-in-Ok-write_all-clause-taken : goal.returns-in-Ok-write_all-clause-taken
returns-in-Ok-write_all-clause-taken g c start before held s =
    once_piece g.V.Server.opening c.args.id start c.args.pass c.take-pass.result.0 before held (g.K.Sink.held c.args.sink.now) (g.K.Sink.held c.write_all.new.self) c.take-pass.result.1 c.in-Ok-Piece.text c.bytes.result.now
    (c.in-Ok-Piece.is ∙ ap (λ a. Ok a) c.in-Ok-Piece.field-0-is) c.bytes.ensures c.take-pass.ensures.adds c.in-Ok-write_all.ensures.writes s

pub returns-in-Ok-Piece-clause-taken : goal.returns-in-Ok-Piece-clause-taken
returns-in-Ok-Piece-clause-taken g c start before held s =
    once_fails g.V.Server.opening c.args.id start c.args.pass c.take-pass.result.0 before held (g.K.Sink.held c.args.sink.now) (g.K.Sink.held c.write_all.new.self) c.take-pass.result.1 c.in-Ok-Piece.text c.bytes.result.now
    (c.in-Ok-Piece.is ∙ ap (λ a. Ok a) c.in-Ok-Piece.field-0-is) c.bytes.ensures c.take-pass.ensures.adds c.in-Err-write_all.ensures.writes s

pub returns-in-Ok-NotYet-clause-taken : goal.returns-in-Ok-NotYet-clause-taken
returns-in-Ok-NotYet-clause-taken g c start before held s =
    once_none g.V.Server.opening c.args.id start c.args.pass c.take-pass.result.0 before held (g.K.Sink.held c.args.sink.now) c.take-pass.result.1
    (c.in-Ok-NotYet.is ∙ ap (λ a. Ok a) c.in-Ok-NotYet.field-0-is) c.take-pass.ensures.adds s

pub returns-in-Ok-Finished-clause-taken : goal.returns-in-Ok-Finished-clause-taken
returns-in-Ok-Finished-clause-taken g c start before held s =
    once_ends g.V.Server.opening c.args.id start c.args.pass c.take-pass.result.0 before held (g.K.Sink.held c.args.sink.now) c.take-pass.result.1 (Ok answers.Finished)
    (c.in-Ok-Finished.is ∙ ap (λ a. Ok a) c.in-Ok-Finished.field-0-is) refl c.take-pass.ensures.adds s

pub returns-in-Ok-Closed-clause-taken : goal.returns-in-Ok-Closed-clause-taken
returns-in-Ok-Closed-clause-taken g c start before held s =
    once_ends g.V.Server.opening c.args.id start c.args.pass c.take-pass.result.0 before held (g.K.Sink.held c.args.sink.now) c.take-pass.result.1 (Ok answers.Closed)
    (c.in-Ok-Closed.is ∙ ap (λ a. Ok a) c.in-Ok-Closed.field-0-is) refl c.take-pass.ensures.adds s
