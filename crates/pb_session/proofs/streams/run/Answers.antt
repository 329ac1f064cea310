use Rattle.std.proofs.Common.{◌∷◌, [], ℕ, List, sym, subst}
use Rattle.pb_ports.specs.Ports as ports
use Rattle.pb_core.specs.declared.Answer.{Answer}
use Rattle.pb_session.specs.Controls.{AddsFront}
use Rattle.pb_session.specs.Data.{IsOpened, IsRefused, opens}
use Rattle.pb_session.proofs.TakingLemmas.{runs_to_fault, runs_to_refusal, runs_to_end}
use Rattle.pb_session.proofs.streams.run.Goals as goal

pub returns-in-Err-clause-ran : goal.returns-in-Err-clause-ran
returns-in-Err-clause-ran g c =
    runs_to_fault g.V.Server.opening c.args.id c.args.line c.args.pass c.begin-pass.result.0 c.begin-pass.result.1 (g.K.Sink.held c.args.sink.now) (g.K.Sink.held c.write_all.new.self)
    c.begin-pass.ensures.told c.begin-pass.ensures.adds
    (subst (λ (l : List ℕ). AddsFront (g.K.Sink.held c.args.sink.now) l (g.K.Sink.held c.write_all.new.self)) c.bytes.ensures c.in-Err.ensures.writes)

pub returns-in-Opened-clause-ran : goal.returns-in-Opened-clause-ran
returns-in-Opened-clause-ran g c =
    runs_to_end g.V.Server.opening c.args.id c.args.line c.args.pass c.take_all.result.0 c.begin-pass.result.1 c.take_all.result.1 (g.K.Sink.held c.args.sink.now) (g.K.Sink.held c.write_all.new.self) (g.K.Sink.held c.take_all.new.sink)
    (subst (λ (a : Answer). IsOpened a) (sym c.in-Opened.is) tt)
    (subst (λ (l : List ℕ). ports.Adds (g.K.Sink.held c.args.sink.now) l (g.K.Sink.held c.write_all.new.self)) c.bytes.ensures c.in-Ok.ensures.writes)
    (c.take_all.ensures.taken c.args.pass (opens c.args.id c.args.line c.begin-pass.result.1 ∷ []) c.begin-pass.ensures.adds)

pub returns-in-Error-clause-ran : goal.returns-in-Error-clause-ran
returns-in-Error-clause-ran g c =
    runs_to_refusal g.V.Server.opening c.args.id c.args.line c.args.pass c.begin-pass.result.0 c.begin-pass.result.1 (g.K.Sink.held c.args.sink.now) (g.K.Sink.held c.write_all.new.self)
    (subst (λ (a : Answer). IsRefused a) (sym c.in-Error.is) tt) c.begin-pass.ensures.adds
    (subst (λ (l : List ℕ). ports.Adds (g.K.Sink.held c.args.sink.now) l (g.K.Sink.held c.write_all.new.self)) c.bytes.ensures c.in-Ok.ensures.writes)
