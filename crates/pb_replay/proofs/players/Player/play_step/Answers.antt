use Rattle.std.proofs.Common.{refl}
use Rattle.pb_replay.specs.declared.scripts.Act.TheVariants as acts
use Rattle.pb_replay.specs.Script.{Timed, Command, CloseControl, OpenData, Take, CloseData, End}
use Rattle.pb_replay.specs.Steps.{step_line}
use Rattle.pb_replay.proofs.StepLemmas.{is_command, is_close_control, is_open_data, is_take, is_close_data, is_end, step_plays, step_leaves, step_feeds, step_waits, step_went, step_silent, quiet_plays, step_session, step_span, span_text}
use Rattle.pb_replay.proofs.players.Player.play_step.Goals as goal

pub play_line-requires-clause-session : goal.play_line-requires-clause-session
play_line-requires-clause-session g c = step_session c.args.bytes.now c.args.moment (acts.Command c.in-Command.session c.in-Command.span) c.in-Command.is c.requires

pub text_at-requires : goal.text_at-requires
text_at-requires g c = step_span c.args.bytes.now c.args.moment (acts.Command c.in-Command.session c.in-Command.span) c.in-Command.is c.requires

pub play_line-requires-clause-text : goal.play_line-requires-clause-text
play_line-requires-clause-text g c = span_text c.args.bytes.now c.in-Command.span c.text_at.result.now (step_span c.args.bytes.now c.args.moment (acts.Command c.in-Command.session c.in-Command.span) c.in-Command.is c.requires) c.text_at.ensures

pub returns-in-Command-clause-plays : goal.returns-in-Command-clause-plays
returns-in-Command-clause-plays g c = λ state h waiting f.
    let line = step_line c.args.bytes.now c.args.moment in
    let same = Timed c.args.moment.tick (Command c.in-Command.session c.text_at.result.now) in
    let is = is_command c.args.bytes.now c.args.moment c.in-Command.session c.in-Command.span c.text_at.result.now c.in-Command.is c.text_at.ensures in
    step_plays line same state waiting c.play_line.result c.args.self.now.pending c.play_line.new.self.pending (g.K.Sink.held c.args.output.now) (g.K.Sink.held c.play_line.new.output) is (c.play_line.ensures.plays state h waiting f)

pub returns-in-Command-clause-core : goal.returns-in-Command-clause-core
returns-in-Command-clause-core g c = λ there state h waiting f.
    let line = step_line c.args.bytes.now c.args.moment in
    let same = Timed c.args.moment.tick (Command c.in-Command.session c.text_at.result.now) in
    let is = is_command c.args.bytes.now c.args.moment c.in-Command.session c.in-Command.span c.text_at.result.now c.in-Command.is c.text_at.ensures in
    step_leaves line same state c.play_line.new.self.core waiting is (c.play_line.ensures.core there state h waiting f)

pub returns-in-Command-clause-fed : goal.returns-in-Command-clause-fed
returns-in-Command-clause-fed g c = λ there waiting f.
    let line = step_line c.args.bytes.now c.args.moment in
    let same = Timed c.args.moment.tick (Command c.in-Command.session c.text_at.result.now) in
    let is = is_command c.args.bytes.now c.args.moment c.in-Command.session c.in-Command.span c.text_at.result.now c.in-Command.is c.text_at.ensures in
    step_feeds line same c.play_line.new.self.assemblers waiting is (c.play_line.ensures.fed there waiting f)

pub close_control-requires-clause-session : goal.close_control-requires-clause-session
close_control-requires-clause-session g c = step_session c.args.bytes.now c.args.moment (acts.CloseControl c.in-CloseControl.session) c.in-CloseControl.is c.requires

pub returns-in-CloseControl-clause-plays : goal.returns-in-CloseControl-clause-plays
returns-in-CloseControl-clause-plays g c = λ state h waiting f.
    let line = step_line c.args.bytes.now c.args.moment in
    let same = Timed c.args.moment.tick (CloseControl c.in-CloseControl.session) in
    let is = is_close_control c.args.bytes.now c.args.moment c.in-CloseControl.session c.in-CloseControl.is in
    step_plays line same state waiting c.close_control.result c.args.self.now.pending c.close_control.new.self.pending (g.K.Sink.held c.args.output.now) (g.K.Sink.held c.args.output.now) is
    (quiet_plays c.close_control.result c.args.self.now.pending c.close_control.new.self.pending (g.K.Sink.held c.args.output.now) c.close_control.ensures.known c.close_control.ensures.pending)

pub returns-in-CloseControl-clause-core : goal.returns-in-CloseControl-clause-core
returns-in-CloseControl-clause-core g c = λ there state h waiting f.
    let line = step_line c.args.bytes.now c.args.moment in
    let same = Timed c.args.moment.tick (CloseControl c.in-CloseControl.session) in
    let is = is_close_control c.args.bytes.now c.args.moment c.in-CloseControl.session c.in-CloseControl.is in
    step_leaves line same state c.close_control.new.self.core waiting is (c.close_control.ensures.core there state h waiting)

pub returns-in-CloseControl-clause-fed : goal.returns-in-CloseControl-clause-fed
returns-in-CloseControl-clause-fed g c = λ there waiting f.
    let line = step_line c.args.bytes.now c.args.moment in
    let same = Timed c.args.moment.tick (CloseControl c.in-CloseControl.session) in
    let is = is_close_control c.args.bytes.now c.args.moment c.in-CloseControl.session c.in-CloseControl.is in
    step_feeds line same c.close_control.new.self.assemblers waiting is (c.close_control.ensures.fed there waiting f)

pub open_data-requires-clause-session : goal.open_data-requires-clause-session
open_data-requires-clause-session g c = step_session c.args.bytes.now c.args.moment (acts.OpenData c.in-OpenData.session c.in-OpenData.span) c.in-OpenData.is c.requires

pub returns-in-OpenData-clause-plays : goal.returns-in-OpenData-clause-plays
returns-in-OpenData-clause-plays g c = λ state h waiting f.
    let line = step_line c.args.bytes.now c.args.moment in
    let same = Timed c.args.moment.tick (OpenData c.in-OpenData.session c.text_at-in-OpenData.result.now) in
    let is = is_open_data c.args.bytes.now c.args.moment c.in-OpenData.session c.in-OpenData.span c.text_at-in-OpenData.result.now c.in-OpenData.is c.text_at-in-OpenData.ensures in
    step_plays line same state waiting c.open_data.result c.args.self.now.pending c.open_data.new.self.pending (g.K.Sink.held c.args.output.now) (g.K.Sink.held c.open_data.new.output) is (c.open_data.ensures.plays state h waiting)

pub returns-in-OpenData-clause-core : goal.returns-in-OpenData-clause-core
returns-in-OpenData-clause-core g c = λ there state h waiting f.
    let line = step_line c.args.bytes.now c.args.moment in
    let same = Timed c.args.moment.tick (OpenData c.in-OpenData.session c.text_at-in-OpenData.result.now) in
    let is = is_open_data c.args.bytes.now c.args.moment c.in-OpenData.session c.in-OpenData.span c.text_at-in-OpenData.result.now c.in-OpenData.is c.text_at-in-OpenData.ensures in
    step_leaves line same state c.open_data.new.self.core waiting is (c.open_data.ensures.core there state h waiting)

pub returns-in-OpenData-clause-fed : goal.returns-in-OpenData-clause-fed
returns-in-OpenData-clause-fed g c = λ there waiting f.
    let line = step_line c.args.bytes.now c.args.moment in
    let same = Timed c.args.moment.tick (OpenData c.in-OpenData.session c.text_at-in-OpenData.result.now) in
    let is = is_open_data c.args.bytes.now c.args.moment c.in-OpenData.session c.in-OpenData.span c.text_at-in-OpenData.result.now c.in-OpenData.is c.text_at-in-OpenData.ensures in
    step_waits line same c.args.self.now.assemblers c.open_data.new.self.assemblers waiting is refl c.open_data.ensures.assemblers f

pub take-requires-clause-session : goal.take-requires-clause-session
take-requires-clause-session g c = step_session c.args.bytes.now c.args.moment (acts.Take c.in-Take.session) c.in-Take.is c.requires

pub returns-in-Take-clause-plays : goal.returns-in-Take-clause-plays
returns-in-Take-clause-plays g c = λ state h waiting f.
    let line = step_line c.args.bytes.now c.args.moment in
    let same = Timed c.args.moment.tick (Take c.in-Take.session) in
    let is = is_take c.args.bytes.now c.args.moment c.in-Take.session c.in-Take.is in
    step_plays line same state waiting c.take.result c.args.self.now.pending c.take.new.self.pending (g.K.Sink.held c.args.output.now) (g.K.Sink.held c.take.new.output) is (c.take.ensures.plays state h waiting)

pub returns-in-Take-clause-core : goal.returns-in-Take-clause-core
returns-in-Take-clause-core g c = λ there state h waiting f.
    let line = step_line c.args.bytes.now c.args.moment in
    let same = Timed c.args.moment.tick (Take c.in-Take.session) in
    let is = is_take c.args.bytes.now c.args.moment c.in-Take.session c.in-Take.is in
    step_leaves line same state c.take.new.self.core waiting is (c.take.ensures.core there state h waiting)

pub returns-in-Take-clause-fed : goal.returns-in-Take-clause-fed
returns-in-Take-clause-fed g c = λ there waiting f.
    let line = step_line c.args.bytes.now c.args.moment in
    let same = Timed c.args.moment.tick (Take c.in-Take.session) in
    let is = is_take c.args.bytes.now c.args.moment c.in-Take.session c.in-Take.is in
    step_waits line same c.args.self.now.assemblers c.take.new.self.assemblers waiting is refl c.take.ensures.assemblers f

pub close_data-requires-clause-session : goal.close_data-requires-clause-session
close_data-requires-clause-session g c = step_session c.args.bytes.now c.args.moment (acts.CloseData c.in-CloseData.session) c.in-CloseData.is c.requires

pub returns-in-CloseData-clause-plays : goal.returns-in-CloseData-clause-plays
returns-in-CloseData-clause-plays g c = λ state h waiting f.
    let line = step_line c.args.bytes.now c.args.moment in
    let same = Timed c.args.moment.tick (CloseData c.in-CloseData.session) in
    let is = is_close_data c.args.bytes.now c.args.moment c.in-CloseData.session c.in-CloseData.is in
    step_plays line same state waiting c.close_data.result c.args.self.now.pending c.close_data.new.self.pending (g.K.Sink.held c.args.output.now) (g.K.Sink.held c.args.output.now) is
    (quiet_plays c.close_data.result c.args.self.now.pending c.close_data.new.self.pending (g.K.Sink.held c.args.output.now) c.close_data.ensures.known c.close_data.ensures.pending)

pub returns-in-CloseData-clause-core : goal.returns-in-CloseData-clause-core
returns-in-CloseData-clause-core g c = λ there state h waiting f.
    let line = step_line c.args.bytes.now c.args.moment in
    let same = Timed c.args.moment.tick (CloseData c.in-CloseData.session) in
    let is = is_close_data c.args.bytes.now c.args.moment c.in-CloseData.session c.in-CloseData.is in
    step_leaves line same state c.close_data.new.self.core waiting is (c.close_data.ensures.core there state h waiting)

pub returns-in-CloseData-clause-fed : goal.returns-in-CloseData-clause-fed
returns-in-CloseData-clause-fed g c = λ there waiting f.
    let line = step_line c.args.bytes.now c.args.moment in
    let same = Timed c.args.moment.tick (CloseData c.in-CloseData.session) in
    let is = is_close_data c.args.bytes.now c.args.moment c.in-CloseData.session c.in-CloseData.is in
    step_waits line same c.args.self.now.assemblers c.close_data.new.self.assemblers waiting is refl c.close_data.ensures.assemblers f

pub returns-in-End-clause-plays : goal.returns-in-End-clause-plays
returns-in-End-clause-plays g c = λ state h waiting f.
    let line = step_line c.args.bytes.now c.args.moment in
    let same = Timed c.args.moment.tick End in
    let is = is_end c.args.bytes.now c.args.moment c.in-End.is in
    step_plays line same state waiting c.end.result c.args.self.now.pending c.end.new.self.pending (g.K.Sink.held c.args.output.now) (g.K.Sink.held c.end.new.output) is (c.end.ensures.plays state h waiting)

pub returns-in-End-clause-core : goal.returns-in-End-clause-core
returns-in-End-clause-core g c = λ there state h waiting f.
    let line = step_line c.args.bytes.now c.args.moment in
    let same = Timed c.args.moment.tick End in
    let is = is_end c.args.bytes.now c.args.moment c.in-End.is in
    step_leaves line same state c.end.new.self.core waiting is (c.end.ensures.core there state h waiting)

pub returns-in-End-clause-fed : goal.returns-in-End-clause-fed
returns-in-End-clause-fed g c = λ there waiting f.
    let line = step_line c.args.bytes.now c.args.moment in
    let same = Timed c.args.moment.tick End in
    let is = is_end c.args.bytes.now c.args.moment c.in-End.is in
    step_waits line same c.args.self.now.assemblers c.end.new.self.assemblers waiting is refl c.end.ensures.assemblers f

pub returns-in-Command-clause-went : goal.returns-in-Command-clause-went
returns-in-Command-clause-went g c = λ state h ready waiting f.
    let line = step_line c.args.bytes.now c.args.moment in
    let same = Timed c.args.moment.tick (Command c.in-Command.session c.text_at.result.now) in
    let is = is_command c.args.bytes.now c.args.moment c.in-Command.session c.in-Command.span c.text_at.result.now c.in-Command.is c.text_at.ensures in
    step_went line same state waiting 21 _ c.play_line.result _ _ is (c.play_line.ensures.went state h ready waiting f)

pub returns-in-CloseControl-clause-went : goal.returns-in-CloseControl-clause-went
returns-in-CloseControl-clause-went g c = λ state h ready waiting f.
    let line = step_line c.args.bytes.now c.args.moment in
    let same = Timed c.args.moment.tick (CloseControl c.in-CloseControl.session) in
    let is = is_close_control c.args.bytes.now c.args.moment c.in-CloseControl.session c.in-CloseControl.is in
    step_silent line same state waiting 21 c.args.self.now.pending c.close_control.new.self.pending (g.K.Sink.held c.args.output.now) c.close_control.result _ _ is c.close_control.ensures.pending (c.close_control.ensures.went state h ready waiting)

pub returns-in-OpenData-clause-went : goal.returns-in-OpenData-clause-went
returns-in-OpenData-clause-went g c = λ state h ready waiting f.
    let line = step_line c.args.bytes.now c.args.moment in
    let same = Timed c.args.moment.tick (OpenData c.in-OpenData.session c.text_at-in-OpenData.result.now) in
    let is = is_open_data c.args.bytes.now c.args.moment c.in-OpenData.session c.in-OpenData.span c.text_at-in-OpenData.result.now c.in-OpenData.is c.text_at-in-OpenData.ensures in
    step_went line same state waiting 21 _ c.open_data.result _ _ is (c.open_data.ensures.went state h ready waiting)

pub returns-in-Take-clause-went : goal.returns-in-Take-clause-went
returns-in-Take-clause-went g c = λ state h ready waiting f.
    let line = step_line c.args.bytes.now c.args.moment in
    let same = Timed c.args.moment.tick (Take c.in-Take.session) in
    let is = is_take c.args.bytes.now c.args.moment c.in-Take.session c.in-Take.is in
    step_went line same state waiting 21 _ c.take.result _ _ is (c.take.ensures.went state h ready waiting)

pub returns-in-CloseData-clause-went : goal.returns-in-CloseData-clause-went
returns-in-CloseData-clause-went g c = λ state h ready waiting f.
    let line = step_line c.args.bytes.now c.args.moment in
    let same = Timed c.args.moment.tick (CloseData c.in-CloseData.session) in
    let is = is_close_data c.args.bytes.now c.args.moment c.in-CloseData.session c.in-CloseData.is in
    step_silent line same state waiting 21 c.args.self.now.pending c.close_data.new.self.pending (g.K.Sink.held c.args.output.now) c.close_data.result _ _ is c.close_data.ensures.pending (c.close_data.ensures.went state h ready waiting)

pub returns-in-End-clause-went : goal.returns-in-End-clause-went
returns-in-End-clause-went g c = λ state h ready waiting f.
    let line = step_line c.args.bytes.now c.args.moment in
    let same = Timed c.args.moment.tick End in
    let is = is_end c.args.bytes.now c.args.moment c.in-End.is in
    step_went line same state waiting 21 _ c.end.result _ _ is (c.end.ensures.went state h ready waiting)
