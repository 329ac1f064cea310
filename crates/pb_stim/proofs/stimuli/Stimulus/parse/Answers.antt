use Rattle.pb_grammar.specs.Grammar.{IsText}
use Rattle.pb_stim.specs.Answers.{line_of}
use Rattle.pb_stim.proofs.ReadSoFar.{read_none, read_more, fault_here, fault_at_end, read_all, none_case}
use Rattle.pb_stim.proofs.ReadLemmas.{may_follow}
use Rattle.pb_stim.proofs.stimuli.Stimulus.parse.Goals as goal

pub loop-line-init : goal.loop-line-init
loop-line-init c = rw (c.start-place.ensures, c.new-stimulus.ensures) (read_none c.args.text.now)

pub returns-in-Err-clause-refused : goal.returns-in-Err-clause-refused
returns-in-Err-clause-refused c =
    let cut = c.in-Some.ensures.found in
    fault_here _ _ c.in-Some.line.now c.in-Some.more.now c.loop-line.place _ c.in-Err.cause c.in-Err.ensures cut.1 cut.0 c.loop-line.invariant

pub add-requires-clause-order : goal.add-requires-clause-order
add-requires-clause-order c =
    let read = c.in-Ok.ensures in
    may_follow _ _ c.in-Some.line.now c.loop-line.place _ c.in-Ok.read read.2 read.0 c.loop-line.invariant

pub loop-line-preserved : goal.loop-line-preserved
loop-line-preserved c =
    let cut = c.in-Some.ensures.found in
    let read = c.in-Ok.ensures in
    let added = c.in_ok-add-in-Ok.ensures in
    rw (c.next-place.ensures, added)
    (read_more _ _ c.in-Some.line.now c.in-Some.more.now c.loop-line.place _ (line_of c.in-Ok.read) read.2 read.0 cut.1 cut.0 c.loop-line.invariant)

pub returns-in-Some-end-clause-refused : goal.returns-in-Some-end-clause-refused
returns-in-Some-end-clause-refused c =
    fault_at_end _ c.loop-line.rest.now c.loop-line.place _ c.in-Some-end.cause c.in-Some-end.ensures
    (none_case (IsText c.loop-line.rest.now) c.cut_line.result c.cut_line.ensures.none c.in_default.not-Some)
    c.loop-line.invariant

pub returns-in-None-clause-read : goal.returns-in-None-clause-read
returns-in-None-clause-read c = read_all _ c.loop-line.rest.now c.loop-line.place _ c.in-None.ensures c.loop-line.invariant
