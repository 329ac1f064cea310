use Rattle.std.proofs.Common.{◌+◌, length, All, sym, subst, ◌∙◌}
use Rattle.std.proofs.lemmas.List.Elements.{All-nil}
use Rattle.pb_grammar.specs.Grammar.{IsText}
use Rattle.pb_stim.specs.Stimulus.{last_tick}
use Rattle.pb_replay.specs.Lines.{line_of}
use Rattle.pb_replay.specs.Steps.{IsStep}
use Rattle.pb_replay.specs.Adding.{MayBeAdded}
use Rattle.pb_replay.proofs.ReadSoFar.{read_none, read_more, fault_here, fault_at_end, read_all, none_case}
use Rattle.pb_replay.proofs.AddedLines.{may_be_added}
use Rattle.pb_replay.proofs.parsing.parse.Goals as goal

pub loop-line-init : goal.loop-line-init
loop-line-init c =
    record {
      bytes = c.new-draft.ensures.bytes;
      read = rw (c.start-place.ensures, c.new-draft.ensures.rows, c.new-draft.ensures.steps) (read_none c.args.text.now);
      steps = subst (λ steps. All (IsStep c.args.text.now) steps) (sym c.new-draft.ensures.steps) (All-nil (IsStep c.args.text.now));
    }

pub returns-in-Err-clause-refused : goal.returns-in-Err-clause-refused
returns-in-Err-clause-refused c =
    let cut = c.in-Some.ensures.found in
    fault_here _ _ c.in-Some.line.now c.in-Some.more.now c.loop-line.place _ _ c.in-Err.cause c.in-Err.ensures cut.1 cut.0 c.loop-line.invariant.read

pub add-requires-clause-place : goal.add-requires-clause-place
add-requires-clause-place c =
    let cut = c.in-Some.ensures.found in
    let read = c.in-Ok.ensures in
    subst (λ bytes. MayBeAdded bytes (c.loop-line.place.before + length c.in-Some.line.now) (last_tick 0 c.loop-line.draft.stimulus) c.in-Ok.read) (sym c.loop-line.invariant.bytes)
    (may_be_added _ _ c.in-Some.line.now c.in-Some.more.now c.loop-line.place _ _ c.in-Ok.read read.2 read.0 cut.1 cut.0 c.loop-line.invariant.read)

pub loop-line-preserved : goal.loop-line-preserved
loop-line-preserved c =
    let cut = c.in-Some.ensures.found in
    let read = c.in-Ok.ensures in
    let added = c.in_ok-add-in-Ok.ensures in
    let lines = rw c.loop-line.invariant.bytes at added.lines in
    record {
      bytes = added.bytes ∙ c.loop-line.invariant.bytes;
      read =
          rw (c.next-place.ensures, added.rows, lines)
          (read_more _ _ c.in-Some.line.now c.in-Some.more.now c.loop-line.place _ _ (line_of c.in-Ok.read) read.2 read.0 cut.1 cut.0 c.loop-line.invariant.read);
      steps = rw c.loop-line.invariant.bytes at added.steps;
    }

pub returns-in-Some-end-clause-refused : goal.returns-in-Some-end-clause-refused
returns-in-Some-end-clause-refused c =
    fault_at_end _ c.loop-line.rest.now c.loop-line.place _ _ c.in-Some-end.cause c.in-Some-end.ensures
    (none_case (IsText c.loop-line.rest.now) c.cut_line.result c.cut_line.ensures.none c.in_default.not-Some)
    c.loop-line.invariant.read

pub returns-in_ok-keep-in-None-clause-read : goal.returns-in_ok-keep-in-None-clause-read
returns-in_ok-keep-in-None-clause-read c =
    let found = read_all _ c.loop-line.rest.now c.loop-line.place _ _ c.in-None.ensures c.loop-line.invariant.read in
    let script = rw c.loop-line.invariant.bytes at c.in_ok-keep-in-None.ensures in
    (found.0, found.1, script ∙ found.2)
