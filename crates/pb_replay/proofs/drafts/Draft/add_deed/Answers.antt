use Rattle.std.proofs.Common.{rules, FitsSigned}
use Rattle.std.specs.Int.{w32}
use Rattle.std.proofs.lemmas.Int.{to_z-of_z}
use Rattle.pb_replay.proofs.AddedLines.{level_row}
use Rattle.pb_replay.proofs.drafts.Draft.add_deed.Goals as goal

pub returns-in-Level-clause-rows : goal.returns-in-Level-clause-rows
returns-in-Level-clause-rows c =
    let range = rw c.in-Level.is at c.requires.deed in
    let row = level_row c.args.tick c.in-Level.input c.in-Level.value range.0 in
    let fits : FitsSigned w32 c.in-Level.value = search rules in
    let same = to_z-of_z w32 c.in-Level.value fits in
    rw (c.in-Level.is, row) (rw same at c.push.ensures.ok)
