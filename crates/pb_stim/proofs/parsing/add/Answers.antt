use Rattle.std.proofs.Common.{rules, FitsSigned}
use Rattle.std.specs.Int.{w32}
use Rattle.std.proofs.lemmas.Int.{to_z-of_z}
use Rattle.pb_stim.proofs.ReadLemmas.{level_row}
use Rattle.pb_stim.proofs.parsing.add.Goals as goal

pub returns-in-Level : goal.returns-in-Level
returns-in-Level c =
    let range = rw c.in-Level.is at c.requires.line in
    let row = level_row c.in-Level.tick c.in-Level.input c.in-Level.value range.1 in
    let fits : FitsSigned w32 c.in-Level.value = search rules in
    let same = to_z-of_z w32 c.in-Level.value fits in
    rw (c.in-Level.is, row) (rw same at c.push.ensures.ok)
