use Rattle.std.proofs.Common.{◌<◌, ◌≤◌, ◌∙◌, arith}
use Rattle.std.proofs.lemmas.Bool.{ltb-true}
use Rattle.pb_fields.specs.Assigned.{last_place}
use Rattle.pb_changes.specs.Past.{Told}
use Rattle.pb_changes.proofs.LineLemmas.{quiet_bits, quiet_posn, quiet_assigned, others_by}
use Rattle.pb_changes.proofs.walks.is_quiet_since.Goals as goal

pub returns-in-Bits : goal.returns-in-Bits
returns-in-Bits g c past agrees quiet slot is =
    rw c.in-Bits.is (quiet_bits (g.F.Face.told c.args.face.now) c.args.mark (c.buses_are_quiet.ensures quiet) slot is)

pub returns-in-Posn : goal.returns-in-Posn
returns-in-Posn g c past agrees quiet slot is =
    rw c.in-Posn.is (quiet_posn (g.F.Face.told c.args.face.now) c.args.mark (c.buses_are_quiet-in-Posn.ensures quiet) slot is)

pub returns-then-assignments-mark : goal.returns-then-assignments-mark
returns-then-assignments-mark g c past agrees few slot is =
    let told : Told = g.F.Face.told c.args.face.now in
    let below = ltb-true c.assignments-then-assignments-mark.result last_place few in
    let all : told.assignments ≤ c.args.mark = omega (arith, c.assignments.ensures, c.if-assignments-mark.true) in
    let early : told.assignments < last_place = omega (arith, c.assignments-then-assignments-mark.ensures, below) in
    others_by c.args.group told slot c.args.mark c.in_default.not-Bits c.in_default.not-Posn
    ∙ quiet_assigned told past c.args.mark agrees all early slot is
