use Rattle.std.proofs.Common.{◌<◌, length, subst, sym, ◌∙◌, arith}
use Rattle.pb_changes.specs.Groups.{asked}
use Rattle.pb_changes.specs.Past.{Told, AgreesWithPast}
use Rattle.pb_changes.proofs.MarkLemmas.{noted_more}
use Rattle.pb_changes.proofs.marks.Marks.note_all.Goals as goal

pub loop-group-preserved : goal.loop-group-preserved
loop-group-preserved g c =
    let inv = c.loop-group.invariant in
    let told : Told = g.F.Face.told c.args.face.now in
    let now : Told = g.F.Face.told c.loop-group.face in
    let within : c.loop-group.group-index < length (asked c.args.group) = rw c.asked-group-items.ensures at c.loop-group-test.true in
    record {
      marks = λ past reported agrees keeps.
          noted_more told now past reported (asked c.args.group) _ c.loop-group.group-index _ c.note.new.self within c.asked-group-items.ensures inv.same
          (c.note.ensures.marks past _ (subst (λ (t : Told). AgreesWithPast t past) (sym inv.same) agrees) (inv.marks past reported agrees keeps));
      same = c.note.ensures.same ∙ inv.same;
      work = omega (arith, c.note.ensures.work, inv.work);
    }
