use Rattle.std.proofs.Common.{◌<◌, length, subst, sym, ◌∙◌, arith}
use Rattle.pb_changes.specs.Groups.{asked}
use Rattle.pb_changes.specs.Past.{Told, AgreesWithPast}
use Rattle.pb_changes.proofs.MarkLemmas.{lines_more}
use Rattle.pb_changes.proofs.marks.Marks.text.Goals as goal

pub loop-group-preserved : goal.loop-group-preserved
loop-group-preserved g c =
    let inv = c.loop-group.invariant in
    let told : Told = g.F.Face.told c.args.face.now in
    let now : Told = g.F.Face.told c.loop-group.face in
    let within : c.loop-group.group-index < length (asked c.args.group) = rw c.asked-group-items.ensures at c.loop-group-test.true in
    record {
      lines = λ past reported agrees keeps.
          lines_more told now past reported (asked c.args.group) _ c.loop-group.group-index _ c.loop-group.text c.add_group.new.text within c.asked-group-items.ensures inv.same (inv.lines past reported agrees keeps)
          (c.in_ok-add_group.ensures.lines past reported (subst (λ (t : Told). AgreesWithPast t past) (sym inv.same) agrees) keeps);
      same = c.add_group.ensures.same ∙ inv.same;
      work = omega (arith, c.add_group.ensures.work, inv.work);
    }
