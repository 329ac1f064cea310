use Rattle.std.proofs.Common.{rules, ap, ◌∙◌, ◌++◌}
use Rattle.pb_fields.specs.Order.{visits}
use Rattle.pb_fields.proofs.OrderLemmas.{walk}
use Rattle.pb_changes.specs.Helpers.{lines_due}
use Rattle.pb_changes.proofs.walks.walk.Goals as goal

pub loop-step-init : goal.loop-step-init
loop-step-init g c =
    record {
      lines = ap (λ v. c.args.text.now ++ lines_due c.args.group c.args.mark (g.F.Face.told c.args.face.now) v)
          (ap (visits 2000) c.following-next.ensures.next ∙ walk);
      slot = search rules;
    }
