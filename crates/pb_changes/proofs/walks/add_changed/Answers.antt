use Rattle.std.proofs.Common.{ap, sym, ◌∙◌, ◌++◌}
use Rattle.std.proofs.lemmas.List.{append-nil}
use Rattle.pb_changes.proofs.LineLemmas.{no_lines}
use Rattle.pb_changes.proofs.walks.add_changed.Goals as goal

pub returns-then-is_quiet : goal.returns-then-is_quiet
returns-then-is_quiet g c past agrees =
    let told = g.F.Face.told c.args.face.now in
    let none = c.is_quiet.ensures past agrees c.if-is_quiet.true in
    sym (ap (λ l. c.args.text.now ++ l) (no_lines c.args.group c.args.mark told none) ∙ append-nil c.args.text.now)
