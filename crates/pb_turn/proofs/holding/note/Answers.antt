use Rattle.std.proofs.Common.{rules}
use Rattle.pb_turn.proofs.Keeps.{adds_said}
use Rattle.pb_turn.proofs.holding.note.Goals as goal

pub fetch_add-requires : goal.fetch_add-requires
fetch_add-requires g c = let key = c.args.shared.now.key in
    (search rules, search rules, adds_said g.V.Stands.origin g.V.Stands.stands key.value.value key.parts _ _ _ c.args.entry.now g.N.Said.said c.requires.picked c.requires.holds.0 c.requires.holds.1)
