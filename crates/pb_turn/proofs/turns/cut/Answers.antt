use Rattle.std.proofs.Common.{rules, ◌<◌, subst, ℕ}
use Rattle.pb_turn.proofs.Keeps.{splits}
use Rattle.pb_turn.proofs.turns.cut.Goals as goal

pub split_seat-requires : goal.split_seat-requires
split_seat-requires g c = let key = c.args.shared.now.key in (
  search rules,
  search rules,
  splits g.V.Stands.origin g.V.Stands.stands key.value.value key.parts c.args.seat.now.id c.args.seat.now.me.0 g.N.Parts.parts
      (subst (λ (k : ℕ). 0 < k) c.requires.picked c.requires.parts.0) (subst (λ (k : ℕ). k < c.args.seat.now.me.0.parts) c.requires.picked c.requires.parts.1) c.requires.parts.2,
)
