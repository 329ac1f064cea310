use Rattle.std.proofs.Common.{rules, ◌≡◌, subst}
use Rattle.pb_turn.specs.Entering.{Holds, IsTaken}
use Rattle.pb_turn.proofs.Keeps.{outs}
use Rattle.pb_turn.proofs.Calls.{won}
use Rattle.pb_turn.proofs.turns.Turn.try_enter.Goals as goal

pub compare_exchange-requires : goal.compare_exchange-requires
compare_exchange-requires g c = let key = c.self.inside.table.shared.key in
    (search rules, search rules, outs g.V.Stands.origin g.V.Stands.stands key.value.value key.parts _ _ _ c.pass.invariant.parts c.pass.invariant.holds)

pub returns-then-compare_exchange-eq-FREE : goal.returns-then-compare_exchange-eq-FREE
returns-then-compare_exchange-eq-FREE g c = let origin = g.V.Stands.origin in let stands = g.V.Stands.stands in
    subst (λ p. Holds origin stands p c.take.result × (c.take.result.pass.lost ≡ p.lost)) c.pass.view_is
    (won origin stands c.pass.inside.seat.table_id c.pass.inside.seat.me c.compare_exchange.new.seat.me c.take.result c.pass.invariant.below (c.compare_exchange.ensures.2.0 c.if-compare_exchange-eq-FREE.true)
    (subst (λ i. IsTaken i c.compare_exchange.new.seat.me c.take.result) c.compare_exchange.ensures.0 c.take.ensures))
