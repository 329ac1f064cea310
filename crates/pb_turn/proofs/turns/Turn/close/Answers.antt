use Rattle.std.proofs.Common.{◌≡◌, ◌++◌, ap, sym, ◌∙◌, subst₂, Some}
use Rattle.std.specs.Prelude.{option_map}
use Rattle.pb_turn.proofs.Closing.{left}
use Rattle.pb_turn.proofs.turns.Turn.close.Goals as goal

pub unreachable-requires : goal.unreachable-requires
unreachable-requires g c = let key = c.self.inside.table.shared.key in
    let every = ap (λ p. p.parts) c.pass.view_is ∙ c.requires.all ∙ sym (ap (λ p. p.all) c.pass.view_is) in
    let l = left g.V.Stands.origin g.V.Stands.stands key.value.value key.parts _ _ _ _ c.close_with-closed.ensures.values.2 c.pass.invariant.parts every c.pass.invariant.holds in
    cc (l.there, c.take-slot.ensures.value, c.in-None.is)

pub returns-clause-stands : goal.returns-clause-stands
returns-clause-stands g c = let key = c.self.inside.table.shared.key in
    let every = ap (λ p. p.parts) c.pass.view_is ∙ c.requires.all ∙ sym (ap (λ p. p.all) c.pass.view_is) in
    let l = left g.V.Stands.origin g.V.Stands.stands key.value.value key.parts _ _ _ _ c.close_with-closed.ensures.values.2 c.pass.invariant.parts every c.pass.invariant.holds in
    (l.more, subst₂ (λ x s. g.V.Stands.stands x (s ++ l.more)) (cc (l.there, c.take-slot.ensures.value, c.in-Some.is)) (ap (λ p. p.seen) c.pass.view_is) l.holds)

pub returns-clause-origin : goal.returns-clause-origin
returns-clause-origin g c = let key = c.self.inside.table.shared.key in
    let every = ap (λ p. p.parts) c.pass.view_is ∙ c.requires.all ∙ sym (ap (λ p. p.all) c.pass.view_is) in
    let l = left g.V.Stands.origin g.V.Stands.stands key.value.value key.parts _ _ _ _ c.close_with-closed.ensures.values.2 c.pass.invariant.parts every c.pass.invariant.holds in
    subst₂ (λ o x. option_map g.V.Stands.origin o ≡ Some (g.V.Stands.origin x)) (ap (λ p. p.opened) c.pass.view_is) (cc (l.there, c.take-slot.ensures.value, c.in-Some.is)) l.same
