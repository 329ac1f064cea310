use Rattle.std.proofs.Common.{rules, ◌≡◌, ◌<◌, length, ap, sym, subst, subst₂}
use Rattle.std.specs.List.{All}
use mathlib.Core.List.{IsPrefix}
use Rattle.pb_turn.specs.Seeing.{Rising}
use Rattle.pb_turn.specs.Steps.{Loads}
use Rattle.pb_turn.specs.Passing.{known, joined_of, IsJoined}
use Rattle.pb_turn.proofs.Calls.{is_joined}
use Rattle.pb_turn.proofs.Keeps.{joins, loads}
use Rattle.pb_turn.proofs.turns.Turn.join.Goals as goal

pub join_seat-requires : goal.join_seat-requires
join_seat-requires g c = let key = c.self.inside.table.shared.key in
    (search rules, search rules, search rules, search rules, joins g.V.Stands.origin g.V.Stands.stands key.value.value key.parts _ _ _ _ c.a.invariant.parts c.b.invariant.parts c.a.invariant.holds c.b.invariant.holds)

pub load-requires : goal.load-requires
load-requires g c = let key = c.self.inside.table.shared.key in
    (search rules, search rules, loads g.V.Stands.origin g.V.Stands.stands key.value.value key.parts _ _ _ (search rules))

pub returns-clause-both : goal.returns-clause-both
returns-clause-both g c =
    let v = c.a.inside.seat.me.0 in
    let w = c.b.inside.seat.me.0 in
    let now = ap (λ m. m.0) c.join_seat.ensures.2 in
    let told : Loads c.join_seat.new.seat.me c.load.new.seat.me = c.load.ensures.2 in
    let is : known c.load.new.seat.table_id c.load.new.seat.me.0 ≡ joined_of c.args.a c.args.b = search rules in
    let heard = subst (λ m. IsPrefix m.heard m.seen) now told.1 in
    let rises = subst (λ m. Rising m.made) now told.2 in
    let below = subst (λ m. All (λ n. n < length m.seen) m.made) now told.3 in
    subst (IsJoined c.args.a c.args.b) (sym is)
    (subst₂ (λ p q. IsJoined p q (joined_of p q)) c.a.view_is c.b.view_is
    (is_joined (known c.a.inside.seat.table_id v) (known c.b.inside.seat.table_id w) heard rises below c.a.invariant.below c.b.invariant.below))
