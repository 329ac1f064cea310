use Rattle.std.proofs.Common.{rules, ◌≡◌, ◌<◌, ◌++◌, ◌∷◌, [], Some, ap, sym, ◌∙◌, subst}
use Rattle.atomic_table.specs.Table.{rest}
use Rattle.pb_turn.specs.Seeing.{calls_of, origin_of, entries_at}
use Rattle.pb_turn.specs.Passing.{IsFree}
use Rattle.pb_turn.specs.Steps.{adding, leaving}
use Rattle.pb_turn.proofs.Keeps.{homes}
use Rattle.pb_turn.proofs.Calls.{added_call, freed}
use Rattle.pb_turn.proofs.holding.Held.leave.Goals as goal

pub store-requires : goal.store-requires
store-requires g c =
    let key = c.turn.inside.table.shared.key in
    let held = c.self.invariant.1 in
    let e = c.args.entry.now in
    let x = c.self.inside.value in
    let v = c.self.inside.seat.me.0 in
    let is : c.exchange-left.new.seat.me ≡ (adding v e, (0, Some x) ∷ []) =
    c.exchange-left.ensures.3 ∙ (ap (λ m. (m.0, (0, Some x) ∷ rest m.1)) c.note.ensures.1 ∙ ap (λ l. (adding v e, (0, Some x) ∷ rest l)) held.carries) in (
      search rules,
      search rules,
      homes g.V.Stands.origin g.V.Stands.stands key.value.value key.parts _ _ _ x c.turn.invariant.1
          (ap (λ m. m.1) is)
          (subst (λ m. 0 < m.0.parts) (sym is) held.parts)
          (ap (λ m. m.0.holds) is ∙ held.holds)
          (subst (λ m. g.V.Stands.stands x m.0.seen) (sym is) (subst (λ h. g.V.Stands.stands h.value (h.pass.seen ++ e ∷ [])) (sym c.self.view_is) c.requires.stands))
          (subst (λ m. Rattle.std.specs.Prelude.option_map g.V.Stands.origin m.0.opened ≡ Some (g.V.Stands.origin x)) (sym is)
          (subst (λ h. origin_of g.V.Stands.origin h.pass ≡ Some (g.V.Stands.origin h.value)) (sym c.self.view_is) c.requires.origin)),
    )

pub invariant_of-result : goal.invariant_of-result
invariant_of-result g c =
    let held = c.self.invariant.1 in
    let e = c.args.entry.now in
    let x = c.self.inside.value in
    let v = c.self.inside.seat.me.0 in
    let is : c.exchange-left.new.seat.me ≡ (adding v e, (0, Some x) ∷ []) =
    c.exchange-left.ensures.3 ∙ (ap (λ m. (m.0, (0, Some x) ∷ rest m.1)) c.note.ensures.1 ∙ ap (λ l. (adding v e, (0, Some x) ∷ rest l)) held.carries) in
    let last : c.store.new.seat.me ≡ (leaving (adding v e), []) = c.store.ensures.2 ∙ ap (λ m. (leaving m.0, rest m.1)) is in
    subst IsFree (sym last) (freed c.self.inside.seat.me e held)

pub returns-clause-calls : goal.returns-clause-calls
returns-clause-calls g c =
    let held = c.self.invariant.1 in
    let e = c.args.entry.now in
    let x = c.self.inside.value in
    let v = c.self.inside.seat.me.0 in
    let is : c.exchange-left.new.seat.me ≡ (adding v e, (0, Some x) ∷ []) =
    c.exchange-left.ensures.3 ∙ (ap (λ m. (m.0, (0, Some x) ∷ rest m.1)) c.note.ensures.1 ∙ ap (λ l. (adding v e, (0, Some x) ∷ rest l)) held.carries) in
    let last : c.store.new.seat.me ≡ (leaving (adding v e), []) = c.store.ensures.2 ∙ ap (λ m. (leaving m.0, rest m.1)) is in
    ap (λ m. entries_at m.0.seen m.0.made) last ∙ (added_call v.seen v.made e held.below ∙ ap (λ h. calls_of h.pass ++ e ∷ []) c.self.view_is)
