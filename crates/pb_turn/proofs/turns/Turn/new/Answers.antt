use Rattle.std.proofs.Common.{refl, subst₂, sym, ap, ◌∙◌, [], ◌∷◌, ◌++◌, List, Some}
use Rattle.std.specs.Prelude.{Option}
use Rattle.atomic_table.specs.Table.{opening}
use Rattle.pb_turn.specs.Steps.{fresh}
use Rattle.pb_turn.specs.Turning.{OneHistory}
use Rattle.pb_turn.proofs.Keeps.{opens}
use Rattle.pb_turn.proofs.turns.Turn.new.Goals as goal

pub new-requires : goal.new-requires
new-requires g c =
    subst₂ (λ x (items : List (Option g.row.V.Denot)). OneHistory g.V.Stands.origin g.V.Stands.stands x c.args.parts (opening (0 ∷ 0 ∷ []) items (fresh x c.args.parts)))
    (sym c.of.ensures) (sym (c.push_reserved.ensures.items ∙ ap (λ (xs : List (Option g.row.V.Denot)). xs ++ Some c.args.value ∷ []) c.in-Ok.ensures.items))
    (opens g.V.Stands.origin g.V.Stands.stands c.args.value c.args.parts c.args.parts c.requires.opening refl)
