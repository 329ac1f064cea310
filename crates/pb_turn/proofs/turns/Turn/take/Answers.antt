use Rattle.std.proofs.Common.{rules, ◌∷◌, ap, sym, ◌∙◌, Some}
use Rattle.atomic_table.specs.Table.{rest}
use Rattle.pb_turn.proofs.turns.Turn.take.Goals as goal

pub exchange-requires : goal.exchange-requires
exchange-requires g c = let has = c.requires.has in
    (search rules, (Some has.value, has.carries ∙ ap (λ l. (0, Some has.value) ∷ rest l) (sym has.carries)))
