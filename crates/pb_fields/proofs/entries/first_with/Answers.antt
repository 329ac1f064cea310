use Rattle.std.proofs.Common.{◌==◌, ◌&&◌, leb, ◌∙◌, rules, tests}
use Rattle.std.proofs.lemmas.Iterator.{YieldsList-from_slice}
use Rattle.std.proofs.lemmas.Iterator.Search.{find_from_yields_List}
use Rattle.pb_fields.specs.declared.entries.Run.{Run}
use Rattle.pb_fields.proofs.entries.first_with.Goals as goal

pub returns : goal.returns
returns c =
    c.copied.ensures
    ∙ find_from_yields_List (λ (r : Run). r.block == c.args.block && leb r.field c.args.field && leb c.args.field r.last_field) _ _ c.find.result c.find.ensures.ran (YieldsList-from_slice _ c.iter.ensures.rest) (λ x b q k. search (rules, tests))
