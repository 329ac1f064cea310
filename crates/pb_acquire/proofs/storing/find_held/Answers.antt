use Rattle.std.proofs.Common.{◌==◌, rules, tests}
use Rattle.std.proofs.lemmas.Iterator.{YieldsList-from_slice}
use Rattle.std.proofs.lemmas.Iterator.Search.{find_from_yields_List}
use Rattle.pb_acquire.specs.Kept.{Over}
use Rattle.pb_acquire.proofs.storing.find_held.Goals as goal

pub returns : goal.returns
returns c =
    find_from_yields_List (λ (o : Over). o.before == c.args.before) _ _ c.find.result c.find.ensures.ran (YieldsList-from_slice _ c.iter.ensures.rest) (λ x b q k. search (rules, tests))
