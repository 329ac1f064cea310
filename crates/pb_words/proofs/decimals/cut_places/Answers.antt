use Rattle.std.proofs.Common.{◌≡◌, get_or, arith, rules, tests}
use Rattle.pb_words.proofs.DecimalLemmas.{places_found}
use Rattle.pb_words.proofs.decimals.cut_places.Goals as goal

pub returns-in-46-clause-found : goal.returns-in-46-clause-found
returns-in-46-clause-found c =
    let first : get_or c.args.rest.now 0 0 ≡ 46 = search (rules, tests) in
    places_found c.args.rest.now c.in-46.len_at_least first (search rules) (omega arith)
