use Rattle.std.proofs.Common.{rules, ◌∷◌, [], ◌++◌}
use Rattle.pb_core.specs.History.{core_after}
use Rattle.pb_session.specs.Calls.{entry}
use Rattle.pb_session.proofs.CallLemmas.{last_is_next}
use Rattle.pb_session.proofs.happening.happen.Goals as goal

pub returns-clause-comes : goal.returns-clause-comes
returns-clause-comes g c =
    let x = c.serve-result.new.self in
    let seen = c.enter-held.result.pass.seen in
    let e = entry c.args.event c.serve-result.result in
    let ok : g.V.Stands.stands x (seen ++ e ∷ []) = c.serve-result.ensures.stands seen (search rules) in
    (core_after (g.V.Server.opening x) seen, last_is_next _ seen e (g.met.V.Server.legal x (seen ++ e ∷ []) ok))
