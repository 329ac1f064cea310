use Rattle.std.proofs.Common.{rules}
use Rattle.pb_lazy.proofs.ListLemmas.{refreshed_same, refreshed_new}
use Rattle.pb_lazy.proofs.lists.refresh_one.Goals as goal

pub returns-then-not-lazy-clause-refreshed : goal.returns-then-not-lazy-clause-refreshed
returns-then-not-lazy-clause-refreshed g c = refreshed_same c.args.lazy.now (search rules)

pub returns-clause-refreshed : goal.returns-clause-refreshed
returns-clause-refreshed g c = refreshed_new c.args.lazy.now c.look_ahead.new.self (search rules) c.look_ahead.ensures.known
