use Rattle.std.proofs.Common.{◌-◌, sym, subst}
use Rattle.pb_core.specs.Kept.{AreKept}
use Rattle.pb_core.proofs.MarkLemmas.{marks_found, marks_new}
use Rattle.pb_core.proofs.sessions.Sessions.marks.Goals as goal

pub returns-in-Some : goal.returns-in-Some
returns-in-Some c = λ sessions all.
    marks_found c.self.inside.open sessions (c.args.id - 1) c.in-Some.marks c.in-Some.is (subst (λ k. AreKept k sessions) (sym c.self.view_is) all)

pub returns-in-None : goal.returns-in-None
returns-in-None c = λ sessions all.
    marks_new c.self.inside.open sessions (c.args.id - 1) c.new.result c.in-None.is c.new.ensures (subst (λ k. AreKept k sessions) (sym c.self.view_is) all)
