use Rattle.std.proofs.Common.{refl, sym, subst, arith}
use Rattle.pb_core.specs.Core.{moment_of}
use Rattle.pb_core.specs.Kept.{KeptCore, Agrees}
use Rattle.pb_core.specs.Costs.{AdvanceCosts}
use Rattle.pb_core.proofs.AdvanceLemmas.{reaches, reached_agrees, advance_costs}
use Rattle.pb_core.proofs.CoreLemmas.{tick_is}
use Rattle.pb_core.proofs.cores.Core.advance.Goals as goal

pub returns : goal.returns
returns g c =
    let inside = c.self.inside in
    let kept : KeptCore = record { config = inside.config; sim = inside.sim; sessions = inside.sessions; acquisitions = inside.acquisitions } in
    let next : KeptCore = record { config = inside.config; sim = c.run-end.new.sim; sessions = inside.sessions; acquisitions = c.end_with.new.acquisitions } in
    record {
      told = λ core h.
          let agrees : Agrees kept core = subst (λ k. Agrees k core) (sym c.self.view_is) h in
          reaches core c.args.to c.max-target.result c.args.most c.run-end.result c.run-end.new.sim c.args.steps.now c.run-end.new.steps _
          (omega (arith, c.max-target.ensures, c.now.ensures.tick, tick_is kept core agrees)) (c.run-end.ensures.advanced (moment_of core) agrees.run);
      core = λ core h.
          let agrees : Agrees kept core = subst (λ k. Agrees k core) (sym c.self.view_is) h in
          reached_agrees kept next core c.max-target.result c.args.most c.run-end.result c.args.steps.now c.run-end.new.steps _ c.run-end.new.acquisitions
          refl refl c.run-end.ensures.reached (c.run-end.ensures.advanced (moment_of core) agrees.run)
          (c.run-end.ensures.taken (moment_of core) core.acquisitions agrees.run agrees.acquisitions) c.end_with.ensures.ended agrees;
      counts = λ core h.
          let agrees : Agrees kept core = subst (λ k. Agrees k core) (sym c.self.view_is) h in
          subst (λ k. AdvanceCosts core k next c.args.steps.now c.run-end.new.steps) c.self.view_is
          (advance_costs kept next core c.max-target.result c.args.most c.run-end.result c.args.steps.now c.run-end.new.steps
          c.run-end.ensures.reached c.run-end.ensures.known (c.run-end.ensures.advanced (moment_of core) agrees.run) agrees);
    }
