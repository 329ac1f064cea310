use Rattle.std.proofs.Common.{◌<◌, ◌^◌, sym, ap, subst, ◌∙◌}
use Rattle.pb_model.specs.Arming.{is_capture_idle}
use Rattle.pb_going.specs.Sims.{Going, going, Agrees, now_of}
use Rattle.pb_jump.proofs.SteppingLemmas.{own_small, all_known_now, refreshed_agrees, refreshed_idle, refreshed_going}
use Rattle.pb_jump.proofs.sims.Sim.refresh.Goals as goal

pub refresh_all-requires : goal.refresh_all-requires
refresh_all-requires g c =
    let s = c.self.inside in
    let was : Going = going s.stimulus s.tick s.buses s.settings s.lazies.items s.first s.stood in
    own_small was c.self.invariant.0 (subst (λ (x : Going). x.tick < 2 ^ 62) (sym c.self.view_is) c.requires)

pub invariant_of-self : goal.invariant_of-self
invariant_of-self g c =
    let s = c.self.inside in
    let was : Going = going s.stimulus s.tick s.buses s.settings s.lazies.items s.first s.stood in (
      refreshed_going was c.refresh_all.new.lazies.items c.refresh_all.ensures.refreshed c.self.invariant.0
          (subst (λ (x : Going). x.tick < 2 ^ 62) (sym c.self.view_is) c.requires),
      c.self.invariant.1,
    )

pub returns-clause-known : goal.returns-clause-known
returns-clause-known g c = all_known_now c.self.inside.lazies.items c.refresh_all.new.lazies.items c.refresh_all.ensures.refreshed

pub returns-clause-same : goal.returns-clause-same
returns-clause-same g c = λ moment h.
    let s = c.self.inside in
    let was : Going = going s.stimulus s.tick s.buses s.settings s.lazies.items s.first s.stood in
    refreshed_agrees was c.refresh_all.new.lazies.items c.refresh_all.ensures.refreshed moment (subst (λ (x : Going). Agrees x moment) (sym c.self.view_is) h)

pub returns-clause-idle : goal.returns-clause-idle
returns-clause-idle g c =
    let s = c.self.inside in
    let was : Going = going s.stimulus s.tick s.buses s.settings s.lazies.items s.first s.stood in
    refreshed_idle was c.refresh_all.new.lazies.items c.refresh_all.ensures.refreshed
    ∙ ap (λ (x : Going). is_capture_idle (now_of x).blocks) c.self.view_is
