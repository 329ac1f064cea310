use Rattle.std.proofs.Common.{◌≡◌, Bool, false, List, sym, subst, ◌∙◌}
use Rattle.std.specs.List.{AllByRecursion}
use Rattle.pb_lazy.specs.declared.Lazy.{Lazy}
use Rattle.pb_lazy.specs.Lazy.{IsSound}
use Rattle.pb_lazy.proofs.CallLemmas.{not_true}
use Rattle.pb_jump.proofs.sims.Sim.is_quiet.Goals as goal
use Rattle.pb_jump.proofs.sims.Sim.is_quiet.Goals.{then-not-self, else-not-self}

pub are_quiet-requires : goal.are_quiet-requires
are_quiet-requires c =
    let s = c.self.inside in
    let later : s.first ≡ false =
    elim c.if-not-self.branch [
      | then-not-self w ↦ w.if-not-self.true
      | else-not-self w ↦ not_true s.first (sym w.value-is ∙ c.if-not-self-2.true)
    ] in
    subst (λ (l : List Lazy). AllByRecursion (IsSound s.tick false) l) (sym c.deref.ensures.value)
    (subst (λ (b : Bool). AllByRecursion (IsSound s.tick b) s.lazies.items) later c.self.invariant.0.sound)
