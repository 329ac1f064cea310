use Rattle.std.proofs.Common.{◌≡◌, ◌<◌, ◌^◌, Bool, false, List, sym, ap, subst, ◌∙◌}
use Rattle.std.specs.List.{AllByRecursion}
use Rattle.pb_model.specs.Tick.{emitted_of}
use Rattle.pb_model.specs.Kept.{stands_of}
use Rattle.pb_still.specs.Eventful.{IsIdle}
use Rattle.pb_lazy.specs.declared.Lazy.{Lazy}
use Rattle.pb_lazy.specs.Lazy.{saw, caught_up, IsSound}
use Rattle.pb_lazy.specs.Meeting.{IsOneBusy}
use Rattle.pb_going.specs.Sims.{Going, going, Agrees, AreKnown, now_of}
use Rattle.pb_going.proofs.EventLemmas.{eventful_first, eventful_stood, eventful_busy, still_idle}
use Rattle.pb_jump.proofs.AdvancingLemmas.{idle_emit_nothing}
use Rattle.pb_jump.proofs.sims.Sim.is_eventful.Goals as goal

pub returns-then-self-clause-eventful : goal.returns-then-self-clause-eventful
returns-then-self-clause-eventful c = λ moment h e.
    let s = c.self.inside in
    let was : Going = going s.stimulus s.tick s.buses s.settings s.lazies.items s.first s.stood in
    eventful_first was moment (subst (λ (x : Going). Agrees x moment) (sym c.self.view_is) h) c.self.invariant.0 c.if-self.true

pub returns-then-self-2-clause-eventful : goal.returns-then-self-2-clause-eventful
returns-then-self-2-clause-eventful c = λ moment h e.
    let s = c.self.inside in
    let was : Going = going s.stimulus s.tick s.buses s.settings s.lazies.items s.first s.stood in
    eventful_stood was moment (subst (λ (x : Going). Agrees x moment) (sym c.self.view_is) h) c.if-self-2.true

pub is_one_busy-requires : goal.is_one_busy-requires
is_one_busy-requires c =
    let s = c.self.inside in
    let was : Going = going s.stimulus s.tick s.buses s.settings s.lazies.items s.first s.stood in
    record {
      sound =
          subst (λ (l : List Lazy). AllByRecursion (IsSound s.tick false) l) (sym c.deref.ensures.value)
          (subst (λ (b : Bool). AllByRecursion (IsSound s.tick b) s.lazies.items) c.if-self.false c.self.invariant.0.sound);
      known =
          subst (λ (l : List Lazy). AllByRecursion (λ (lazy : Lazy). lazy.outdated ≡ false) l) (sym c.deref.ensures.value)
          (subst (λ (x : Going). AreKnown x) (sym c.self.view_is) c.requires.known);
      tick = subst (λ (x : Going). x.tick < 2 ^ 62) (sym c.self.view_is) c.requires.tick;
    }

pub returns-clause-eventful : goal.returns-clause-eventful
returns-clause-eventful c = λ moment h e.
    let s = c.self.inside in
    let was : Going = going s.stimulus s.tick s.buses s.settings s.lazies.items s.first s.stood in
    eventful_busy was moment (subst (λ (x : Going). Agrees x moment) (sym c.self.view_is) h) c.if-self.false
    (subst (λ (l : List Lazy). IsOneBusy s.buses.bus s.tick l) c.deref.ensures.value (c.is_one_busy.ensures.busy e))

pub returns-clause-still : goal.returns-clause-still
returns-clause-still c = λ moment h e.
    let s = c.self.inside in
    let was : Going = going s.stimulus s.tick s.buses s.settings s.lazies.items s.first s.stood in
    still_idle was moment (subst (λ (x : Going). Agrees x moment) (sym c.self.view_is) h) c.if-self.false c.if-self-2.false
    (subst (λ (l : List Lazy). AllByRecursion (λ (x : Lazy). IsIdle s.buses.bus s.tick (saw false x) (caught_up s.tick x)) l) c.deref.ensures.value
    (c.is_one_busy.ensures.idle e))

pub returns-clause-quiet : goal.returns-clause-quiet
returns-clause-quiet c = λ e.
    let s = c.self.inside in
    let was : Going = going s.stimulus s.tick s.buses s.settings s.lazies.items s.first s.stood in
    ap (λ (x : Going). emitted_of (stands_of (now_of x))) (sym c.self.view_is)
    ∙ idle_emit_nothing s.buses.bus s.tick s.lazies.items
    (subst (λ (l : List Lazy). AllByRecursion (λ (x : Lazy). IsIdle s.buses.bus s.tick (saw false x) (caught_up s.tick x)) l) c.deref.ensures.value
    (c.is_one_busy.ensures.idle e))
