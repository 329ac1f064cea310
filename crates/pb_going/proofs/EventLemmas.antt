-- Whether the tick at which a box stands is eventful.
use Rattle.std.proofs.Common.{◌≡◌, ℕ, ◌<◌, Bool, true, false, List, [], ◌∷◌, length, map, refl, sym, subst, ◌∙◌, arith, inl, inr, Some, None}
use Rattle.std.specs.Prelude.{Option}
use Rattle.std.specs.List.{AllByRecursion}
use Rattle.pb_buses.specs.declared.Bus.{Bus}
use Rattle.pb_buses.specs.declared.Inputs.{Inputs}
use Rattle.pb_model.specs.Tick.{Standing}
use Rattle.pb_model.proofs.TickLemmas.{are_35}
use Rattle.pb_still.specs.Eventful.{Moment, IsIdle, AreBusy, IsOneBusy, IsEventful, IsStill}
use Rattle.pb_lazy.specs.declared.Lazy.{Lazy}
use Rattle.pb_lazy.specs.Lazy.{caught_up, saw}
use Rattle.pb_lazy.specs.Meeting as lazy
use Rattle.pb_going.specs.Sims.{Going, Agrees, IsGoing, now_of}

-- at the first tick every block is busy
first_busy : (bus : Bus) (tick : ℕ) (lazies : List Lazy) → 0 < length (map (caught_up tick) lazies) →
    IsOneBusy bus tick (map (saw true) lazies) (map (caught_up tick) lazies)
first_busy bus tick [] h = absurd (omega arith)
first_busy bus tick (l ∷ lazies) h = inl (λ idle. none_some idle.same)
  where
    none_some : {X : Type 0} {x : X} → None ≡ Some x → ⊥
    none_some e = cc

one_busy_there : (bus : Bus) (tick : ℕ) (lazies : List Lazy) → lazy.IsOneBusy bus tick lazies →
    IsOneBusy bus tick (map (saw false) lazies) (map (caught_up tick) lazies)
one_busy_there bus tick [] h = absurd h
one_busy_there bus tick (l ∷ lazies) (inl h) = inl h
one_busy_there bus tick (l ∷ lazies) (inr h) = inr (one_busy_there bus tick lazies h)

all_idle_there : (bus : Bus) (tick : ℕ) (lazies : List Lazy) →
    AllByRecursion (λ (l : Lazy). IsIdle bus tick (saw false l) (caught_up tick l)) lazies →
    AreBusy bus tick (map (saw false) lazies) (map (caught_up tick) lazies) 0
all_idle_there bus tick [] h = refl
all_idle_there bus tick (l ∷ lazies) h = inl (h.0, all_idle_there bus tick lazies h.1)

-- at the moment with which what is kept agrees
module _ (g : Going) (moment : Moment) (h : Agrees g moment) where
  busy_here : IsOneBusy g.buses.bus g.tick (map (saw g.first) g.lazies) (now_of g).blocks →
      IsOneBusy moment.box.stands.bus moment.box.stands.tick moment.before moment.box.stands.blocks
  busy_here b =
      subst (λ (l : List (Option Inputs)). IsOneBusy moment.box.stands.bus moment.box.stands.tick l moment.box.stands.blocks) h.before
      (subst (λ (s : Standing). IsOneBusy s.bus s.tick (map (saw g.first) g.lazies) s.blocks) h.box.stands b)

  pub eventful_first : IsGoing g → g.first ≡ true → IsEventful moment
  eventful_first is first =
      let many : length (now_of g).blocks ≡ 35 = are_35 (now_of g).blocks is.whole.kinds in
      inr (busy_here (subst (λ (b : Bool). IsOneBusy g.buses.bus g.tick (map (saw b) g.lazies) (now_of g).blocks) (sym first)
      (first_busy g.buses.bus g.tick g.lazies (omega arith))))

  pub eventful_stood : g.stood ≡ true → IsEventful moment
  eventful_stood e = inl (sym h.stood ∙ e)

  pub eventful_busy : g.first ≡ false → lazy.IsOneBusy g.buses.bus g.tick g.lazies → IsEventful moment
  eventful_busy first b =
      inr (busy_here (subst (λ (x : Bool). IsOneBusy g.buses.bus g.tick (map (saw x) g.lazies) (now_of g).blocks) (sym first)
      (one_busy_there g.buses.bus g.tick g.lazies b)))

  pub still_idle : g.first ≡ false → g.stood ≡ false →
      AllByRecursion (λ (l : Lazy). IsIdle g.buses.bus g.tick (saw false l) (caught_up g.tick l)) g.lazies → IsStill moment
  still_idle first stood all =
      record {
        untouched = sym h.stood ∙ stood;
        idle =
            subst (λ (l : List (Option Inputs)). AreBusy moment.box.stands.bus moment.box.stands.tick l moment.box.stands.blocks 0) h.before
            (subst (λ (s : Standing). AreBusy s.bus s.tick (map (saw g.first) g.lazies) s.blocks 0) h.box.stands
            (subst (λ (x : Bool). AreBusy g.buses.bus g.tick (map (saw x) g.lazies) (now_of g).blocks 0) (sym first)
            (all_idle_there g.buses.bus g.tick g.lazies all)));
      }
