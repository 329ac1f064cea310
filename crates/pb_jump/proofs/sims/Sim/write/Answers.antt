use Rattle.std.proofs.Common.{◌≡◌, ◌<◌, ◌||◌, ℕ, Bool, List, length, sym, ap, subst, ◌∙◌, arith, Result}
use Rattle.pb_words.specs.declared.Refusal.{Refusal}
use Rattle.pb_tables.specs.Computed.{written, answer_of}
use Rattle.pb_model.specs.Units.{words_of}
use Rattle.pb_model.specs.Tables.{sequencer, table_of}
use Rattle.pb_model.proofs.TableLemmas.{two_sequencers}
use Rattle.pb_lazy.specs.declared.Lazy.{Lazy}
use Rattle.pb_lazy.specs.Lazy.{unit_at, IsSound}
use Rattle.pb_lazy.specs.Commands.{written_lazy}
use Rattle.pb_lazy.proofs.LazyLemmas.{kind_stays}
use Rattle.pb_going.specs.Sims.{Going, going, now_of}
use Rattle.pb_jump.specs.Changing.{IsWritten}
use Rattle.pb_jump.proofs.PlaceLemmas.{any_inside, lazy_sound, table_kind, table_here}
use Rattle.pb_jump.proofs.DoneLemmas.{IsOne, with_one, write_one, write_going, stood_told}
use Rattle.pb_jump.proofs.sims.Sim.write.Goals as goal

pub machine-place-requires-clause-in_count : goal.machine-place-requires-clause-in_count
machine-place-requires-clause-in_count g c = omega (arith, two_sequencers, c.requires.in_count)

pub index_mut-lazy-requires : goal.index_mut-lazy-requires
index_mut-lazy-requires g c =
    let s = c.self.inside in
    let was : Going = going s.stimulus s.tick s.buses s.settings s.lazies.items s.first s.stood in
    omega (arith, any_inside was c.machine-place.result c.self.invariant.0 c.machine-place.ensures.few)

pub write-told-requires-clause-kind : goal.write-told-requires-clause-kind
write-told-requires-clause-kind g c =
    let s = c.self.inside in
    let was : Going = going s.stimulus s.tick s.buses s.settings s.lazies.items s.first s.stood in
    let inside : c.machine-place.result < length s.lazies.items =
    any_inside was c.machine-place.result c.self.invariant.0 c.machine-place.ensures.few in
    let lazy : Lazy = c.index_mut-lazy.result.now in
    let sound : IsSound s.tick s.first lazy = lazy_sound was c.machine-place.result lazy c.self.invariant.0 inside c.index_mut-lazy.ensures.value in
    sym (kind_stays s.tick lazy)
    ∙ table_kind was c.args.instance c.machine-place.result lazy c.self.invariant.0 c.requires.from_one c.requires.in_count
    c.machine-place.ensures.place c.index_mut-lazy.ensures.value

pub write-told-requires-clause-own : goal.write-told-requires-clause-own
write-told-requires-clause-own g c =
    let s = c.self.inside in
    let was : Going = going s.stimulus s.tick s.buses s.settings s.lazies.items s.first s.stood in
    let inside : c.machine-place.result < length s.lazies.items =
    any_inside was c.machine-place.result c.self.invariant.0 c.machine-place.ensures.few in
    let lazy : Lazy = c.index_mut-lazy.result.now in
    let sound : IsSound s.tick s.first lazy = lazy_sound was c.machine-place.result lazy c.self.invariant.0 inside c.index_mut-lazy.ensures.value in
    sound.own

pub write-told-requires-clause-calm : goal.write-told-requires-clause-calm
write-told-requires-clause-calm g c =
    let s = c.self.inside in
    let was : Going = going s.stimulus s.tick s.buses s.settings s.lazies.items s.first s.stood in
    let inside : c.machine-place.result < length s.lazies.items =
    any_inside was c.machine-place.result c.self.invariant.0 c.machine-place.ensures.few in
    let lazy : Lazy = c.index_mut-lazy.result.now in
    let sound : IsSound s.tick s.first lazy = lazy_sound was c.machine-place.result lazy c.self.invariant.0 inside c.index_mut-lazy.ensures.value in
    sound.calm

pub invariant_of-self : goal.invariant_of-self
invariant_of-self g c =
    let s = c.self.inside in
    let was : Going = going s.stimulus s.tick s.buses s.settings s.lazies.items s.first s.stood in
    let lazy : Lazy = c.index_mut-lazy.result.now in
    let is : IsOne was c.machine-place.result lazy (sequencer c.args.instance) c.args.steps.now c.write-told.new.steps =
    record {
      kept = c.self.invariant.0;
      inside = any_inside was c.machine-place.result c.self.invariant.0 c.machine-place.ensures.few;
      named = c.machine-place.ensures.place;
      here = c.index_mut-lazy.ensures.value;
      one = c.write-told.ensures.one;
      none = c.write-told.ensures.none;
    } in (
      write_going was c.args.instance c.machine-place.result lazy c.args.steps.now c.write-told.new.steps is
          (written (words_of (unit_at s.tick lazy)) c.args.append c.args.base64 c.args.body.now) c.write-told.new.self c.write-told.ensures.left
          (s.stood || c.is_ok.result),
      c.self.invariant.1,
    )

pub returns : goal.returns
returns g c =
    let s = c.self.inside in
    let was : Going = going s.stimulus s.tick s.buses s.settings s.lazies.items s.first s.stood in
    let lazy : Lazy = c.index_mut-lazy.result.now in
    let is : IsOne was c.machine-place.result lazy (sequencer c.args.instance) c.args.steps.now c.write-told.new.steps =
    record {
      kept = c.self.invariant.0;
      inside = any_inside was c.machine-place.result c.self.invariant.0 c.machine-place.ensures.few;
      named = c.machine-place.ensures.place;
      here = c.index_mut-lazy.ensures.value;
      one = c.write-told.ensures.one;
      none = c.write-told.ensures.none;
    } in
    let here : words_of (unit_at s.tick lazy) ≡ table_of (now_of c.args.self.now).blocks c.args.instance =
    table_here was c.args.instance c.machine-place.result lazy c.self.invariant.0 c.requires.from_one c.requires.in_count
    c.machine-place.ensures.place c.index_mut-lazy.ensures.value
    ∙ ap (λ (x : Going). table_of (now_of x).blocks c.args.instance) c.self.view_is in
    let told = c.write-told.ensures.told ∙ ap (λ ws. answer_of (written ws c.args.append c.args.base64 c.args.body.now)) here in
    let words : Result (List ℕ) Refusal = written (table_of (now_of c.args.self.now).blocks c.args.instance) c.args.append c.args.base64 c.args.body.now in
    let stood : Bool = s.stood || c.is_ok.result in
    let new : Going = with_one was c.machine-place.result c.write-told.new.self s.settings stood in
    record {
      told = told;
      left =
          subst (λ (x : Going). IsWritten c.args.instance words x new c.args.steps.now c.write-told.new.steps) c.self.view_is
          (write_one was c.args.instance c.machine-place.result lazy c.args.steps.now c.write-told.new.steps is words c.write-told.new.self
          (c.write-told.ensures.left ∙ ap (λ ws. written_lazy s.tick (written ws c.args.append c.args.base64 c.args.body.now) lazy) here) stood
          (ap (λ (b : Bool). s.stood || b) c.is_ok.ensures.value ∙ stood_told s.stood c.write-told.result words told));
    }
