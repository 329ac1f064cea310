use Rattle.std.proofs.Common.{◌≡◌, ◌≤◌, sym, ap, subst, ◌∙◌, arith}
use Rattle.pb_names.specs.declared.lut.TheConstants as lut
use Rattle.pb_model.specs.Units.{value_read}
use Rattle.pb_model.specs.Settings.{read_of, block_of_slot}
use Rattle.pb_model.proofs.SettingLemmas.{read_block}
use Rattle.pb_lazy.specs.declared.Lazy.{Lazy}
use Rattle.pb_lazy.proofs.LazyLemmas.{kind_stays}
use Rattle.pb_going.specs.Sims.{Going, going, now_of}
use Rattle.pb_jump.specs.Changing.{own_of}
use Rattle.pb_jump.proofs.PlaceLemmas.{any_inside, slot_kind, slot_read}
use Rattle.pb_jump.proofs.AwakeLemmas.{stands}
use Rattle.pb_jump.proofs.sims.Sim.value.Goals as goal

pub machine-place-requires-clause-from_lut : goal.machine-place-requires-clause-from_lut
machine-place-requires-clause-from_lut c = read_block c.args.slot c.requires.slot c.requires.read

pub index-lazy-requires : goal.index-lazy-requires
index-lazy-requires c =
    let s = c.self.inside in
    let was : Going = going s.stimulus s.tick s.buses s.settings s.lazies.items s.first s.stood in
    omega (arith, any_inside was c.machine-place.result c.self.invariant.0 c.machine-place.ensures.few)

pub read-requires-clause-kind : goal.read-requires-clause-kind
read-requires-clause-kind c =
    let s = c.self.inside in
    let was : Going = going s.stimulus s.tick s.buses s.settings s.lazies.items s.first s.stood in
    let lazy : Lazy = c.index-lazy.result.now in
    let from : lut.BLOCK ≤ c.args.slot.block = read_block c.args.slot c.requires.slot c.requires.read in
    sym (kind_stays s.tick lazy)
    ∙ slot_kind was c.args.slot c.machine-place.result lazy c.self.invariant.0 c.requires.slot from c.machine-place.ensures.place c.index-lazy.ensures

pub returns-clause-value : goal.returns-clause-value
returns-clause-value c =
    let s = c.self.inside in
    let was : Going = going s.stimulus s.tick s.buses s.settings s.lazies.items s.first s.stood in
    let lazy : Lazy = c.index-lazy.result.now in
    let from : lut.BLOCK ≤ c.args.slot.block = read_block c.args.slot c.requires.slot c.requires.read in
    let own : own_of was (block_of_slot c.args.slot) ≡ was.tick =
    subst (λ (x : Going). own_of x (block_of_slot c.args.slot) ≡ x.tick) (sym c.self.view_is) c.requires.own in
    c.read.ensures.value
    ∙ (ap (λ u. value_read u c.args.slot.field)
    (stands was c.machine-place.result lazy (block_of_slot c.args.slot) c.self.invariant.0
    (any_inside was c.machine-place.result c.self.invariant.0 c.machine-place.ensures.few) c.machine-place.ensures.place c.index-lazy.ensures own)
    ∙ (slot_read was c.args.slot c.machine-place.result lazy c.self.invariant.0 c.requires.slot from c.machine-place.ensures.place c.index-lazy.ensures
    ∙ ap (λ (x : Going). read_of (now_of x).blocks c.args.slot) c.self.view_is))
