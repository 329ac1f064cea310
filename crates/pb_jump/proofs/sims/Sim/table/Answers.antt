use Rattle.std.proofs.Common.{◌-◌, sym, ap, ◌∙◌, arith}
use Rattle.pb_model.specs.Tables.{table_of}
use Rattle.pb_model.proofs.TableLemmas.{two_sequencers}
use Rattle.pb_lazy.specs.declared.Lazy.{Lazy}
use Rattle.pb_lazy.proofs.LazyLemmas.{kind_stays}
use Rattle.pb_going.specs.Sims.{Going, going, now_of}
use Rattle.pb_jump.proofs.PlaceLemmas.{any_inside, table_kind, table_here}
use Rattle.pb_jump.proofs.TableLemmas.{words_after}
use Rattle.pb_jump.proofs.sims.Sim.table.Goals as goal

pub machine-place-requires-clause-in_count : goal.machine-place-requires-clause-in_count
machine-place-requires-clause-in_count c = omega (arith, two_sequencers, c.requires.in_count)

pub index-requires : goal.index-requires
index-requires c =
    let s = c.self.inside in
    let was : Going = going s.stimulus s.tick s.buses s.settings s.lazies.items s.first s.stood in
    omega (arith, any_inside was c.machine-place.result c.self.invariant.0 c.machine-place.ensures.few)

pub rows-requires : goal.rows-requires
rows-requires c =
    let s = c.self.inside in
    let was : Going = going s.stimulus s.tick s.buses s.settings s.lazies.items s.first s.stood in
    let lazy : Lazy = c.index.result.now in
    sym (kind_stays s.tick lazy)
    ∙ table_kind was c.args.instance c.machine-place.result lazy c.self.invariant.0 c.requires.from_one c.requires.in_count
    c.machine-place.ensures.place c.index.ensures

pub returns : goal.returns
returns c =
    let s = c.self.inside in
    let was : Going = going s.stimulus s.tick s.buses s.settings s.lazies.items s.first s.stood in
    let lazy : Lazy = c.index.result.now in
    c.rows.ensures
    ∙ (sym (words_after lazy.kept lazy.own (s.tick - lazy.own) lazy.block.unit)
    ∙ (table_here was c.args.instance c.machine-place.result lazy c.self.invariant.0 c.requires.from_one c.requires.in_count
    c.machine-place.ensures.place c.index.ensures
    ∙ ap (λ (x : Going). table_of (now_of x).blocks c.args.instance) c.self.view_is))
