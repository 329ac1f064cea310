use Rattle.std.proofs.Common.{refl, sym, subst, ◌∙◌}
use Rattle.pb_tables.specs.Computed.{written}
use Rattle.pb_model.specs.Tables.{table_of}
use Rattle.pb_going.specs.Sims.{now_of}
use Rattle.pb_core.specs.Kept.{KeptCore, Agrees}
use Rattle.pb_core.proofs.CoreLemmas.{noted_ok, noted_err, table_stands}
use Rattle.pb_core.proofs.cores.Core.write_table.Goals as goal

pub returns-in-Ok-clause-core : goal.returns-in-Ok-clause-core
returns-in-Ok-clause-core g c = λ core h.
    let inside = c.self.inside in
    let kept : KeptCore = record { config = inside.config; sim = inside.sim; sessions = inside.sessions; acquisitions = inside.acquisitions } in
    let next : KeptCore = record { config = c.note.new.self; sim = c.write_table.new.self; sessions = inside.sessions; acquisitions = inside.acquisitions } in
    table_stands kept next core c.args.slot c.args.append c.args.base64 c.args.body.now c.requires.slot
    (noted_ok (written (table_of (now_of inside.sim).blocks c.args.slot.instance) c.args.append c.args.base64 c.args.body.now) inside.config c.note.new.self c.args.slot
    (sym c.in-Ok.is ∙ c.write_table.ensures.told) c.note.ensures)
    refl refl c.write_table.ensures.agrees (subst (λ k. Agrees k core) (sym c.self.view_is) h)

pub returns-in-Err-clause-core : goal.returns-in-Err-clause-core
returns-in-Err-clause-core g c = λ core h.
    let inside = c.self.inside in
    let kept : KeptCore = record { config = inside.config; sim = inside.sim; sessions = inside.sessions; acquisitions = inside.acquisitions } in
    let next : KeptCore = record { config = inside.config; sim = c.write_table.new.self; sessions = inside.sessions; acquisitions = inside.acquisitions } in
    table_stands kept next core c.args.slot c.args.append c.args.base64 c.args.body.now c.requires.slot
    (noted_err (written (table_of (now_of inside.sim).blocks c.args.slot.instance) c.args.append c.args.base64 c.args.body.now) inside.config inside.config c.args.slot c.in-Err.reason
    (sym c.in-Err.is ∙ c.write_table.ensures.told) refl)
    refl refl c.write_table.ensures.agrees (subst (λ k. Agrees k core) (sym c.self.view_is) h)
