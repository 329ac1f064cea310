use Rattle.std.proofs.Common.{take, ap, arith}
use Rattle.pb_tables.proofs.TableLemmas.{found_bad, none_bad}
use Rattle.pb_tables.proofs.drafts.Draft.check.Goals as goal

pub returns-in-Some-clause-err : goal.returns-in-Some-clause-err
returns-in-Some-clause-err c words h =
    found_bad c.args.self.now words (take c.args.self.now.count c.deref.result.now) c.args.before c.in-Some.field-0 h (omega arith) c.requires (omega arith)
    (ap (λ items. take c.args.self.now.count items) c.deref.ensures.value) c.in-Some.ensures.some

pub returns-in-None-clause-ok : goal.returns-in-None-clause-ok
returns-in-None-clause-ok c words h =
    none_bad c.args.self.now words (take c.args.self.now.count c.deref.result.now) c.args.before h (omega arith) c.requires (omega arith)
    (ap (λ items. take c.args.self.now.count items) c.deref.ensures.value) c.in-None.ensures.none
