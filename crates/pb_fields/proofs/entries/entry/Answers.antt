use Rattle.std.proofs.Common.{arith, Some, None}
use Rattle.pb_fields.proofs.RunLemmas.{entry_in-below, entry_of-field}
use Rattle.pb_fields.proofs.entries.entry.Goals as goal

pub overflow_mul-result : goal.overflow_mul-result
overflow_mul-result c =
    omega (arith, entry_in-below c.args.slot c.in-Some.run' c.requires c.in-Some.ensures.found)

pub overflow_add-result : goal.overflow_add-result
overflow_add-result c =
    omega (arith, entry_in-below c.args.slot c.in-Some.run' c.requires c.in-Some.ensures.found)

pub overflow_add-result-in-Some : goal.overflow_add-result-in-Some
overflow_add-result-in-Some c =
    omega (arith, entry_in-below c.args.slot c.in-Some.run' c.requires c.in-Some.ensures.found)

pub returns-in-Some : goal.returns-in-Some
returns-in-Some c =
    entry_of-field c.args.slot (Some c.in-Some.run') c.requires c.if-slot-ne-ITSELF.false c.in-Some.ensures.found

pub returns-in-None : goal.returns-in-None
returns-in-None c = entry_of-field c.args.slot None c.requires c.if-slot-ne-ITSELF.false c.in-None.ensures.found
