use Rattle.std.proofs.Common.{◌∙◌, ap, sym, subst, arith, Option, IfSome}
use Rattle.pb_fields.specs.declared.slots.Slot.{Slot}
use Rattle.pb_fields.specs.Slots.{IsSlot}
use Rattle.pb_fields.proofs.EntryLaws.{at_entry-slot}
use Rattle.std.specs.Option.{option_map}
use Rattle.pb_fields.proofs.RunLemmas.{slot_in, at_entry_by_run}
use Rattle.pb_fields.proofs.entries.at_entry.Goals as goal

pub returns-in-Some-clause-output : goal.returns-in-Some-clause-output
returns-in-Some-clause-output c =
    ap (option_map (slot_in c.args.entry)) c.in-Some.ensures.found ∙ at_entry_by_run c.args.entry (omega arith)

pub returns-in-None-clause-output : goal.returns-in-None-clause-output
returns-in-None-clause-output c =
    ap (option_map (slot_in c.args.entry)) c.in-None.ensures.found ∙ at_entry_by_run c.args.entry (omega arith)

pub returns-in-Some-clause-slot : goal.returns-in-Some-clause-slot
returns-in-Some-clause-slot c =
    let P : Option Slot → Type 0 = λ o. IfSome o (λ s. IsSlot s) in
    let e = ap (option_map (slot_in c.args.entry)) c.in-Some.ensures.found ∙ at_entry_by_run c.args.entry (omega arith) in
    subst P (sym e) (at_entry-slot c.args.entry (omega arith))
