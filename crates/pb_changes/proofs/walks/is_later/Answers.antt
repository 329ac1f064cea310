use Rattle.pb_changes.proofs.SlotLemmas.{entry_small}
use Rattle.pb_changes.proofs.walks.is_later.Goals as goal

pub changed_at-requires : goal.changed_at-requires
changed_at-requires g c =
    let small = entry_small c.args.slot c.requires in
    rw c.output_entry.ensures small
