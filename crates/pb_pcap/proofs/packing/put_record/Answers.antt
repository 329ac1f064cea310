use Rattle.std.proofs.Common.{arith}
use Rattle.pb_pcap.proofs.PackingLemmas.{named_at, room_for}
use Rattle.pb_pcap.proofs.packing.put_record.Goals as goal

pub put_field-requires-clause-named : goal.put_field-requires-clause-named
put_field-requires-clause-named c = named_at c.args.fields.now c.loop-field.field-index _ c.requires.fields (omega arith)

pub put_field-requires-clause-room : goal.put_field-requires-clause-room
put_field-requires-clause-room c =
    room_for c.args.fields.now c.loop-field.field-index _ _ _ _ (omega arith) c.loop-field.invariant.len
    c.loop-field.invariant.room
