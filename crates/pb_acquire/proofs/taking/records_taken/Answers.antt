use Rattle.std.proofs.Common.{rules}
use Rattle.pb_acquire.proofs.CutLemmas.{whole_parts, piece_is}
use Rattle.pb_acquire.proofs.taking.records_taken.Goals as goal

pub piece-requires-clause-whole : goal.piece-requires-clause-whole
piece-requires-clause-whole c = rw c.layout-2.ensures.value (whole_parts _ _ c.next_count-count.result c.cut-raw.ensures.len)

pub returns : goal.returns
returns c = λ own is.
    piece_is c.args.reader.now c.after_records.result own c.args.records.now.layout c.args.records.now.bytes c.cut-raw.result.now c.in_ok-text.text
    c.args.records.now.count c.next_count-count.result is.by_layout is.as_bytes is.so_many (search rules) c.cut-raw.ensures.value (search rules) c.after_records.ensures
