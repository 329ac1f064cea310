use Rattle.std.proofs.Common.{◌%◌, get_or, sym, ap, ◌∙◌}
use Rattle.byteorder.specs.Endian.{little_bytes}
use Rattle.pb_replies.proofs.TableLemmas.{byte_there}
use Rattle.pb_replies.proofs.tables.byte.Goals as goal

pub returns : goal.returns
returns c =
    ap (λ l. get_or l (c.args.i % 4) 0) (c.to_le_bytes.ensures ∙ ap (little_bytes 4) c.word.ensures)
    ∙ sym (byte_there c.args.rows.now c.args.i c.requires)
