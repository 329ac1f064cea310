use Rattle.std.proofs.Common.{length-append, rules}
use Rattle.pb_words.proofs.CanonicalLemmas.{whole_short}
use Rattle.pb_words.proofs.decimals.append_size.Goals as goal

pub append_fraction-requires-clause-room : goal.append_fraction-requires-clause-room
append_fraction-requires-clause-room c =
    let w = whole_short c.args.billionths c.requires.fits in
    search (rules, length-append, w)
