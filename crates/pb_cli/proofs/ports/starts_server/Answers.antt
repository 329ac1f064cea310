use Rattle.pb_cli.proofs.WordLemmas.{first_word}
use Rattle.pb_cli.proofs.ports.starts_server.Goals as goal

pub returns-in-len1-up : goal.returns-in-len1-up
returns-in-len1-up c =
    first_word c.args.words.now c.first-item.result c.bytes.result.now c.as_slice.result.now c.eq.result c.in-len1-up.len_at_least c.first-item.is c.bytes.ensures c.as_slice.ensures c.eq.ensures
