use Rattle.std.proofs.Common.{refl}
use Rattle.std.specs.Fmt.{digits}
use Rattle.pb_grammar.specs.Grammar.{command_of, said_in, is_target, names_in}
use Rattle.pb_encode.specs.Choosing.{options_of}
use Rattle.pb_core.specs.Naming.{named_by}
use Rattle.pb_core.proofs.examples.sessions_by_example.Goals as goal

pub returns : goal.returns
unfolding digits command_of said_in is_target names_in options_of named_by
returns c = record { listed = refl; closed = refl; gone = refl; not_open = refl; not_refused = refl; not_reading = (refl, refl) }
