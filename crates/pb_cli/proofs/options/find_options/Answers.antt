use Rattle.std.proofs.Common.{ap, codes, ◌∙◌}
use Rattle.clap.specs.Walk.{first_of}
use Rattle.clap.specs.Matches.{found_of}
use Rattle.clap.proofs.WalkLemmas.{first_value-rows}
use Rattle.pb_cli.proofs.ServeLemmas.{serve_is_simple}
use Rattle.pb_cli.proofs.options.find_options.Goals as goal

pub returns-in-Ok-clause-control : goal.returns-in-Ok-clause-control
returns-in-Ok-clause-control c =
    c.get_str.ensures ∙ (first_value-rows (found_of c.in-Ok.matches) (codes "control") ∙ ap (first_of (codes "control")) (c.in-Ok.ensures.matches serve_is_simple).0)

pub returns-in-Ok-clause-records : goal.returns-in-Ok-clause-records
returns-in-Ok-clause-records c =
    c.get_str-in-Ok.ensures ∙ (first_value-rows (found_of c.in-Ok.matches) (codes "data") ∙ ap (first_of (codes "data")) (c.in-Ok.ensures.matches serve_is_simple).0)
