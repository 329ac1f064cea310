use Rattle.std.proofs.Common.{rules, refl}
use Rattle.pb_grammar.proofs.ScanLemmas.{newline_scanned}
use Rattle.pb_grammar.proofs.scanning.Scan.at_newline.Goals as goal

pub returns : goal.returns
returns c body h =
    newline_scanned c.args.self _ body c.requires (search rules) refl refl c.fault_at_newline.ensures h
