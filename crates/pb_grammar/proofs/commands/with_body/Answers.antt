use Rattle.std.proofs.Common.{Some, None, ap, sym, ◌∙◌}
use Rattle.pb_grammar.specs.Grammar.{Table, body_text, opening_of}
use Rattle.pb_grammar.proofs.TableLemmas.{known_lines, without_lines}
use Rattle.pb_grammar.proofs.commands.with_body.Goals as goal

pub returns-in_default : goal.returns-in_default
returns-in_default c = sym (without_lines (opening_of c.args.opening) c.args.behind.now c.in_default.ensures.none)

pub returns-in-Some-fault : goal.returns-in-Some-fault
returns-in-Some-fault c =
    let found = c.in-Some.ensures.found in
    sym (known_lines (opening_of c.args.opening) c.args.behind.now found.0 (Some c.in-Some-fault.refusal) (sym c.if-not-is_target.ensures) found.1 found.2 (sym c.in-Some-fault.is ∙ found.3))

pub returns-in-None : goal.returns-in-None
returns-in-None c =
    let found = c.in-Some.ensures.found in
    ap (λ body. Table c.args.opening.target.now c.args.opening.append c.args.opening.base64 body) (c.without_last.ensures (body_text found.0) found.2)
    ∙ sym (known_lines (opening_of c.args.opening) c.args.behind.now found.0 None (sym c.if-not-is_target.ensures) found.1 found.2 (sym c.in-None.is ∙ found.3))
