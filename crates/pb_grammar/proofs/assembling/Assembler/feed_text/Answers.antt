use Rattle.std.proofs.Common.{◌<◌, ◌+◌, length, arith, ap, sym, ◌∙◌}
use Rattle.std.proofs.lemmas.List.{length-take}
use Rattle.pb_grammar.specs.Feeding.{room}
use Rattle.pb_grammar.proofs.LineLemmas.{first_kept}
use Rattle.pb_grammar.proofs.assembling.Assembler.feed_text.Goals as goal

pub returns-in-First : goal.returns-in-First
returns-in-First c seen h =
    let old = c.args.self.now in
    let size = ap (λ k. length k.bytes) (sym c.self.view_is) in
    let fits : length old.bytes + length c.args.text.now < room = omega (arith, c.if-text-self.true, c.self.invariant.0, c.self.invariant.1, size, length-take c.self.inside.used c.self.inside.bytes.items) in
    first_kept old c.keep_all.new.self seen c.args.text.now (ap (λ k. k.stage) (sym c.self.view_is) ∙ c.in-First.is) c.requires fits c.keep_all.ensures h
