use Rattle.std.proofs.Common.{◌<◌, IfSome, subst, sym, ◌∙◌}
use Rattle.pb_fields.proofs.BlockNameLemmas.{block_found_by_name, block_within}
use Rattle.pb_fields.proofs.finding.Catalog.block_with.Goals as goal

pub returns-clause-named : goal.returns-clause-named
returns-clause-named c =
    c.copied.ensures
    ∙ c.get.ensures.value
    ∙ block_found_by_name c.args.stem.now c.args.self.now.names.entries c.args.self.now.placed

pub returns-clause-block : goal.returns-clause-block
returns-clause-block c = subst (λ r. IfSome r (λ b. b < 12)) (sym (returns-clause-named c)) (block_within c.args.stem.now)
