use Rattle.std.proofs.Common.{◌<◌, sym, subst}
use Rattle.pb_encode.proofs.PartLemmas.{some_size, some_field}
use Rattle.pb_encode.proofs.pieces.record_size.Goals as goal

pub returns-clause-some : goal.returns-clause-some
returns-clause-some c =
    subst (λ n. 0 < n) (sym c.size.ensures.value)
    (some_size c.args.layout.now c.field-first.result (some_field c.args.layout.now c.requires)
    (c.field-first.ensures.value c.field-first.result) c.field-first.ensures.is_field)
