use Rattle.std.proofs.Common.{ap, ◌∙◌}
use Rattle.pb_model.specs.Tick.{kind_of}
use Rattle.pb_lazy.specs.declared.lazies.Lazy.{Lazy}
use Rattle.pb_lazy.proofs.LazyLemmas.{kind_stays}
use Rattle.pb_lazy.proofs.lazies.Lazy.arm.Goals as goal

pub arm-requires-clause-kind : goal.arm-requires-clause-kind
arm-requires-clause-kind g c =
    ap (λ (l : Lazy). kind_of l.block) c.catch_up.ensures.left ∙ (kind_stays c.args.tick c.args.self.now ∙ c.requires.kind)
