use Rattle.std.proofs.Common.{◌≡◌}
use Rattle.pb_config.specs.Defaults.{first_texts}
use Rattle.pb_config.proofs.configs.first_texts.Given as goal

abbrev pub invariant-loop-instance : goal.invariant-loop-instance
invariant-loop-instance l = l.texts.items ≡ first_texts l.instance
