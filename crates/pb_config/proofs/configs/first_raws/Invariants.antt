use Rattle.std.proofs.Common.{◌≡◌}
use Rattle.pb_config.specs.Defaults.{first_raws}
use Rattle.pb_config.proofs.configs.first_raws.Given as goal

abbrev pub invariant-loop-place : goal.invariant-loop-place
invariant-loop-place l = l.raws.items ≡ first_raws l.place
