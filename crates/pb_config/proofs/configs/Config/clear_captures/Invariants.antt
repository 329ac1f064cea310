use Rattle.std.proofs.Common.{◌≡◌, ◌-◌, [], ◌++◌, map}
use Rattle.std.specs.List.{range_with_len}
use Rattle.pb_config.specs.KeptConfig.{with_clearing}
use Rattle.pb_config.proofs.CapturingLemmas.{positions, own, with_cleared}
use Rattle.pb_config.proofs.configs.Config.clear_captures.Given as goal

-- With the slots still to come all are cleared.
abbrev pub invariant-loop-entry : goal.invariant-loop-entry
invariant-loop-entry l =
    with_cleared (map positions (range_with_len l.entry (12 - l.entry)) ++ map own (range_with_len 32 8)) l.self ≡ with_clearing l.fn.self

abbrev pub invariant-loop-entry-2 : goal.invariant-loop-entry-2
invariant-loop-entry-2 l =
    with_cleared (map own (range_with_len l.entry (40 - l.entry)) ++ []) l.self ≡ with_clearing l.fn.self
