use Rattle.std.proofs.Common.{◌≡◌, length, ap, ◌∙◌}
use Rattle.pb_config.specs.Numbers.{none_of}
use Rattle.pb_config.proofs.NumberLemmas.{none_length}
use Rattle.pb_config.proofs.numbers.Numbers.new.Goals as goal

pub invariant_of-result : goal.invariant_of-result
invariant_of-result c =
    let all : c.in_ok-last.last.items ≡ none_of 14112 = c.in_ok-last.ensures in
    ap length all ∙ none_length 14112
