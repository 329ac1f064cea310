use Rattle.std.proofs.Common.{◌≡◌, ◌≤◌, drop}
use Rattle.pb_words.specs.Numbers.{value_of, value_after}
use Rattle.pb_words.proofs.numbers.read_uint.Given as goal

abbrev pub invariant-loop-b : goal.invariant-loop-b
invariant-loop-b l =
    record {
      read : value_after l.n (drop l.b-index l.text) ≡ value_of l.text;
      fits : l.n ≤ l.limit;
    }
