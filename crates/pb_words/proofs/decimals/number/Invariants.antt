use Rattle.std.proofs.Common.{◌≡◌, ◌^◌, ◌<◌, drop}
use Rattle.pb_words.specs.Numbers.{value_of, value_after}
use Rattle.pb_words.proofs.decimals.number.Given as goal

abbrev pub invariant-loop-b : goal.invariant-loop-b
invariant-loop-b l =
    record {
      read : value_after l.n (drop l.b-index l.digits) ≡ value_of l.digits;
      fits : l.n < 10 ^ l.b-index;
    }
