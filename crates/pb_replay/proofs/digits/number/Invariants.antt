use Rattle.std.proofs.Common.{◌≡◌, ◌≤◌, drop}
use Rattle.pb_words.specs.Numbers.{value_of, value_after}
use Rattle.pb_replay.proofs.DigitLemmas.{nines}
use Rattle.pb_replay.proofs.digits.number.Given as goal

abbrev pub invariant-loop-b : goal.invariant-loop-b
invariant-loop-b l =
    record {
      read : value_after l.n (drop l.b-index l.digits) ≡ value_of l.digits;
      fits : l.n ≤ nines l.b-index;
    }
