use Rattle.std.proofs.Common.{◌≡◌, ℕ, ◌^◌, ◌<◌, get_or, drop}
use Rattle.std.specs.Char.{digit_value}
use Rattle.std.specs.Str.Parse.{digits_value, digits_value_after}
use Rattle.pb_lut.proofs.functions.read_hex.Given as goal

abbrev pub invariant-loop-c : goal.invariant-loop-c
invariant-loop-c l =
    record {
      value : digits_value_after 16 l.n (drop l.c-index l.digits) ≡ digits_value 16 l.digits;
      small : l.n < 16 ^ l.c-index;
      each : (k : ℕ) → k < l.c-index → digit_value (get_or l.digits k 0) < 16;
    }
