use Rattle.std.proofs.Common.{◌≡◌, ◌+◌, ◌-◌, ◌/◌, ◌^◌, ◌<◌, ◌≤◌, ◌++◌, length}
use Rattle.pb_words.specs.Decimals.{places}
use Rattle.pb_words.proofs.decimals.append_places.Given as goal

abbrev pub invariant-loop-place : goal.invariant-loop-place
invariant-loop-place l =
    record {
      written : l.line ++ places (9 - l._place) l.rest ≡ l.fn.line ++ places 9 l.billionths;
      room : length l.line ≤ 32 + l._place;
      less : l.rest < 10 ^ (9 - l._place);
      unit : l.unit ≡ 10 ^ (9 - l._place) / 10;
    }
