use Rattle.std.proofs.Common.{◌≡◌, ℕ, ◌<◌, ◌≤◌, [], length, get_or}
use Rattle.pb_grammar.specs.Feeding.{Fed, nothing}
use Rattle.pb_replay.proofs.assemblers.Assemblers.new.Given as goal

abbrev pub invariant-loop-session : goal.invariant-loop-session
invariant-loop-session l =
    record {
      so_many : length l.each.items ≡ l._session;
      fed : (i : ℕ) → i < l._session → Fed (get_or l.each.items i nothing) [];
      within : l._session ≤ 8;
    }
