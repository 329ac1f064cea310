use Rattle.std.proofs.Common.{◌≡◌, take}
use Rattle.pb_buses.specs.Buses.{number}
use Rattle.pb_buses.proofs.entries.word.Given as goal

abbrev pub invariant-loop-i : goal.invariant-loop-i
invariant-loop-i l = l.word ≡ number (take l.i l.bits)
