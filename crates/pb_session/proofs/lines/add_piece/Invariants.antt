use Rattle.std.proofs.Common.{◌≡◌, ◌++◌, take}
use Rattle.pb_session.specs.Options.{IsUnfinished}
use Rattle.pb_session.proofs.lines.add_piece.Given as goal

abbrev pub invariant-loop-byte : goal.invariant-loop-byte
invariant-loop-byte l = record { is : l.line ≡ l.fn.line ++ take l.byte-index l.piece; unfinished : IsUnfinished l.line }
