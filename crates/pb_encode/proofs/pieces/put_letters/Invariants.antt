use Rattle.std.proofs.Common.{◌≡◌, ◌++◌, drop}
use Rattle.std.specs.List.{flat_map}
use Rattle.pb_encode.specs.Encoding.{letters_line, letters_lines, parts}
use Rattle.pb_encode.proofs.pieces.put_letters.Given as goal

abbrev pub invariant-loop-i : goal.invariant-loop-i
invariant-loop-i l =
    l.text ++ flat_map letters_line (drop l.i (parts 76 l.letters)) ≡ l.initial.text ++ letters_lines l.letters
