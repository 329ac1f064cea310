use Rattle.std.proofs.Common.{◌≡◌, ◌++◌, drop}
use Rattle.std.specs.List.{flat_map}
use Rattle.pb_pcap.specs.Fields.{size_of}
use Rattle.pb_encode.specs.Encoding.{record_line, ascii, parts}
use Rattle.pb_encode.proofs.pieces.put_lines.Given as goal

abbrev pub invariant-loop-i : goal.invariant-loop-i
invariant-loop-i l =
    l.text ++ flat_map (record_line l.is_scaled l.layout) (drop l.i (parts (size_of l.layout) l.raw))
    ≡ l.initial.text ++ ascii l.is_scaled l.layout l.raw
