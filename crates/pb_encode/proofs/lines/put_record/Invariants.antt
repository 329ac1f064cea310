use Rattle.std.proofs.Common.{◌≡◌, ◌≤◌, ◌++◌, length, drop}
use Rattle.pb_pcap.specs.Fields.{size_of}
use Rattle.pb_encode.specs.Encoding.{fields_text}
use Rattle.pb_encode.proofs.lines.put_record.Given as goal

abbrev pub invariant-loop-i : goal.invariant-loop-i
invariant-loop-i l =
    (l.text ++ fields_text l.is_scaled (drop l.i l.layout) l.rest ≡ l.initial.text ++ fields_text l.is_scaled l.layout l.record_)
    × (size_of (drop l.i l.layout) ≤ length l.rest)
