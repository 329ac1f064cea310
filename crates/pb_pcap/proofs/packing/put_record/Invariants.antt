use Rattle.std.proofs.Common.{◌≡◌, ◌+◌, ◌≤◌, ◌++◌, vec_len, drop}
use Rattle.std.specs.Vec.{vec_capacity}
use Rattle.pb_pcap.specs.Fields.{size_of}
use Rattle.pb_pcap.specs.Records.{record_bytes}
use Rattle.pb_pcap.proofs.packing.put_record.Given as goal

abbrev pub invariant-loop-field : goal.invariant-loop-field
invariant-loop-field l =
    record {
      items : l.bytes.items ++ record_bytes (drop l.field-index l.fields) l.row ≡ l.initial.bytes.items ++ record_bytes l.fields l.row;
      len : vec_len l.bytes + size_of (drop l.field-index l.fields) ≡ vec_len l.initial.bytes + size_of l.fields;
      room : vec_len l.initial.bytes + size_of l.fields ≤ vec_capacity l.bytes;
      capacity : vec_capacity l.initial.bytes ≤ vec_capacity l.bytes;
    }
