use Rattle.std.proofs.Common.{◌≡◌, ◌++◌, drop}
use Rattle.std.specs.List.{flat_map}
use Rattle.pb_encode.specs.Encoding.{field_lines}
use Rattle.pb_encode.proofs.headers.put_fields.Given as goal

abbrev pub invariant-loop-i : goal.invariant-loop-i
invariant-loop-i l =
    l.text ++ flat_map (field_lines l.is_scaled) (drop l.i l.layout) ≡ l.initial.text ++ flat_map (field_lines l.is_scaled) l.layout
