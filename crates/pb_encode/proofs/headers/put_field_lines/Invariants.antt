use Rattle.std.proofs.Common.{◌≡◌, ◌++◌, drop}
use Rattle.std.specs.List.{flat_map}
use Rattle.pb_encode.specs.Encoding.{number_line}
use Rattle.pb_encode.proofs.headers.put_field_lines.Given as goal

abbrev pub invariant-loop-quantity : goal.invariant-loop-quantity
invariant-loop-quantity l =
    l.text ++ flat_map (number_line l.is_scaled l.field) (drop l.quantity-index l.quantity-items)
    ≡ l.initial.text ++ flat_map (number_line l.is_scaled l.field) l.quantity-items
