use Rattle.std.proofs.Common.{◌≡◌, ◌≤◌, ◌++◌, length, drop}
use Rattle.pb_encode.specs.Encoding.{numbers_text}
use Rattle.pb_encode.specs.Sizes.{numbers_size}
use Rattle.pb_encode.proofs.lines.put_field.Given as goal

abbrev pub invariant-loop-quantity : goal.invariant-loop-quantity
invariant-loop-quantity l =
    (l.text ++ numbers_text l.is_scaled l.field (drop l.quantity-index l.quantity-items) l.rest
    ≡ l.initial.text ++ numbers_text l.is_scaled l.field l.quantity-items l.bytes)
    × (numbers_size l.field.entry (drop l.quantity-index l.quantity-items) ≤ length l.rest)
    × (drop (numbers_size l.field.entry (drop l.quantity-index l.quantity-items)) l.rest
    ≡ drop (numbers_size l.field.entry l.quantity-items) l.bytes)
