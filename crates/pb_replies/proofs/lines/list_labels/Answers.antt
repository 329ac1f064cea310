use Rattle.std.proofs.Common.{◌≡◌, ℕ, List, ◌++◌, map, subst, ◌∙◌, OnOk}
use Rattle.std.specs.List.{flat_map, range_with_len}
use Rattle.pb_fields.specs.declared.FieldKind.TheVariants as kinds
use Rattle.pb_fields.specs.Values.{shown}
use Rattle.pb_replies.specs.Replies.{listed}
use Rattle.pb_replies.proofs.NameLemmas.{enum_labels, mux_labels, shown_bits, shown_positions, bit_label_some, position_label_some}
use Rattle.pb_replies.proofs.ListedLemmas.{two_lists}
use Rattle.pb_replies.proofs.lines.list_labels.Goals as goal

pub list_shown-requires-in-BitMux-2-clause-range : goal.list_shown-requires-in-BitMux-2-clause-range
list_shown-requires-in-BitMux-2-clause-range c raw within from = bit_label_some raw within

pub list_shown-requires-in-PosMux-2-clause-range : goal.list_shown-requires-in-PosMux-2-clause-range
list_shown-requires-in-PosMux-2-clause-range c raw within from = position_label_some raw within

pub returns-in-Enum : goal.returns-in-Enum
returns-in-Enum c =
    let P : List (List ℕ) → Type 0 = λ ls. OnOk c.list_shown.result (c.list_shown.new.text ≡ c.args.text.now ++ flat_map listed ls) in
    subst P (enum_labels c.args.kind c.in-Enum.labels c.label_count.result c.in-Enum.is c.label_count.ensures) c.list_shown.ensures

pub returns-in_ok-list_shown-in-BitMux : goal.returns-in_ok-list_shown-in-BitMux
returns-in_ok-list_shown-in-BitMux c =
    let P : List ℕ → Type 0 = λ t. OnOk c.list_shown-in-BitMux-2.result (c.list_shown-in-BitMux-2.new.text ≡ t) in
    subst P
    (two_lists c.args.text.now c.list_shown-in-BitMux.new.text (map (shown kinds.BitMux) (range_with_len 128 2)) (map (shown kinds.BitMux) (range_with_len 0 63)) _ c.in_ok-list_shown-in-BitMux.ensures (shown_bits ∙ mux_labels c.args.kind kinds.BitMux c.in-BitMux.is))
    c.list_shown-in-BitMux-2.ensures

pub returns-in_ok-list_shown-in-PosMux : goal.returns-in_ok-list_shown-in-PosMux
returns-in_ok-list_shown-in-PosMux c =
    let P : List ℕ → Type 0 = λ t. OnOk c.list_shown-in-PosMux-2.result (c.list_shown-in-PosMux-2.new.text ≡ t) in
    subst P
    (two_lists c.args.text.now c.list_shown-in-PosMux.new.text (map (shown kinds.PosMux) (range_with_len 32 1)) (map (shown kinds.PosMux) (range_with_len 0 12)) _ c.in_ok-list_shown-in-PosMux.ensures (shown_positions ∙ mux_labels c.args.kind kinds.PosMux c.in-PosMux.is))
    c.list_shown-in-PosMux-2.ensures
