use Rattle.std.proofs.Common.{[], ◌++◌, map, replicate, ap, ◌∙◌, codes}
use Rattle.std.specs.List.{flat_map, range_with_len}
use Rattle.pb_fields.specs.declared.FieldKind.TheVariants as kinds
use Rattle.pb_fields.specs.Values.{shown}
use Rattle.pb_replies.specs.Replies.{listed}
use Rattle.pb_replies.specs.Lists.{position_lines}
use Rattle.pb_replies.proofs.NameLemmas.{position_label_some, all_positions}
use Rattle.pb_replies.proofs.ListedLemmas.{two_lists}
use Rattle.pb_replies.proofs.lists.positions_reply.Goals as goal

pub list_shown-requires-clause-range : goal.list_shown-requires-clause-range
list_shown-requires-clause-range c raw within from = position_label_some raw within

pub returns : goal.returns
returns c =
    let used = map (shown kinds.PosMux) (range_with_len 0 12) in
    let listed_used = c.in_ok-list_shown.ensures ∙ ap (λ t. t ++ flat_map listed used) c.new-text.ensures in
    c.in_ok-end_list.ensures
    ∙ ap (λ t. t ++ codes ".\n") (c.in_ok-list_unused.ensures ∙ two_lists [] c.list_shown.new.text used (replicate 20 []) position_lines listed_used all_positions)
