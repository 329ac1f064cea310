use Rattle.std.proofs.Common.{◌*◌, ◌-◌, [], ◌++◌, map, replicate, min, ap, ◌∙◌, arith, codes}
use Rattle.std.specs.List.{flat_map, range_with_len}
use Rattle.pb_fields.specs.declared.FieldKind.TheVariants as kinds
use Rattle.pb_fields.specs.Values.{shown}
use Rattle.pb_replies.specs.Replies.{listed}
use Rattle.pb_replies.specs.Lists.{word_lines}
use Rattle.pb_replies.proofs.NameLemmas.{bit_label_some, word_shown}
use Rattle.pb_replies.proofs.ListedLemmas.{two_lists}
use Rattle.pb_replies.proofs.lists.word_reply.Goals as goal

pub list_shown-requires-clause-range : goal.list_shown-requires-clause-range
list_shown-requires-clause-range c raw within from = bit_label_some raw (omega arith)

pub returns : goal.returns
returns c =
    let word = c.args.word in
    let used = c.min-used.result in
    let names = map (shown kinds.BitMux) (range_with_len (32 * word) used) in
    let listed_names = c.in_ok-list_shown.ensures ∙ ap (λ t. t ++ flat_map listed names) c.new-text.ensures in
    let all = word_shown word used c.requires (c.min-used.ensures ∙ ap (λ n. min n 32) c.saturating_sub.ensures) in
    c.in_ok-end_list.ensures
    ∙ ap (λ t. t ++ codes ".\n") (c.in_ok-list_unused.ensures ∙ two_lists [] c.list_shown.new.text names (replicate (32 - used) []) (word_lines word) listed_names all)
