use Rattle.std.proofs.Common.{◌+◌, min, ap, ◌∙◌}
use Rattle.pb_model.proofs.EntryLemmas.{position_entry_is}
use Rattle.pb_model.proofs.shows.position_entry.Goals as goal

pub returns : goal.returns
returns c =
    ap (λ n. 4 + n) (c.min.ensures ∙ ap (λ n. min n 8) c.saturating_sub.ensures) ∙ position_entry_is c.args.place c.requires
