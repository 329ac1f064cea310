use Rattle.pb_turn.proofs.Calls.{same_entries}
use Rattle.pb_turn.proofs.laws.joined_passes_have_seen_both.Goals as goal

pub returns : goal.returns
returns g c a b history mine theirs p q m t = (same_entries a history mine p m, same_entries b history theirs q t)
