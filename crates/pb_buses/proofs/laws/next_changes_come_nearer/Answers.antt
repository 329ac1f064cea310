use Rattle.pb_buses.proofs.NextChangeLemmas.{later-twice, nearer, still_none, latest_is}
use Rattle.pb_buses.proofs.laws.next_changes_come_nearer.Goals as goal

pub returns : goal.returns
returns c = record { parts = later-twice; nearer = nearer; none = still_none; latest = latest_is }
