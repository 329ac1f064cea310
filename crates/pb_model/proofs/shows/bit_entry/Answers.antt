use Rattle.pb_model.proofs.EntryLemmas.{bit_entries, bit_entry_is}
use Rattle.pb_model.proofs.shows.bit_entry.Goals as goal

pub returns : goal.returns
unfolding bit_entries
returns c = bit_entry_is c.args.place c.requires
