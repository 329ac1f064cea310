use Rattle.std.proofs.Common.{refl}
use Rattle.std.specs.Fmt.{digits}
use Rattle.pb_words.specs.Decimals.{canonical, places}
use Rattle.pb_fields.specs.Catalogue.{catalogue}
use Rattle.pb_fields.specs.Entries.{pos_entries}
use Rattle.pb_encode.specs.Encoding.{entry_name}
use Rattle.pb_encode.proofs.laws.headers_by_example.Goals as goal

pub returns : goal.returns
unfolding digits canonical places catalogue pos_entries entry_name
returns c = record { plain = refl; in_units = refl; size = refl }
