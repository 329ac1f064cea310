use Rattle.std.proofs.Common.{length}
use Rattle.pb_tables.proofs.ReadSoFar.{AreRead}
use Rattle.pb_tables.proofs.drafts.Draft.read_numbers.Given as goal

abbrev pub invariant-loop-digits : goal.invariant-loop-digits
invariant-loop-digits l = AreRead l.body l.rest l.self l.fits

abbrev pub decreases-loop-digits : goal.decreases-loop-digits
decreases-loop-digits l = length l.rest
