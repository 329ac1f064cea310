use Rattle.std.proofs.Common.{arith}
use Rattle.pb_tables.proofs.EncodingCuts.{whole_or_not}
use Rattle.pb_tables.proofs.decoding.decode_whole.Goals as goal

pub returns-in-Some : goal.returns-in-Some
returns-in-Some c = whole_or_not c.args.letters.now c.decode.new.out c.in-Some.n (omega arith) c.in-Some.ensures.some
