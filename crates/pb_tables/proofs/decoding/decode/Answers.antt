use Rattle.std.proofs.Common.{take, arith}
use Rattle.base64.specs.Engines.{standard}
use Rattle.base64.proofs.EngineFacts.{decode_of_iff, decode_of_strict}
use Rattle.pb_tables.proofs.EncodingCuts.{strict, IsBytes-take}
use Rattle.pb_tables.proofs.decoding.decode.Goals as goal

pub returns-in-Ok-clause-some : goal.returns-in-Ok-clause-some
returns-in-Ok-clause-some c =
    record {
      few = omega (arith, c.in-Ok.ensures.ok.2);
      bytes = IsBytes-take c.in-Ok.n c.decode_slice_unchecked.new.output (λ i. let f = c.type_inv.out i in omega arith);
      printed = decode_of_strict standard c.args.letters.now (take c.in-Ok.n c.decode_slice_unchecked.new.output) strict (λ i. let f = c.type_inv.letters i in omega arith) c.in-Ok.ensures.ok.0;
    }

pub returns-in-Err-clause-none : goal.returns-in-Err-clause-none
returns-in-Err-clause-none c bytes low e =
    let ok = (decode_of_iff standard c.args.letters.now bytes strict (λ i. let f = c.type_inv.letters i in omega arith) low).1 e in
    let err = c.in-Err.ensures.err in
    cc
