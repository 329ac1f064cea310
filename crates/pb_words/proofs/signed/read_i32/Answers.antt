use Rattle.std.proofs.Common.{arith}
use Rattle.std.proofs.lemmas.Result.{err_from_is_err_and}
use Rattle.std.proofs.lemmas.Int.{to_z-of_z}
use Rattle.pb_words.proofs.SignedLemmas.{reads, reads_fault}
use Rattle.pb_words.proofs.signed.read_i32.Goals as goal

pub returns-in_err-n : goal.returns-in_err-n
returns-in_err-n c =
    let p = err_from_is_err_and c.from_residual.result c.from_residual.ensures.1 in
    rw (p.1, p.2)
    (reads_fault c.args.text.now c.cut_sign-sign.result.1.now c.cut_sign-sign.result.0 c.cut_sign-sign.ensures.cut _ _ c.most.ensures c.cut_sign-sign.ensures.only c.in_err-n.ensures)

pub returns : goal.returns
returns c =
    reads c.args.text.now c.cut_sign-sign.result.1.now c.cut_sign-sign.result.0 c.cut_sign-sign.ensures.cut c.in_ok-n.n _ (c.in_ok-n.ensures).0 (grind (arith, to_z-of_z))
