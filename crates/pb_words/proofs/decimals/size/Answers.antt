use Rattle.std.proofs.Common.{◌≡◌, ◌≤◌, ◌^◌, length, ap, ◌∙◌, arith}
use Rattle.std.proofs.Math.Nat.{pow-le-pow_right}
use Rattle.pb_words.proofs.PlaceLemmas.{length-nine_places}
use Rattle.pb_words.proofs.decimals.size.Goals as goal

pub returns-clause-bound : goal.returns-clause-bound
returns-clause-bound c =
    let whole : 10 ^ length c.args.whole.now ≤ 10 ^ 18 = pow-le-pow_right {n = 10} (omega arith) {i = length c.args.whole.now} {j = 18} c.requires.few in
    let nine : length c.filled-nine.result ≡ 9 = ap length c.filled-nine.ensures ∙ length-nine_places c.args.places.now c.requires.nine in
    let places : 10 ^ length c.filled-nine.result ≡ 10 ^ 9 = ap (λ k. 10 ^ k) nine in
    omega arith
