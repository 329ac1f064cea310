use Rattle.std.proofs.Common.{◌≡◌, ◌+ℤ◌, ◌-ℤ◌, pos, arith, to_z, of_z, w64, ◌∙◌}
use Rattle.std.specs.Int.{int_rem_euclid, w32}
use Rattle.std.proofs.lemmas.Int.{ints}
use Rattle.pb_logic.proofs.RemainderLemmas.{same_remainder}
use Rattle.pb_logic.proofs.counters.come_round.Goals as goal

pub position-requires : goal.position-requires
position-requires c = omega (arith, ints, c.remainder-past.ensures.low, c.remainder-past.ensures.high)

pub returns : goal.returns
returns c =
    let number = c.args.number -ℤ c.args.lowest in
    let size = (c.args.highest -ℤ c.args.lowest) +ℤ pos 1 in
    let sum : to_z w32 (of_z w32 c.position.result) ≡ c.args.lowest +ℤ c.remainder-past.result =
    omega (arith, ints, c.position.ensures, c.remainder-past.ensures.low, c.remainder-past.ensures.high) in
    let same_number : to_z w64 (of_z w64 (to_z w64 (of_z w64 c.args.number) -ℤ to_z w64 (of_z w64 c.from.result))) ≡ number =
    omega (arith, ints) in
    let same_size : to_z w64 (of_z w64 c.size-size.result) ≡ size = omega (arith, ints) in
    let past : c.remainder-past.result ≡ int_rem_euclid number size =
    c.remainder-past.ensures.value ∙ same_remainder _ _ number size same_number same_size in
    rw (← past) sum
