use Rattle.std.proofs.Common.{arith}
use Rattle.pb_model.proofs.PlaceLemmas.{in_few}
use Rattle.pb_model.proofs.places.machine.Goals as goal

pub overflow_add-result : goal.overflow_add-result
overflow_add-result c =
    omega (
      arith,
      in_few c.args.block c.args.instance c.requires.from_lut c.requires.to_pcap c.requires.from_one c.requires.in_count,
    )
