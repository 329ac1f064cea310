use Rattle.std.proofs.Common.{◌≡◌, map, take}
use Rattle.pb_fields.specs.BlockNames.{block_places, place_named}
use Rattle.pb_fields.proofs.finding.named_blocks.Given as goal

abbrev pub invariant-loop-block : goal.invariant-loop-block
invariant-loop-block l = map place_named l.names.entries ≡ take l.block block_places
