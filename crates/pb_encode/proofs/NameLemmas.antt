-- PCAP's own fields are in the catalogue.
use Rattle.std.proofs.Common.{◌≡◌, ℕ, ◌<◌, ◌≤◌, length, refl, arith}
use Rattle.pb_fields.specs.Catalogue.{catalogue}
use Rattle.pb_fields.specs.Places.{count_of, fields_of}
use Rattle.pb_fields.specs.Slots.{IsSlot}
use Rattle.pb_encode.specs.Encoding.{own_slot}

thirteen : length (fields_of 11) ≡ 13
unfolding catalogue
thirteen = refl

one : count_of 11 ≡ 1
unfolding catalogue
one = refl

pub is_slot : (entry : ℕ) → 32 ≤ entry → entry < 40 → IsSlot (own_slot entry)
is_slot entry from to =
    record {
      in_blocks = omega arith;
      from_one = omega arith;
      in_count = omega (arith, one);
      in_fields = omega (arith, from, to, thirteen);
      in_attributes = omega arith;
    }
