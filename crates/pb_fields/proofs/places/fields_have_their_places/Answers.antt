use Rattle.std.proofs.Common.{refl}
use Rattle.pb_fields.specs.Catalogue.{catalogue}
use Rattle.pb_fields.proofs.places.fields_have_their_places.Goals as goal

pub returns : goal.returns
unfolding catalogue
returns c =
    record {
      ttlin = refl;
      inenc = refl;
      bits = refl;
      lut = refl;
      srgate = refl;
      div = refl;
      pulse = refl;
      counter = refl;
      clock = refl;
      seq = refl;
      pcomp = refl;
      pcap = refl;
    }
