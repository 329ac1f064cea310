use Rattle.std.proofs.Common.{refl}
use Rattle.pb_fields.specs.Catalogue.{catalogue}
use Rattle.pb_fields.proofs.places.blocks_have_their_places.Goals as goal

pub returns : goal.returns
unfolding catalogue
returns c =
    record {
      blocks = refl;
      places = refl;
      ttlin_count = refl;
      inenc_count = refl;
      bits_count = refl;
      lut_count = refl;
      srgate_count = refl;
      div_count = refl;
      pulse_count = refl;
      counter_count = refl;
      clock_count = refl;
      seq_count = refl;
      pcomp_count = refl;
      pcap_count = refl;
    }
