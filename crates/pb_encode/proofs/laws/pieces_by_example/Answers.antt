use Rattle.std.proofs.Common.{refl}
use Rattle.std.specs.Fmt.{digits}
use Rattle.base64.specs.Rfc4648.{encode_symbols}
use Rattle.pb_words.specs.Decimals.{canonical, places}
use Rattle.pb_encode.proofs.laws.pieces_by_example.Goals as goal

pub returns : goal.returns
unfolding digits encode_symbols canonical places
returns c =
    record {
      unframed = refl;
      framed = refl;
      base64 = refl;
      ascii = refl;
      in_units = refl;
      with_offset = refl;
      long = refl;
    }
