use Rattle.std.proofs.Common.{lit<, lit≤}
use Rattle.pb_fields.specs.Catalogue.{catalogue}
use Rattle.pb_fields.proofs.orders.following.Goals as goal

pub returns-in-None-clause-slot : goal.returns-in-None-clause-slot
unfolding catalogue
returns-in-None-clause-slot c =
    record {
      in_blocks = lit< tt;
      from_one = lit≤ tt;
      in_count = lit≤ tt;
      in_fields = lit< tt;
      in_attributes = lit≤ tt;
    }
