use Rattle.std.proofs.Common.{◌++◌, codes, sym, ◌∙◌, arith}
use Rattle.std.specs.List.{flat_map}
use Rattle.pb_core.specs.Sessions.{session_ids, is_reading}
use Rattle.pb_core.specs.Who.{session_line}
use Rattle.pb_core.proofs.SessionLemmas.{one_listed, none_listed}
use Rattle.pb_core.proofs.who.list_data.Goals as goal

pub loop-id-preserved-then-not-is_open : goal.loop-id-preserved-then-not-is_open
loop-id-preserved-then-not-is_open c =
    let inv = c.loop-id.invariant in
    record {
      lines = λ all a.
          none_listed (codes "D") (is_reading all) c.loop-id.id c.loop-id.text
          (c.args.text.now ++ flat_map (session_line (codes "D") (is_reading all)) session_ids) c.loop-id-test.true
          (sym (c.is_open.ensures all a) ∙ c.if-not-is_open.true) (inv.lines all a);
      from_one = omega (arith, inv.from_one);
    }

pub loop-id-preserved : goal.loop-id-preserved
loop-id-preserved c =
    let inv = c.loop-id.invariant in
    record {
      lines = λ all a.
          one_listed (codes "D") (is_reading all) c.loop-id.id c.loop-id.text c.list_session.new.text
          (c.args.text.now ++ flat_map (session_line (codes "D") (is_reading all)) session_ids) c.loop-id-test.true
          (sym (c.is_open.ensures all a) ∙ c.if-not-is_open.false) c.in_ok-list_session.ensures (inv.lines all a);
      from_one = omega (arith, inv.from_one);
    }
