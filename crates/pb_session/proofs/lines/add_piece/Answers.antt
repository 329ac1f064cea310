use Rattle.std.proofs.Common.{ap, refl, arith, get_or, length}
use Rattle.pb_session.proofs.LineLemmas.{ends_at_newline, ends_too_long, front_more, unfinished_more}
use Rattle.pb_session.proofs.lines.add_piece.Goals as goal

pub returns-then-byte-eq-NEWLINE : goal.returns-then-byte-eq-NEWLINE
returns-then-byte-eq-NEWLINE c =
    let piece = c.args.piece.now in
    let i = c.loop-byte.byte-index in
    ends_at_newline c.args.line.now piece c.loop-byte.line i (get_or piece i 0) c.loop-byte-test.true refl c.if-byte-eq-NEWLINE.true c.loop-byte.invariant.is c.loop-byte.invariant.unfinished

pub returns-then-bytes-gt-LONGEST : goal.returns-then-bytes-gt-LONGEST
returns-then-bytes-gt-LONGEST c =
    let piece = c.args.piece.now in
    let i = c.loop-byte.byte-index in
    let same = ap length c.bytes.ensures in
    let long = c.if-bytes-gt-LONGEST.true in
    ends_too_long c.args.line.now piece c.loop-byte.line c.append.new.self i (get_or piece i 0) c.loop-byte-test.true refl c.if-byte-eq-NEWLINE.false c.loop-byte.invariant.is c.in-Ok.ensures.ok
    (omega (arith, same, long)) c.loop-byte.invariant.unfinished

pub loop-byte-preserved : goal.loop-byte-preserved
loop-byte-preserved c =
    let piece = c.args.piece.now in
    let i = c.loop-byte.byte-index in
    let same = ap length c.bytes.ensures in
    let few = c.if-bytes-gt-LONGEST.false in
    record {
      is = front_more c.args.line.now piece c.loop-byte.line c.append.new.self i (get_or piece i 0) c.loop-byte-test.true refl c.loop-byte.invariant.is c.in-Ok.ensures.ok;
      unfinished = unfinished_more c.loop-byte.line c.append.new.self (get_or piece i 0) c.if-byte-eq-NEWLINE.false c.in-Ok.ensures.ok (omega (arith, same, few)) c.loop-byte.invariant.unfinished;
    }
