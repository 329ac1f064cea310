use Rattle.std.proofs.Common.{◌≡◌, take, drop, sym, ap, ◌∙◌, arith}
use Rattle.pb_tables.specs.Bodies.{bytes_of}
use Rattle.pb_tables.proofs.ChunkLemmas.{length-bytes_of}
use Rattle.pb_replies.proofs.TableLemmas.{one_byte_more, all_bytes}
use Rattle.pb_replies.proofs.tables.line_bytes.Goals as goal

pub loop-j-preserved : goal.loop-j-preserved
loop-j-preserved c =
    let bytes = bytes_of c.args.rows.now in
    let size = length-bytes_of c.args.rows.now in (
      omega (arith, c.loop-j-test.true),
      one_byte_more bytes c.loop-j.out c.args.start c.loop-j.j c.byte.result (omega (arith, size)) (omega arith) c.loop-j.invariant.1 c.byte.ensures,
    )

pub returns-clause-copied : goal.returns-clause-copied
returns-clause-copied c =
    let bytes = bytes_of c.args.rows.now in
    let size = length-bytes_of c.args.rows.now in
    let all : c.loop-j.j ≡ c.min-count.result = omega (arith, c.loop-j-test.false, c.loop-j.invariant.0) in
    ap (λ n. take n c.loop-j.out) (sym all)
    ∙ (c.loop-j.invariant.1
    ∙ (ap (λ n. take n (drop c.args.start bytes)) all
    ∙ all_bytes bytes c.args.start c.min-count.result (omega (arith, c.min-count.ensures, size))))
