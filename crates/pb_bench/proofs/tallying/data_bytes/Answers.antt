use Rattle.std.proofs.Common.{rules, length, arith}
use Rattle.pb_bench.specs.Sections.{sections_in}
use Rattle.pb_bench.specs.Tally.{data_bytes}
use Rattle.pb_bench.proofs.SectionLemmas.{bytes_stepped}
use Rattle.pb_bench.proofs.tallying.data_bytes.Goals as goal

pub loop-section-preserved : goal.loop-section-preserved
loop-section-preserved c =
    let cut = c.cut_section-letter in
    let so_far = c.loop-section.invariant in
    record {
      left = bytes_stepped (data_bytes (sections_in c.args.output.now)) c.loop-section.total c.counted-total.result (length c.args.output.now) c.loop-section._section
          cut.result.0 c.loop-section.rest.now cut.result.1.now cut.result.2.now so_far.left c.loop-section-test.true (search rules) cut.ensures.letter cut.ensures.answer cut.ensures.rest c.counted-total.ensures.counted;
      fits = omega (arith, so_far.fits, cut.ensures.fits, c.counted-total.ensures.within);
    }
