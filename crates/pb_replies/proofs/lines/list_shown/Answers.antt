use Rattle.std.proofs.Common.{◌≡◌, ◌+◌, [], take, map, ap, sym, ◌∙◌, arith}
use Rattle.std.specs.List.{range_with_len}
use Rattle.std.proofs.lemmas.List.{take_at}
use Rattle.std.proofs.lemmas.List.FromFn.{length-map-range_with_len, get_or-map-range_with_len}
use Rattle.pb_fields.specs.Values.{shown}
use Rattle.pb_replies.proofs.ListedLemmas.{one_more, all_lines}
use Rattle.pb_replies.proofs.lines.list_shown.Goals as goal

pub loop-i-preserved : goal.loop-i-preserved
loop-i-preserved c =
    let kind = c.args.kind in
    let first = c.args.first in
    let raw = c.from.result + c.from-in-loop-i.result in
    let line = take c.show-len.result c.show-len.new.out in
    let written : line ≡ shown kind raw =
    ap (take c.show-len.result) c.show-len.ensures.written
    ∙ take_at (shown kind raw) _ c.show-len.result (sym c.show-len.ensures.len) in
    let here = get_or-map-range_with_len (shown kind) first c.args.count c.loop-i.i raw [] c.loop-i-test.true (omega arith) in
    let size = length-map-range_with_len (shown kind) first c.args.count in
    c.in_ok-list.ensures
    ∙ one_more c.args.text.now (map (shown kind) (range_with_len first c.args.count)) c.loop-i.i c.loop-i.text line (omega (arith, size)) (written ∙ sym here) c.loop-i.invariant

pub returns : goal.returns
returns c =
    let size = length-map-range_with_len (shown c.args.kind) c.args.first c.args.count in
    c.loop-i.invariant ∙ all_lines c.args.text.now _ c.loop-i.i (omega (arith, size))
