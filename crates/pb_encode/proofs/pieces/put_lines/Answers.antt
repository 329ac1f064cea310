use Rattle.std.proofs.Common.{◌≡◌, ℕ, ◌%◌, ◌<◌, ◌≤◌, List, [], length, sym, subst, ap, ◌∙◌, arith}
use Rattle.std.specs.Int.{div_ceil}
use Rattle.pb_pcap.specs.Fields.{size_of}
use Rattle.pb_encode.specs.Encoding.{record_line, part, parts}
use Rattle.pb_encode.proofs.PartLemmas.{added, all_added, length_parts, part_at, begins, is_whole, part_length}
use Rattle.pb_encode.proofs.pieces.put_lines.Goals as goal

pub part-requires : goal.part-requires
part-requires c =
    begins c.record_size-size.result (length c.args.raw.now) c.loop-i.i
    (subst (λ n. c.loop-i.i < n) c.div_ceil-i-end.ensures c.loop-i-test.true)

pub put_record-requires : goal.put_record-requires
put_record-requires c =
    let size : ℕ = c.record_size-size.result in
    let none : length c.args.raw.now % size ≡ 0 =
    subst (λ n. length c.args.raw.now % n ≡ 0) (sym c.record_size-size.ensures.value) c.requires.whole in
    let fits = is_whole size (length c.args.raw.now) c.loop-i.i none
    (subst (λ n. c.loop-i.i < n) c.div_ceil-i-end.ensures c.loop-i-test.true) in
    let sized : length c.part.result.now ≡ size_of c.args.layout.now =
    ap length c.part.ensures ∙ (part_length size c.args.raw.now c.loop-i.i fits ∙ c.record_size-size.ensures.value) in
    omega (arith, sized)

pub loop-i-preserved : goal.loop-i-preserved
loop-i-preserved c =
    let raw : List ℕ = c.args.raw.now in
    let size : ℕ = size_of c.args.layout.now in
    let i : ℕ = c.loop-i.i in
    let count = c.div_ceil-i-end.ensures ∙ ap (λ n. div_ceil (length raw) n) c.record_size-size.ensures.value in
    let below : i < div_ceil (length raw) size = subst (λ n. i < n) count c.loop-i-test.true in
    let this : c.part.result.now ≡ part size raw i = c.part.ensures ∙ ap (λ n. part n raw i) c.record_size-size.ensures.value in
    added (record_line c.args.is_scaled c.args.layout.now) (parts size raw) i c.part.result.now [] c.loop-i.text _ _
    (subst (λ n. i < n) (sym (length_parts size raw)) below) (this ∙ part_at size raw i below)
    c.in_ok-put_record.ensures c.loop-i.invariant

pub returns : goal.returns
returns c =
    let raw : List ℕ = c.args.raw.now in
    let size : ℕ = size_of c.args.layout.now in
    let count = c.div_ceil-i-end.ensures ∙ ap (λ n. div_ceil (length raw) n) c.record_size-size.ensures.value in
    all_added (record_line c.args.is_scaled c.args.layout.now) (parts size raw) c.loop-i.i c.loop-i.text _
    (subst (λ n. n ≤ c.loop-i.i) (count ∙ sym (length_parts size raw)) c.loop-i-test.false) c.loop-i.invariant
