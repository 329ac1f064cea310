use Rattle.std.proofs.Common.{ℕ, ◌<◌, ◌≤◌, List, [], length, sym, subst, ◌∙◌}
use Rattle.std.specs.Int.{div_ceil}
use Rattle.pb_encode.specs.Encoding.{letters_line, parts}
use Rattle.pb_encode.proofs.PartLemmas.{added, all_added, length_parts, part_at}
use Rattle.pb_encode.proofs.pieces.put_letters.Goals as goal

pub loop-i-preserved : goal.loop-i-preserved
loop-i-preserved c =
    let letters : List ℕ = c.args.letters.now in
    let i : ℕ = c.loop-i.i in
    let below : i < div_ceil (length letters) 76 = subst (λ n. i < n) c.div_ceil-i-end.ensures c.loop-i-test.true in
    added letters_line (parts 76 letters) i c.part.result.now [] c.loop-i.text _ _
    (subst (λ n. i < n) (sym (length_parts 76 letters)) below) (c.part.ensures ∙ part_at 76 letters i below)
    c.in_ok-put_letters_line.ensures c.loop-i.invariant

pub returns : goal.returns
returns c =
    let letters : List ℕ = c.args.letters.now in
    all_added letters_line (parts 76 letters) c.loop-i.i c.loop-i.text _
    (subst (λ n. n ≤ c.loop-i.i) (c.div_ceil-i-end.ensures ∙ sym (length_parts 76 letters)) c.loop-i-test.false) c.loop-i.invariant
