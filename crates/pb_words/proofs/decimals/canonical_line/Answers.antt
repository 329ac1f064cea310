use Rattle.std.proofs.Common.{◌≡◌, ◌≤◌, ◌++◌, [], ◌∷◌, length, length-append, pos, ap, ◌∙◌, sym, arith, int_lt, unsigned_abs}
use Rattle.std.specs.Int.{w128}
use Rattle.std.proofs.lemmas.Int.{to_z-of_z}
use Rattle.pb_words.specs.Decimals.{canonical_size}
use Rattle.pb_words.proofs.CanonicalLemmas.{text_below, text_above, length-canonical_size}
use Rattle.pb_words.proofs.decimals.canonical_line.Goals as goal
use Rattle.pb_words.proofs.decimals.canonical_line.Goals.{then-billionths-lt0, else-billionths-lt0}

pub returns-clause-text : goal.returns-clause-text
returns-clause-text c =
    let same = to_z-of_z w128 c.args.billionths c.ranges.billionths in
    let size : c.unsigned_abs.result ≡ unsigned_abs c.args.billionths = c.unsigned_abs.ensures.value ∙ ap unsigned_abs same in
    elim c.if-billionths-lt0.branch [
      | then-billionths-lt0 w ↦ text_below c.args.billionths _ c.if-billionths-lt0.line _ (ap (λ x. int_lt x (pos 0)) (sym same) ∙ w.if-billionths-lt0.true) size (w.line-is ∙ w.push.ensures ∙ ap (λ x. x ++ 45 ∷ []) c.new-line.ensures) c.append_size.ensures
      | else-billionths-lt0 w ↦ text_above c.args.billionths _ c.if-billionths-lt0.line _ (ap (λ x. int_lt x (pos 0)) (sym same) ∙ w.if-billionths-lt0.false) size (w.line-is ∙ c.new-line.ensures) c.append_size.ensures
    ]

pub returns-clause-room : goal.returns-clause-room
returns-clause-room c =
    let size : length (canonical_size c.unsigned_abs.result) ≤ 40 = length-canonical_size c.unsigned_abs.result (omega (arith, c.unsigned_abs.ensures.bound)) in
    let e = ap length c.append_size.ensures in
    elim c.if-billionths-lt0.branch [
      | then-billionths-lt0 w ↦ omega (arith, length-append c.if-billionths-lt0.line (canonical_size c.unsigned_abs.result), ap length (w.line-is ∙ w.push.ensures ∙ ap (λ x. x ++ 45 ∷ []) c.new-line.ensures))
      | else-billionths-lt0 w ↦ omega (arith, length-append c.if-billionths-lt0.line (canonical_size c.unsigned_abs.result), ap length (w.line-is ∙ c.new-line.ensures))
    ]
