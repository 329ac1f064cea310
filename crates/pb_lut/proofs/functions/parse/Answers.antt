use Rattle.std.proofs.Common.{◌≡◌, ◌⊎◌, ◌∙◌, List, ℕ, ◌++◌, take, drop, length, ap, sym, subst}
use Rattle.std.proofs.Math.Seq.{take-append_seam}
use Rattle.pb_words.specs.Cuts.{without_spaces}
use Rattle.pb_lut.specs.Functions.{WritesHex, WritesExpression}
use Rattle.pb_lut.proofs.FunctionLemmas.{found_once}
use Rattle.pb_lut.proofs.ComputedLemmas.{too_long, number_read}
use Rattle.pb_lut.proofs.functions.parse.Goals as goal

-- what stands in front, where a text was written over it
front : (bare old out : List ℕ) (n : ℕ) → n ≡ length bare → out ≡ bare ++ drop (length bare) old → take n out ≡ bare
front bare old out n len e =
    ap (λ k. take k out) len ∙ ap (take (length bare)) e ∙ take-append_seam bare (drop (length bare) old)

pub returns-clause-only : goal.returns-clause-only
returns-clause-only c n w =
    let bare = subst (λ text. WritesHex text n ⊎ WritesExpression text n) (sym (front (without_spaces c.args.text.now) _ _ _ c.take_out_spaces-n.ensures.len c.take_out_spaces-n.ensures.written)) w.written in
    c.ok_or.ensures.value ∙ found_once c.read_function.result _ _ c.read_function.ensures.found c.read_function.ensures.none n bare

pub returns-then-text-gt-ROOM-clause-computed : goal.returns-then-text-gt-ROOM-clause-computed
returns-then-text-gt-ROOM-clause-computed c = too_long c.args.text.now c.if-text-gt-ROOM.true

pub returns-clause-computed : goal.returns-clause-computed
returns-clause-computed c =
    sym c.ok_or.ensures.ok_part
    ∙ number_read c.args.text.now _ c.read_function.result c.if-text-gt-ROOM.false (front (without_spaces c.args.text.now) _ _ _ c.take_out_spaces-n.ensures.len c.take_out_spaces-n.ensures.written) c.read_function.ensures.found c.read_function.ensures.none
