use Rattle.std.proofs.Common.{◌≡◌, [], ◌∷◌, ◌++◌, length, take, ap, ◌∙◌}
use Rattle.std.proofs.lemmas.List.{take_at}
use Rattle.pb_grammar.specs.Feeding.{room}
use Rattle.pb_grammar.proofs.StageLemmas.{same_kept}
use Rattle.pb_grammar.proofs.assembling.Assembler.keep.Goals as goal

pub returns : goal.returns
returns c =
    let old = c.as_mut_slice.result.now in
    let used = c.self.inside.used in
    let len : length old ≡ room = c.as_mut_slice.ensures.len ∙ c.self.invariant.1 in
    let full : length c.put-self-inside.new.bytes ≡ c.self.inside.bytes.len =
    c.put-self-inside.auto.bytes ∙ c.as_mut_slice.ensures.len in
    same_kept _ _ _
    (ap (take c.put-self-inside.result) (take_at c.put-self-inside.new.bytes _ c.self.inside.bytes.len full)
    ∙ c.put-self-inside.ensures.kept
    ∙ ap (λ n. take n (take used old ++ c.args.byte ∷ [])) len
    ∙ ap (λ t. take room (take used t ++ c.args.byte ∷ [])) c.as_mut_slice.ensures.value
    ∙ ap (λ k. take room (k.bytes ++ c.args.byte ∷ [])) c.self.view_is)
    (ap (λ k. k.stage) c.self.view_is)
