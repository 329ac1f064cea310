use Rattle.std.proofs.Common.{position, nat_eq, ap, ◌∙◌}
use Rattle.std.specs.Cmp.Lexicographic.{pointwise}
use Rattle.pb_stim.proofs.InputLemmas.{place_in}
use Rattle.pb_stim.proofs.checking.input_named.Goals as goal

pub returns-in-Some-clause-named : goal.returns-in-Some-clause-named
returns-in-Some-clause-named c =
    c.in-Some.ensures.place ∙ (place_in c.input_names.result.now c.args.target.now ∙ ap (position (λ name. pointwise nat_eq name c.args.target.now)) c.input_names.ensures.names)

pub returns-in-None-clause-named : goal.returns-in-None-clause-named
returns-in-None-clause-named c =
    c.in-None.ensures.place ∙ (place_in c.input_names.result.now c.args.target.now ∙ ap (position (λ name. pointwise nat_eq name c.args.target.now)) c.input_names.ensures.names)
