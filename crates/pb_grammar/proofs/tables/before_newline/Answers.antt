use Rattle.std.proofs.Common.{rules, ◌≡◌, ℕ, List, [], ◌∷◌, ◌++◌, MatchOption, subst}
use Rattle.std.proofs.lemmas.Bool.Decides.{Decides-eqb}
use Rattle.std.proofs.lemmas.Slice.Eq.{strip_suffix_is}
use Rattle.pb_grammar.proofs.tables.before_newline.Goals as goal

pub returns : goal.returns
returns c =
    let newline : c.as_slice.result.now ≡ 10 ∷ [] = search rules in
    subst
    (λ (end : List ℕ). MatchOption c.strip_suffix.result ((front : List ℕ) → ¬ (c.args.bytes.now ≡ front ++ end)) (λ front. c.args.bytes.now ≡ front.now ++ end))
    newline
    (strip_suffix_is Decides-eqb c.args.bytes.now c.as_slice.result.now c.strip_suffix.result c.strip_suffix.ensures.cases)
