use Rattle.std.proofs.Common.{rules, ◌≡◌, ℕ, List, [], ◌∷◌, ◌++◌, Some, None, sym, subst}
use Rattle.std.proofs.lemmas.Bool.Decides.{Decides-eqb}
use Rattle.std.proofs.lemmas.Slice.Eq.{strip_suffix_is}
use Rattle.pb_grammar.specs.Grammar.{IsText}
use Rattle.pb_grammar.proofs.Lines.{line_of, no_line, not_line}
use Rattle.pb_grammar.proofs.commands.line_in.Goals as goal

pub returns-in_default : goal.returns-in_default
returns-in_default c =
    let newline : c.as_slice.result.now ≡ 10 ∷ [] = search rules in
    let none = strip_suffix_is Decides-eqb c.args.bytes.now c.as_slice.result.now None c.in_default.ensures.cases in
    sym (no_line c.args.bytes.now (λ text line. none text (subst (λ (end : List ℕ). c.args.bytes.now ≡ text ++ end) (sym newline) line.1)))

pub returns-then-is_text : goal.returns-then-is_text
returns-then-is_text c =
    let newline : c.as_slice.result.now ≡ 10 ∷ [] = search rules in
    let cut = strip_suffix_is Decides-eqb c.args.bytes.now c.as_slice.result.now (Some c.in-Some.text) c.in-Some.ensures.cases in
    let text : IsText c.in-Some.text.now = search rules in
    sym (line_of c.args.bytes.now c.in-Some.text.now (text, subst (λ (end : List ℕ). c.args.bytes.now ≡ c.in-Some.text.now ++ end) newline cut))

pub returns-else-is_text : goal.returns-else-is_text
returns-else-is_text c =
    let newline : c.as_slice.result.now ≡ 10 ∷ [] = search rules in
    let cut = strip_suffix_is Decides-eqb c.args.bytes.now c.as_slice.result.now (Some c.in-Some.text) c.in-Some.ensures.cases in
    let text : ¬ (IsText c.in-Some.text.now) = search rules in
    sym (not_line c.args.bytes.now c.in-Some.text.now text (subst (λ (end : List ℕ). c.args.bytes.now ≡ c.in-Some.text.now ++ end) newline cut))
