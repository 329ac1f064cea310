use Rattle.std.proofs.Common.{rules, ap, ap₂, subst, codes, map, IfOk, ◌≡◌, ◌∙◌}
use Rattle.clap.specs.Walk.{rule_of}
use Rattle.clap.specs.Simple.{app_of, with_rule, HasMatchesOf}
use Rattle.clap.specs.Faults.{fault_of, is_simple_and_free}
use Rattle.clap.specs.Kinds.{FailsBy}
use Rattle.pb_cli.specs.ServeWords.{serve, port_option}
use Rattle.pb_cli.proofs.ServeLemmas.{serve_is_free}
use Rattle.pb_cli.proofs.options.find_matches.Goals as goal

pub returns-clause-matches : goal.returns-clause-matches
returns-clause-matches c =
    let control_is : rule_of c.default_value-control.result ≡ port_option (codes "control") (codes "8888") = search rules in
    let records_is : rule_of c.default_value-records.result ≡ port_option (codes "data") (codes "8889") = search rules in
    let serve_is : app_of c.in_ok-serve.serve ≡ serve = c.in_ok-serve.ensures.shape (search rules)
    ∙ ap₂ with_rule (c.in_ok-arg.ensures.shape (search rules) ∙ ap₂ with_rule c.new-3.ensures.app control_is) records_is in
    subst (λ a. IfOk c.try_get_matches_from.result (HasMatchesOf a (map (λ s. s.now) c.args.words.now))) serve_is c.try_get_matches_from.ensures.matches

pub returns-clause-kinds : goal.returns-clause-kinds
returns-clause-kinds c =
    let control_is : rule_of c.default_value-control.result ≡ port_option (codes "control") (codes "8888") = search rules in
    let records_is : rule_of c.default_value-records.result ≡ port_option (codes "data") (codes "8889") = search rules in
    let serve_is : app_of c.in_ok-serve.serve ≡ serve = c.in_ok-serve.ensures.shape (search rules)
    ∙ ap₂ with_rule (c.in_ok-arg.ensures.shape (search rules) ∙ ap₂ with_rule c.new-3.ensures.app control_is) records_is in
    subst (λ a. FailsBy (fault_of a (map (λ s. s.now) c.args.words.now)) c.try_get_matches_from.result) serve_is
    (c.try_get_matches_from.ensures.kinds (ap is_simple_and_free serve_is ∙ serve_is_free))
