use Rattle.std.proofs.Common.{◌≡◌, map, ap, subst, codes, ◌∙◌, rules}
use Rattle.pb_cli.specs.ServeWords.{GivesPort}
use Rattle.pb_cli.proofs.ServeLemmas.{has_port}
use Rattle.pb_cli.proofs.ports.read_ports.Goals as goal

pub returns-clause-ok : goal.returns-clause-ok
returns-clause-ok c =
    let words : map (λ s. s.now) c.as_slice.result.now ≡ c.args.words.now = ap (map (λ s. s.now)) c.as_slice.ensures.value ∙ c.in_ok-texts.ensures.same in
    let given = c.in_ok-control.ensures in
    record {
      first = c.starts_server.ensures.0 (search rules);
      texts = c.in_ok-texts.ensures.valid;
      control = subst (λ ws. GivesPort ws (codes "control") c.in-Some.control) words (has_port _ _ _ _ given.taken given.control c.in-Some.ensures.found);
      records = subst (λ ws. GivesPort ws (codes "data") c.in-Some-port_in.records) words (has_port _ _ _ _ given.taken given.records c.in-Some-port_in.ensures.found);
      apart = search rules;
    }
