use Rattle.pb_core.proofs.FittingLemmas.{is_taking}
use Rattle.pb_session.proofs.taking.take.Goals as goal

pub returns-clause-taking : goal.returns-clause-taking
returns-clause-taking g c = let comes = c.happen.ensures.comes in is_taking comes.0 c.args.id c.happen.result.1 comes.1.told
