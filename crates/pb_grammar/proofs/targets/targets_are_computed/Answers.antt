use Rattle.pb_grammar.proofs.TargetCuts.{target_iff}
use Rattle.pb_grammar.proofs.targets.targets_are_computed.Goals as goal

pub returns : goal.returns
returns c text = target_iff text
