use Rattle.pb_grammar.proofs.TargetCuts.{target_once}
use Rattle.pb_grammar.proofs.targets.targets_are_read_in_one_way.Goals as goal

pub returns : goal.returns
returns c text s t = target_once text s t
