use Rattle.pb_replay.proofs.ScriptLaws.{script_or_fault, script_has_none, one_script}
use Rattle.pb_replay.proofs.laws.scripts_are_read_or_refused.Goals as goal

pub returns-clause-either : goal.returns-clause-either
returns-clause-either c = script_or_fault

pub returns-clause-not_both : goal.returns-clause-not_both
returns-clause-not_both c = script_has_none

pub returns-clause-one_way : goal.returns-clause-one_way
returns-clause-one_way c bytes lines others a b = one_script bytes lines others a.spelled b.spelled
