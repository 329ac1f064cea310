use Rattle.std.proofs.Common.{[], sym, ap, subst}
use Rattle.pb_config.specs.Numbers.{AgreesWithAssigned}
use Rattle.pb_config.specs.KeptConfig.{KeptConfig}
use Rattle.pb_config.proofs.NumberLemmas.{none_agree}
use Rattle.pb_core.specs.Kept.{AreKept}
use Rattle.pb_core.specs.Sessions.{none_open}
use Rattle.pb_core.proofs.MarkLemmas.{none_kept}
use Rattle.pb_core.proofs.cores.Core.new.Goals as goal

pub returns-in-Ok-new-3-clause-ok : goal.returns-in-Ok-new-3-clause-ok
returns-in-Ok-new-3-clause-ok c =
    record {
      settings = ap (λ (k : KeptConfig). k.settings) c.in-Ok-new.ensures;
      assigned = subst (λ (k : KeptConfig). AgreesWithAssigned k.numbers []) (sym c.in-Ok-new.ensures) none_agree;
      run = c.in-Ok-new-3.ensures.opening;
      sessions = subst (λ s. AreKept s none_open) (sym c.new-in-Ok-new-3.ensures) (none_kept 8);
      acquisitions = c.in-Ok-new-2.ensures;
    }
