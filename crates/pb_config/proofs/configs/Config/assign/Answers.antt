use Rattle.std.proofs.Common.{◌≡◌, true, subst}
use Rattle.pb_fields.specs.declared.Slot.{Slot}
use Rattle.pb_fields.specs.Slots.{IsSlot}
use Rattle.pb_config.specs.Assigning.{is_assignable, target}
use Rattle.pb_config.specs.Kept.{CanBe}
use Rattle.pb_config.proofs.ChangeLemmas.{change_allowed}
use Rattle.pb_config.proofs.KindLemmas.{given_assignable, kept_short}
use Rattle.pb_config.proofs.configs.Config.assign.Goals as goal

pub keep_text-requires-clause-short : goal.keep_text-requires-clause-short
keep_text-requires-clause-short c =
    kept_short _ c.args.slot c.args.value.now c.in_ok-raw.raw c.in_ok-raw.ensures.given

pub returns-clause-allowed : goal.returns-clause-allowed
returns-clause-allowed c = λ blocks.
    let takes : is_assignable c.args.slot ≡ true = given_assignable _ c.args.slot c.args.value.now c.in_ok-raw.raw c.in_ok-raw.ensures.given in
    let range : CanBe (target c.args.slot) c.in_ok-raw.raw = c.in_ok-raw.ensures.range in
    let P : Slot → Type 0 = λ s. IsSlot s in
    let there : IsSlot (target c.args.slot) = subst P c.target.ensures.target c.target.ensures.slot in
    change_allowed blocks c.args.slot c.in_ok-raw.raw c.change_of.result c.change_of.ensures c.requires there takes range
