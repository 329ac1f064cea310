-- What an event other than an advance is answered, leaves and costs.
use Rattle.std.proofs.Common.{◌≡◌, ℕ, false}
use Rattle.pb_core.specs.declared.events.Event.{Event}
use Rattle.pb_core.specs.declared.events.Event.TheVariants as events
use Rattle.pb_core.specs.declared.events.Answer.{Answer}
use Rattle.pb_core.specs.Core.{CoreState}
use Rattle.pb_core.specs.Kept.{KeptCore, Agrees, Stands, touched_core}
use Rattle.pb_core.specs.Helpers.{is_advance}
use Rattle.pb_core.specs.Costs.{CostsLittle, Costs}
use Rattle.pb_core.specs.Answer.{answer, done_by, IsTold, after_told}

pub told_other : (core : CoreState) (event : Event) (told : Answer) → is_advance event ≡ false → told ≡ answer core event → IsTold core event told
told_other core (events.Advance to most) told other e = absurd (cc)
told_other core event told other e = e

pub left_other : (kept : KeptCore) (core : CoreState) (event : Event) (told : Answer) → is_advance event ≡ false → Stands kept (done_by core event) →
    Agrees (touched_core kept) (after_told core event told)
left_other kept core (events.Advance to most) told other h = absurd (cc)
left_other kept core event told other h = h

-- an event that stands at now outdates nothing
pub touched_costs : (event : Event) (old new : KeptCore) (was spent : ℕ) → CostsLittle event old new was spent → CostsLittle event old (touched_core new) was spent
touched_costs (events.Line id text) old new was spent h = record { calls = h.calls; outdates = h.outdates }
touched_costs event old new was spent h = record { calls = h.calls; outdates = h.outdates }

pub other_costs : (event : Event) (core : CoreState) (old new : KeptCore) (was spent : ℕ) → is_advance event ≡ false → CostsLittle event old new was spent →
    Costs event core old new was spent
other_costs (events.Advance to most) core old new was spent other h = absurd (cc)
other_costs event core old new was spent other h = h
