-- A table stays by steps.
use Rattle.std.proofs.Common.{◌≡◌, ℕ, zero, suc, ◌+◌, refl, ◌∙◌}
use Rattle.pb_buses.specs.declared.Inputs.{Inputs}
use Rattle.pb_buses.specs.Rules.{after}
use Rattle.pb_model.specs.declared.units.Unit.{Unit as AnyUnit}
use Rattle.pb_model.specs.declared.units.Unit.TheVariants as units
use Rattle.pb_model.specs.Units.{rules, next, words_of}

next_words : (unit : AnyUnit) (inputs : Inputs) (tick : ℕ) → words_of (next unit inputs tick) ≡ words_of unit
next_words (units.Seq block) inputs tick = refl
next_words (units.Lut block) inputs tick = refl
next_words (units.Srgate block) inputs tick = refl
next_words (units.Div block) inputs tick = refl
next_words (units.Pulse block) inputs tick = refl
next_words (units.Counter block) inputs tick = refl
next_words (units.Clock block) inputs tick = refl
next_words (units.Pcomp block) inputs tick = refl
next_words (units.Pcap block) inputs tick = refl

pub words_after : (inputs : Inputs) (tick n : ℕ) (unit : AnyUnit) → words_of (after rules inputs tick n unit) ≡ words_of unit
words_after inputs tick zero unit = refl
words_after inputs tick (suc n) unit = words_after inputs (tick + 1) n (next unit inputs tick) ∙ next_words unit inputs tick
