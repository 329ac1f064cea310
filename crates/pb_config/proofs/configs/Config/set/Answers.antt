use Rattle.std.proofs.Common.{ℕ, subst, sym, slice_set}
use Rattle.pb_config.specs.Kept.{IsKept}
use Rattle.pb_config.proofs.PlaceLemmas.{place_within}
use Rattle.pb_config.proofs.KeptLemmas.{kept_after}
use Rattle.pb_config.proofs.configs.Config.set.Goals as goal

pub invariant_of-self : goal.invariant_of-self
invariant_of-self c =
    let P : ℕ → Type 0 = λ p. IsKept (record { raws = slice_set c.self.inside.raws.items p c.args.raw; texts = c.self.inside.texts.items }) in
    subst P (sym c.place.ensures.place)
    (kept_after c.self.inside.raws.items c.self.inside.texts.items c.args.slot c.args.raw c.self.invariant c.requires.slot (place_within c.args.slot c.requires.slot) c.requires.range)
