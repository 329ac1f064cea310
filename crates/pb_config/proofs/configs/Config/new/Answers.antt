use Rattle.std.proofs.Common.{◌≡◌, List, ℕ, subst, sym}
use Rattle.pb_config.specs.Kept.{IsKept}
use Rattle.pb_config.specs.Defaults.{first_raws, first_texts}
use Rattle.pb_config.proofs.KeptLemmas.{fresh_kept}
use Rattle.pb_config.proofs.configs.Config.new.Goals as goal

pub invariant_of-result : goal.invariant_of-result
invariant_of-result c =
    let raws : c.in_ok-raws.raws.items ≡ first_raws 14112 = c.in_ok-raws.ensures in
    let texts : c.in_ok-texts.texts.items ≡ first_texts 96 = c.in_ok-texts.ensures in
    let P : List ℕ → Type 0 = λ r. IsKept (record { raws = r; texts = c.in_ok-texts.texts.items }) in
    let Q : List (List ℕ) → Type 0 = λ t. IsKept (record { raws = first_raws 14112; texts = t }) in
    subst P (sym raws) (subst Q (sym texts) fresh_kept)
