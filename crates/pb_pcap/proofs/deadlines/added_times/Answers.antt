use Rattle.std.proofs.Common.{◌+ℤ◌, ◌*ℤ◌, ℤ, pos, ◌∙◌, ap, rules, to_z, of_z}
use mir.Val.{SFits}
use Rattle.std.specs.Int.{w32, w64, int_wrap}
use Rattle.std.proofs.lemmas.Int.{to_z-of_z, int_wrap-add_right}
use Rattle.pb_pcap.proofs.deadlines.added_times.Goals as goal

pub returns : goal.returns
returns c =
    let sum = c.args.sum in
    let times = c.signed.result in
    let position = c.args.position in
    let product = c.product.result in
    let times_fit : SFits w64 times = search rules in
    let product_fits : SFits w64 product = search rules in
    let sum_fits : SFits w64 c.added.result = search rules in
    let outer : ℤ → ℤ → ℤ = λ a b. int_wrap w64 (a +ℤ b) in
    let inner : ℤ → ℤ → ℤ = λ a b. int_wrap w64 (a *ℤ b) in
    to_z-of_z w64 c.added.result sum_fits ∙ c.added.ensures
    ∙ ap (λ a. outer a (to_z w64 (of_z w64 product))) (to_z-of_z w64 sum c.ranges.sum)
    ∙ ap (outer sum) (to_z-of_z w64 product product_fits ∙ c.product.ensures
    ∙ ap (λ a. inner a (to_z w32 (of_z w32 position))) (to_z-of_z w64 times times_fit ∙ c.signed.ensures)
    ∙ ap (inner (pos c.args.ticks)) (to_z-of_z w32 position c.ranges.position))
    ∙ int_wrap-add_right w64 sum (pos c.args.ticks *ℤ position)
