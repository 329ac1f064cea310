use Rattle.std.proofs.Common.{◌≡◌, ◌-◌, ◌<◌, ◌∙◌, ap, arith}
use Rattle.std.proofs.lemmas.Nat.{one_shl}
use Rattle.pb_buses.proofs.DelayLemmas.{fill, word_later}
use Rattle.pb_buses.proofs.muxes.line_later.Goals as goal
use Rattle.pb_buses.proofs.muxes.line_later.Goals.{then-selected, else-selected}

pub returns : goal.returns
returns c =
    let t = c.min-ticks.result in
    let small : t < 64 = omega arith in
    let filled : c.if-selected.fill ≡ fill c.args.selected t =
    elim c.if-selected.branch [
      | then-selected w ↦ rw w.if-selected.true (w.fill-is ∙ ap (λ x. x - 1) (one_shl t 64 small))
      | else-selected w ↦ rw w.if-selected.false w.fill-is
    ] in
    rw c.from.ensures
    (word_later c.args.line t c.args.ticks c.if-selected.fill c.args.selected c.ranges.line.fits c.min-ticks.ensures filled)
