use Rattle.std.proofs.Common.{◌≡◌, ◌<◌, ◌+◌, ◌-◌, ◌==◌, true, false, length, take, get_or, pos, ap, sym, ◌∙◌, rules, arith, eq-eqb}
use Rattle.std.specs.Int.{w32}
use mir.Val.{SFits}
use Rattle.std.proofs.lemmas.Int.{to_z-of_z}
use Rattle.std.proofs.lemmas.Bool.Decides.{nat_tests}
use Rattle.pb_stim.specs.declared.stimuli.Row.{Row}
use Rattle.pb_stim.specs.Stimulus.{value_at}
use Rattle.pb_stim.proofs.StimulusLemmas.{value_of_last, value_before_last}
use Rattle.pb_stim.proofs.stimuli.value_in.Goals as goal

pub returns-then-row-target : goal.returns-then-row-target
returns-then-row-target c =
    let d : Row = record { tick = 0; target = 0; value = pos 0 } in
    let i = c.loop-i.i - 1 in
    let within : i < length c.args.rows.now = omega arith in
    let next : c.loop-i.i ≡ i + 1 = omega arith in
    let same : ((get_or c.args.rows.now i d).target == c.args.target) ≡ true = eq-eqb _ _ c.if-row-target.true in
    let last = value_of_last c.args.rows.now i d c.args.target c.args.tick within c.requires same in
    let e : (get_or c.args.rows.now i d).value ≡ value_at c.args.rows.now c.args.target c.args.tick =
    sym last ∙ ap (λ n. value_at (take n c.args.rows.now) c.args.target c.args.tick) (sym next) ∙ c.loop-i.invariant in
    let fits : SFits w32 (get_or c.args.rows.now i d).value = search rules in
    to_z-of_z w32 (get_or c.args.rows.now i d).value fits ∙ e

pub loop-i-preserved : goal.loop-i-preserved
loop-i-preserved c =
    let d : Row = record { tick = 0; target = 0; value = pos 0 } in
    let i = c.loop-i.i - 1 in
    let within : i < length c.args.rows.now = omega arith in
    let next : c.loop-i.i ≡ i + 1 = omega arith in
    let other : ((get_or c.args.rows.now i d).target == c.args.target) ≡ false = grind (arith, nat_tests, c.if-row-target.false) in
    sym (value_before_last c.args.rows.now i d c.args.target c.args.tick within c.requires other)
    ∙ ap (λ n. value_at (take n c.args.rows.now) c.args.target c.args.tick) (sym next)
    ∙ c.loop-i.invariant
