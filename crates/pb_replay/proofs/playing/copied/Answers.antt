use Rattle.std.proofs.Common.{◌≤◌, sym, subst, rules}
use mir.Val.{SFits}
use Rattle.std.specs.Int.{w32}
use Rattle.std.proofs.lemmas.Int.{to_z-of_z}
use Rattle.pb_stim.specs.Stimulus.{last_tick}
use Rattle.pb_replay.proofs.CopiedRows.{next_not_below, one_more_copied, value_back}
use Rattle.pb_replay.proofs.playing.copied.Goals as goal

pub push-requires-clause-order : goal.push-requires-clause-order
push-requires-clause-order c =
    subst (λ rows. last_tick 0 rows ≤ c.row-tick.result.0) (sym c.loop-i.invariant)
    (next_not_below 0 c.loop-i.i c.args.stimulus.now _ c.len-i-end.ensures.rows.order c.row-tick.ensures.row)

pub loop-i-preserved : goal.loop-i-preserved
loop-i-preserved c =
    let fits : SFits w32 c.row-tick.result.2 = search rules in
    one_more_copied c.args.stimulus.now c.loop-i.copy c.push.new.self c.loop-i.i _ c.row-tick.ensures.row c.loop-i.invariant
    (value_back c.loop-i.copy c.push.new.self c.row-tick.result.0 c.row-tick.result.1 _ c.row-tick.result.2 (to_z-of_z w32 c.row-tick.result.2 fits) c.in_ok-push.ensures.ok)
