use Rattle.std.proofs.Common.{◌≡◌, ◌<◌, ◌≤◌, length, get_or, sym, ap, subst, ◌∙◌, arith, rules}
use Rattle.std.proofs.lemmas.List.{take_more}
use Rattle.std.proofs.lemmas.Option.{get_or_from_slice_get}
use Rattle.std.specs.Int.{w32}
use mir.Val.{SFits}
use Rattle.std.proofs.lemmas.Int.{to_z-of_z}
use Rattle.pb_stim.specs.declared.Row.{Row}
use Rattle.pb_stim.proofs.StimulusLemmas.{AllByRecursion-push, coming_from}
use Rattle.pb_still.specs.Current.{with_row}
use Rattle.pb_still.proofs.LevelLemmas.{levels_more, values_at-front}
use Rattle.pb_still.proofs.placing.put_rows.Goals as goal

pub loop-next-preserved : goal.loop-next-preserved
loop-next-preserved c =
    let inv = c.loop-next.invariant in
    let rows = c.args.stimulus.now in
    let next = c.loop-next.next in
    let within : next < length rows = omega (arith, c.loop-next-test.true, c.len-count.ensures.len) in
    let row : Row = record { tick = c.row-at.result.0; target = c.row-at.result.1; value = c.row-at.result.2 } in
    let here : get_or rows next row ≡ row = get_or_from_slice_get rows next row row c.row-at.ensures.row in
    let fits : SFits w32 c.row-at.result.2 = search rules in
    let more = take_more rows next row within in
    let come : (get_or rows next row).tick ≤ c.args.tick =
    subst (λ (r : Row). r.tick ≤ c.args.tick) (sym here) c.if-tick-at.false in
    record {
      within = omega (arith, within);
      past = rw more (AllByRecursion-push (λ (r : Row). r.tick ≤ c.args.tick) _ _ inv.past come);
      levels =
          levels_more rows next c.args.tick row _ _ within come inv.levels
          (c.put_row.ensures ∙ (ap (with_row c.loop-next.values c.row-at.result.1) (to_z-of_z w32 c.row-at.result.2 fits) ∙ ap (λ (r : Row). with_row c.loop-next.values r.target r.value) (sym here)));
    }

pub returns-then-tick-at : goal.returns-then-tick-at
returns-then-tick-at c =
    let inv = c.loop-next.invariant in
    let rows = c.args.stimulus.now in
    let next = c.loop-next.next in
    let within : next < length rows = omega (arith, c.loop-next-test.true, c.len-count.ensures.len) in
    let row : Row = record { tick = c.row-at.result.0; target = c.row-at.result.1; value = c.row-at.result.2 } in
    let here : get_or rows next row ≡ row = get_or_from_slice_get rows next row row c.row-at.ensures.row in
    let later : c.args.tick < (get_or rows next row).tick =
    subst (λ (r : Row). c.args.tick < r.tick) (sym here) c.if-tick-at.true in
    let coming = coming_from rows 0 next c.args.tick row c.len-count.ensures.rows.order within later in
    record {
      within = inv.within;
      past = inv.past;
      coming = coming;
      levels = inv.levels ∙ values_at-front rows next c.args.tick coming;
      small = c.requires.small;
    }
