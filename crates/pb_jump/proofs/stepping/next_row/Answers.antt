use Rattle.std.proofs.Common.{◌≡◌, ◌<◌, length, get_or, sym, subst, arith}
use Rattle.std.proofs.lemmas.Option.{get_or_from_slice_get}
use Rattle.pb_stim.specs.declared.Row.{Row}
use Rattle.pb_stim.proofs.StimulusLemmas.{coming_from}
use Rattle.pb_going.proofs.RowLemmas.{first_comes}
use Rattle.pb_jump.proofs.stepping.next_row.Goals as goal

pub returns-clause-coming : goal.returns-clause-coming
returns-clause-coming c k below =
    let rows = c.args.stimulus.now in
    let place = c.args.place in
    let row : Row = record { tick = c.row-at.result.0; target = c.row-at.result.1; value = c.row-at.result.2 } in
    let within : place < length rows = omega (arith, c.len.ensures.len) in
    let here : get_or rows place row ≡ row = get_or_from_slice_get rows place row row c.row-at.ensures.row in
    let later : k < (get_or rows place row).tick = subst (λ (r : Row). k < r.tick) (sym here) (omega arith) in
    coming_from rows 0 place k row c.len.ensures.rows.order within later

pub returns-clause-ahead : goal.returns-clause-ahead
returns-clause-ahead c k below all =
    let rows = c.args.stimulus.now in
    let place = c.args.place in
    let row : Row = record { tick = c.row-at.result.0; target = c.row-at.result.1; value = c.row-at.result.2 } in
    let within : place < length rows = omega (arith, c.len.ensures.len) in
    let here : get_or rows place row ≡ row = get_or_from_slice_get rows place row row c.row-at.ensures.row in
    let later : k < row.tick =
    subst (λ (r : Row). k < r.tick) here (first_comes (λ (r : Row). k < r.tick) rows place row within all) in
    omega arith
