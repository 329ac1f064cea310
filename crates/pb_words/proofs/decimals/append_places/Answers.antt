use Rattle.std.proofs.Common.{◌-◌, length-append, rules, arith}
use Rattle.std.proofs.lemmas.Grind.{common_steps}
use Rattle.pb_words.proofs.PlaceLemmas.{place_step, places_none, places_end, pushed}
use Rattle.pb_words.proofs.decimals.append_places.Goals as goal

pub nonzero_div-rest : goal.nonzero_div-rest
nonzero_div-rest c = (place_step c.loop-place._place _ _ (omega arith) (omega arith) c.loop-place.invariant.less c.loop-place.invariant.unit).unit_some

pub nonzero_rem-rest : goal.nonzero_rem-rest
nonzero_rem-rest c = (place_step c.loop-place._place _ _ (omega arith) (omega arith) c.loop-place.invariant.less c.loop-place.invariant.unit).unit_some

pub returns-then-rest-eq0 : goal.returns-then-rest-eq0
returns-then-rest-eq0 c =
    let e = places_none (9 - c.loop-place._place) in
    let z = c.if-rest-eq0.true in
    let i = rw z at c.loop-place.invariant.written in
    grind (arith, common_steps)

pub loop-place-preserved : goal.loop-place-preserved
loop-place-preserved c =
    let s = place_step c.loop-place._place _ _ (omega arith) (omega arith) c.loop-place.invariant.less c.loop-place.invariant.unit in
    record {
      written = pushed _ _ _ _ _ _ c.push.ensures s.more c.loop-place.invariant.written;
      room = search (rules, length-append);
      less = s.less;
      unit = s.next;
    }

pub returns : goal.returns
returns c =
    let e = places_end c.loop-place._place c.loop-place.rest (omega arith) in
    let i = rw e at c.loop-place.invariant.written in
    grind (arith, common_steps)
