use Rattle.std.proofs.Common.{◌+◌, ◌-◌, ◌++◌, sym, ap, ◌∙◌, arith}
use Rattle.std.specs.List.{range_with_len}
use Rattle.pb_changes.specs.Helpers.{is_read_due, read_line, read_lines}
use Rattle.pb_changes.proofs.WalkLemmas.{one_listed, none_listed, range_one}
use Rattle.pb_changes.proofs.reads.add_reads.Goals.{then-is_due+in_ok-add_read, else-is_due}
use Rattle.pb_changes.proofs.reads.add_reads.Goals as goal

pub loop-place-preserved : goal.loop-place-preserved
loop-place-preserved c =
    let before = c.args.before.now in
    let values = c.args.values.now in
    let k = c.loop-place.place in
    let rest = range_with_len (k + 1) (24 - (k + 1)) in
    let whole =
    sym (ap (λ ks. c.loop-place.text ++ read_lines before values ks) (range_one k 24 (omega arith))) ∙ c.loop-place.invariant in
    elim c.if-is_due.branch [
      | then-is_due+in_ok-add_read w ↦
          one_listed (is_read_due before values) (read_line values) k rest c.loop-place.text c.if-is_due.text _ (sym c.is_due.ensures ∙ w.if-is_due.true) (w.text-is ∙ w.in_ok-add_read.ensures) whole
      | else-is_due w ↦
          rw w.text-is
          (none_listed (is_read_due before values) (read_line values) k rest c.loop-place.text _ (sym c.is_due.ensures ∙ w.if-is_due.false) whole)
    ]
