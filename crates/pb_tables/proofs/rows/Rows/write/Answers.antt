use Rattle.std.proofs.Common.{◌≡◌, ◌+◌, ◌++◌, ◌∙◌, take, drop, length, inl, refl, subst, sym, arith}
use Rattle.pb_tables.specs.Tables.{IsTable, CanFollow, IsWritten, kept}
use Rattle.pb_tables.proofs.ComputedLemmas.{write_computed, refused_computed}
use Rattle.pb_tables.proofs.TableLemmas.{refused_words, table_left, IsTable-append, IsTable-kept}
use Rattle.pb_tables.proofs.rows.Rows.write.Goals as goal

-- the body says no words
pub returns-in-Err-clause-told : goal.returns-in-Err-clause-told
returns-in-Err-clause-told c =
    (refused_computed c.args.self.now c.args.append c.args.base64 c.args.body.now c.in-Err.refusal (inl c.in-Err.ensures.err)).0

pub returns-in-Err-clause-left : goal.returns-in-Err-clause-left
returns-in-Err-clause-left c =
    c.self.view_is
    ∙ (refused_computed c.args.self.now c.args.append c.args.base64 c.args.body.now c.in-Err.refusal (inl c.in-Err.ensures.err)).1

-- the words can't follow
pub returns-in-Err-check-clause-err : goal.returns-in-Err-check-clause-err
returns-in-Err-check-clause-err c =
    refused_words c.args.self.now c.args.append c.args.base64 c.args.body.now c.in-Err-check.reason c.read.new.self c.kept-start.result c.in-Ok.ensures.ok c.kept-start.ensures.kept c.in-Err-check.ensures.err

pub returns-in-Err-check-clause-told : goal.returns-in-Err-check-clause-told
returns-in-Err-check-clause-told c =
    (refused_computed c.args.self.now c.args.append c.args.base64 c.args.body.now c.in-Err-check.reason
    (refused_words c.args.self.now c.args.append c.args.base64 c.args.body.now c.in-Err-check.reason c.read.new.self c.kept-start.result c.in-Ok.ensures.ok c.kept-start.ensures.kept c.in-Err-check.ensures.err)).0

pub returns-in-Err-check-clause-left : goal.returns-in-Err-check-clause-left
returns-in-Err-check-clause-left c =
    c.self.view_is ∙ (refused_computed c.args.self.now c.args.append c.args.base64 c.args.body.now c.in-Err-check.reason
    (refused_words c.args.self.now c.args.append c.args.base64 c.args.body.now c.in-Err-check.reason c.read.new.self c.kept-start.result c.in-Ok.ensures.ok c.kept-start.ensures.kept c.in-Err-check.ensures.err)).1

-- the words follow

left : (c : goal.After-self-3-1) → take (c.kept-start.result + c.read.new.self.count) (take c.self.inside.table.len (c.put_at.new.table ++ drop (length c.put_at.new.table) c.self.inside.table.items)) ≡ kept c.args.append c.args.self.now ++ c.in-Ok.ensures.ok.words
left c =
    let read = c.in-Ok.ensures.ok in
    let follow : CanFollow c.kept-start.result read.words = c.in-Ok-check.ensures.ok read.words read.held in
    let sized = c.self.inside.table.ok in
    table_left c.args.append c.self.inside.table.items c.put_at.new.table c.args.self.now c.as_mut_slice.result.now c.deref.result.now read.words c.self.inside.used c.kept-start.result c.self.inside.table.len c.read.new.self
    c.self.invariant.0 (omega (arith, c.self.invariant.1)) c.self.invariant.1 (omega (arith, c.put_at.auto.table, c.as_mut_slice.ensures.len, c.self.invariant.1)) (sym c.self.view_is) c.kept-start.ensures.kept read.held follow c.as_mut_slice.ensures.value c.deref.ensures.value c.put_at.ensures

table : (c : goal.After-self-3-1) → IsTable (kept c.args.append c.args.self.now ++ c.in-Ok.ensures.ok.words)
table c =
    let read = c.in-Ok.ensures.ok in
    let follow : CanFollow c.kept-start.result read.words = c.in-Ok-check.ensures.ok read.words read.held in
    let old : IsTable c.args.self.now = subst IsTable c.self.view_is c.self.invariant.2 in
    IsTable-append (kept c.args.append c.args.self.now) read.words (IsTable-kept c.args.append c.args.self.now old) (rw c.kept-start.ensures.kept at follow)

pub invariant_of-self-2 : goal.invariant_of-self-2
invariant_of-self-2 c =
    let read = c.in-Ok.ensures.ok in
    let follow : CanFollow c.kept-start.result read.words = c.in-Ok-check.ensures.ok read.words read.held in
    let counted = read.held.counted in
    let short = follow.short in
    (omega arith, c.self.invariant.1, subst IsTable (sym (left c)) (table c))

pub returns-clause-ok : goal.returns-clause-ok
returns-clause-ok c =
    let read = c.in-Ok.ensures.ok in
    let follow : CanFollow c.kept-start.result read.words = c.in-Ok-check.ensures.ok read.words read.held in
    record {
      words = read.words;
      said = read.said;
      fit = rw c.kept-start.ensures.kept at follow;
      left = left c;
    }

is_written : (c : goal.After-self-3-1) → IsWritten c.args.self.now c.args.append c.args.base64 c.args.body.now (kept c.args.append c.args.self.now ++ c.in-Ok.ensures.ok.words)
is_written c =
    let read = c.in-Ok.ensures.ok in
    let follow : CanFollow c.kept-start.result read.words = c.in-Ok-check.ensures.ok read.words read.held in
    record { words = read.words; said = read.said; fit = rw c.kept-start.ensures.kept at follow; left = refl }

pub returns-clause-told : goal.returns-clause-told
returns-clause-told c =
    (write_computed c.args.self.now c.args.append c.args.base64 c.args.body.now (kept c.args.append c.args.self.now ++ c.in-Ok.ensures.ok.words) (is_written c)).0

pub returns-clause-left : goal.returns-clause-left
returns-clause-left c =
    left c
    ∙ (write_computed c.args.self.now c.args.append c.args.base64 c.args.body.now (kept c.args.append c.args.self.now ++ c.in-Ok.ensures.ok.words) (is_written c)).1
