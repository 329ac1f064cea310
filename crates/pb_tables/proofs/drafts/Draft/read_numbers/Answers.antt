use Rattle.std.proofs.Common.{◌≡◌, true, false}
use Rattle.pb_tables.proofs.ReadSoFar.{written_numerals, word_read, large_read, all_read, large_found}
use Rattle.pb_tables.proofs.drafts.Draft.read_numbers.Goals as goal

pub returns-then-not-are_numerals-clause-err : goal.returns-then-not-are_numerals-clause-err
returns-then-not-are_numerals-clause-err c numbers written =
    let all : false ≡ true = c.if-not-are_numerals.ensures.1 (written_numerals numbers c.args.body.now written) in
    cc

pub loop-digits-preserved-in-Ok : goal.loop-digits-preserved-in-Ok
loop-digits-preserved-in-Ok c =
    word_read c.args.body.now c.loop-digits.rest.now c.in-Some.digits.now c.in-Some.behind.now c.loop-digits.self c.push.new.self c.loop-digits.fits c.in-Ok.word
    c.loop-digits.invariant c.in-Some.ensures.some c.in-Ok.ensures c.push.ensures.count c.push.ensures.held

pub loop-digits-preserved : goal.loop-digits-preserved
loop-digits-preserved c =
    large_read c.args.body.now c.loop-digits.rest.now c.in-Some.digits.now c.in-Some.behind.now c.loop-digits.self c.loop-digits.fits c.in-Err.field-0
    c.loop-digits.invariant c.in-Some.ensures.some c.in-Err.ensures

pub returns-then-fits-clause-ok : goal.returns-then-fits-clause-ok
returns-then-fits-clause-ok c =
    all_read c.args.body.now c.loop-digits.rest.now c.loop-digits.self (rw c.if-fits.true at c.loop-digits.invariant) c.in_default.ensures.none

pub returns-else-fits-clause-err : goal.returns-else-fits-clause-err
returns-else-fits-clause-err c =
    large_found c.args.body.now c.loop-digits.rest.now c.loop-digits.self (rw c.if-fits.false at c.loop-digits.invariant) c.in_default.ensures.none
