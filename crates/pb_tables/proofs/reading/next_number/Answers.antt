use Rattle.std.proofs.Common.{sym}
use Rattle.pb_tables.proofs.NumberCuts.{only_blanks, leads}
use Rattle.pb_tables.proofs.reading.next_number.Goals as goal

pub returns-in-None-clause-none : goal.returns-in-None-clause-none
returns-in-None-clause-none c = only_blanks c.args.body.now c.requires (sym c.in-None.ensures.place)

pub returns-clause-some : goal.returns-clause-some
returns-clause-some c =
    rw (c.split_at-2.ensures.front, c.split_at-2.ensures.back, c.split_at.ensures.back)
    (leads c.args.body.now c.in-Some.start c.first_blank-end.result c.requires (sym c.in-Some.ensures.place) (rw c.split_at.ensures.back at c.first_blank-end.ensures))
