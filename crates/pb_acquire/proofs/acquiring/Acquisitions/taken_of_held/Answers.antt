use Rattle.std.proofs.Common.{◌≡◌, rules, IfOk, OnErr}
use Rattle.pb_acquire.specs.Taking.{HandsBytes}
use Rattle.pb_acquire.proofs.FindingLemmas.{of_found, is_found}
use Rattle.pb_acquire.proofs.acquiring.Acquisitions.taken_of_held.Goals as goal

pub taken_of-requires : goal.taken_of-requires
taken_of-requires c = record { next = λ _. c.requires.next }

pub returns-in-Some-clause-ok : goal.returns-in-Some-clause-ok
returns-in-Some-clause-ok c = λ all agrees need.
    of_found (λ t. IfOk c.taken_of.result (λ taken. taken ≡ t)) c.args.self.now all c.args.reader.now c.over.inside.records c.over.inside.condition
    c.over.inside.before c.in-Some.over.now agrees c.requires.over need (search rules) (search rules) c.taken_of.ensures.ok

pub returns-in-Some-clause-err : goal.returns-in-Some-clause-err
returns-in-Some-clause-err c = λ all agrees need.
    of_found (λ t. OnErr c.taken_of.result (HandsBytes t)) c.args.self.now all c.args.reader.now c.over.inside.records c.over.inside.condition
    c.over.inside.before c.in-Some.over.now agrees c.requires.over need (search rules) (search rules) c.taken_of.ensures.err

pub returns-in-None-clause-ok : goal.returns-in-None-clause-ok
returns-in-None-clause-ok c = λ all agrees need. absurd (is_found c.args.self.now all c.args.reader.now agrees c.requires.over need (search rules))
