use Rattle.std.proofs.Common.{◌++◌, ◌∷◌, [], ◌∙◌, sym, refl}
use Rattle.std.proofs.lemmas.Bool.{false≢true}
use Rattle.pb_grammar.specs.Streams.{with_line}
use Rattle.pb_grammar.proofs.LineLemmas.{completed_has, completes_as, fed_after, fed_same, took_line}
use Rattle.pb_grammar.proofs.assembling.Assembler.feed_line.Goals as goal

-- a query that one look shows

pub returns-then-keep_query-clause-whole : goal.returns-then-keep_query-clause-whole
returns-then-keep_query-clause-whole c seen h =
    (took_line c.args.self.now c.begin.new.self c.keep_query.new.self seen c.args.line.now c.begin.ensures (c.keep_query.ensures.first c.if-keep_query.true)
    (c.keep_query.ensures.whole c.if-keep_query.true) h).whole

pub returns-then-keep_query-clause-completed : goal.returns-then-keep_query-clause-completed
returns-then-keep_query-clause-completed c seen h is =
    (took_line c.args.self.now c.begin.new.self c.keep_query.new.self seen c.args.line.now c.begin.ensures (c.keep_query.ensures.first c.if-keep_query.true)
    (c.keep_query.ensures.whole c.if-keep_query.true) h).completed

pub returns-then-keep_query-clause-fed : goal.returns-then-keep_query-clause-fed
returns-then-keep_query-clause-fed c seen h =
    (took_line c.args.self.now c.begin.new.self c.keep_query.new.self seen c.args.line.now c.begin.ensures (c.keep_query.ensures.first c.if-keep_query.true)
    (c.keep_query.ensures.whole c.if-keep_query.true) h).fed

pub returns-then-keep_query-clause-ended : goal.returns-then-keep_query-clause-ended
returns-then-keep_query-clause-ended c =
    (λ is. completed_has c.keep_query.new.self (c.args.line.now ++ 10 ∷ []) (c.keep_query.ensures.whole c.if-keep_query.true), λ has. refl)

-- another line

pub returns-clause-whole : goal.returns-clause-whole
returns-clause-whole c seen h =
    completes_as c.feed.result (with_line seen c.args.line.now)
    (c.feed.ensures.completes (seen ++ c.args.line.now)
    (c.feed_text.ensures seen
    (fed_same c.args.self.now c.begin.new.self c.keep_query.new.self seen c.begin.ensures
    (c.keep_query.ensures.same (λ is. false≢true (sym c.if-keep_query.false ∙ is))) h)))

pub returns-clause-completed : goal.returns-clause-completed
returns-clause-completed c seen h is =
    c.feed.ensures.whole (seen ++ c.args.line.now)
    (c.feed_text.ensures seen
    (fed_same c.args.self.now c.begin.new.self c.keep_query.new.self seen c.begin.ensures
    (c.keep_query.ensures.same (λ is. false≢true (sym c.if-keep_query.false ∙ is))) h)) is

pub returns-clause-fed : goal.returns-clause-fed
returns-clause-fed c seen h =
    let fed =
    c.feed_text.ensures seen
    (fed_same c.args.self.now c.begin.new.self c.keep_query.new.self seen c.begin.ensures
    (c.keep_query.ensures.same (λ is. false≢true (sym c.if-keep_query.false ∙ is))) h) in
    fed_after c.feed.result c.feed.new.self seen c.args.line.now
    (completes_as c.feed.result (with_line seen c.args.line.now) (c.feed.ensures.completes (seen ++ c.args.line.now) fed))
    c.feed.ensures.next (c.feed.ensures.begun (seen ++ c.args.line.now) fed)
