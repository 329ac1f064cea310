use Rattle.std.proofs.Common.{[], ◌∷◌, arith}
use Rattle.std.proofs.lemmas.List.{length-append}
use Rattle.pb_tables.proofs.DraftLemmas.{held_more, held_full}
use Rattle.pb_tables.proofs.drafts.Draft.push.Goals as goal

pub returns-then-self-ge-MOST-clause-held : goal.returns-then-self-ge-MOST-clause-held
returns-then-self-ge-MOST-clause-held c words h =
    record {
      counted = omega (arith, h.counted, length-append words (c.args.word ∷ []));
      held = held_full c.args.self.now.words.items words c.args.self.now.count c.args.word (omega (arith, c.args.self.now.sized, c.args.self.now.words.ok)) (omega arith) h.counted h.held;
    }

pub returns-clause-held : goal.returns-clause-held
returns-clause-held c words h =
    record {
      counted = omega (arith, h.counted, length-append words (c.args.word ∷ []));
      held = held_more c.args.self.now.words.items words c.args.self.now.count c.args.word (omega (arith, c.args.self.now.sized, c.args.self.now.words.ok)) (omega arith) h.counted h.held;
    }
