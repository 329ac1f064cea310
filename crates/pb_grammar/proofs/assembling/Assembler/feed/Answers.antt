use Rattle.std.proofs.Common.{take, ap, ◌∙◌}
use Rattle.pb_grammar.proofs.StageLemmas.{Step, completed, fed_whole, still_fed, stepped, whole_fed}
use Rattle.pb_grammar.proofs.assembling.Assembler.feed.Goals as goal

step : (c : goal.After-has_whole) → Step c.args.self.now c.keep.new.self c.args.byte
step c =
    record {
      begun = record { bytes = take c.self.inside.used c.self.inside.bytes.items; stage = c.self.inside.stage };
      begins = c.self.view_is ∙ c.begin.ensures;
      kept = take c.self.inside.used c.deref.result.now;
      same = ap (take c.self.inside.used) c.deref.ensures.value;
      stage = c.next_stage-self-inside.result;
      next = c.next_stage-self-inside.ensures;
      made = c.keep.ensures;
    }

pub returns-clause-completes : goal.returns-clause-completes
returns-clause-completes c seen fed =
    let now = stepped c.args.self.now c.keep.new.self c.args.byte (step c) seen fed in
    (λ is. whole_fed c.keep.new.self _ now (c.has_whole.ensures.0 is), λ whole. c.has_whole.ensures.1 (fed_whole c.keep.new.self _ now whole))

pub returns-clause-whole : goal.returns-clause-whole
returns-clause-whole c seen fed is =
    completed c.keep.new.self _ (stepped c.args.self.now c.keep.new.self c.args.byte (step c) seen fed) (c.has_whole.ensures.0 is)

pub returns-clause-begun : goal.returns-clause-begun
returns-clause-begun c seen fed other =
    still_fed c.keep.new.self _ (stepped c.args.self.now c.keep.new.self c.args.byte (step c) seen fed) (λ w. other (c.has_whole.ensures.1 w))
