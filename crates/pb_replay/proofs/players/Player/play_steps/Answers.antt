use Rattle.std.proofs.Common.{refl, sym, ◌∙◌, arith}
use Rattle.pb_replay.specs.Steps.{step_line}
use Rattle.pb_replay.proofs.PendingLemmas.{rose_later}
use Rattle.pb_replay.proofs.ScriptLemmas.{stands_first, stands_more, stands_break, stands_spent, stands_limit, stands_end, stands_all, all_spent, wrote}
use Rattle.pb_replay.proofs.players.Player.play_steps.Goals as goal

pub loop-moment-init : goal.loop-moment-init
loop-moment-init g c =
    record {
      played = λ state h first. stands_first (step_line c.args.bytes.now) state c.args.self.now.core c.args.self.now.assemblers c.args.self.now.pending c.args.moments.now _ _ h c.requires.fed c.requires.pending c.requires.first first;
      count = omega arith;
    }

pub returns-in_default : goal.returns-in_default
returns-in_default g c =
    let inv = c.loop-moment.invariant in
    record {
      plays = λ state h first.
          stands_break (step_line c.args.bytes.now) state c.loop-moment.self.core c.loop-moment.self.assemblers c.loop-moment.self.pending c.args.moments.now c.loop-moment.moment-index _ _ _ _ _ c.loop-moment-test.true (inv.played state h first)
          c.play_step.result c.play_step.new.self.pending _ _ c.in_default.not-Ok (λ tick is. c.in_default.not-EventLimit tick is) c.play_step.ensures.plays c.play_step.ensures.went;
      calls = λ state h first.
          stands_spent (step_line c.args.bytes.now) state c.loop-moment.self.core c.loop-moment.self.assemblers c.loop-moment.self.pending c.args.moments.now c.loop-moment.moment-index _ _ _ _ _ c.loop-moment-test.true (inv.played state h first)
          c.play_step.result _ _ c.play_step.new.steps (omega arith) c.play_step.ensures.went;
      cause = λ is. rose_later _ _ _ inv.count (c.play_step.ensures.cause is);
      count = omega (arith, inv.count, c.play_step.ensures.count);
    }

pub returns-in-EventLimit : goal.returns-in-EventLimit
returns-in-EventLimit g c =
    let inv = c.loop-moment.invariant in
    record {
      plays = λ state h first.
          stands_limit (step_line c.args.bytes.now) state c.loop-moment.self.core c.loop-moment.self.assemblers c.loop-moment.self.pending c.args.moments.now c.loop-moment.moment-index _ _ _ _ _ c.loop-moment-test.true (inv.played state h first)
          c.in-EventLimit.tick c.stop_at.result c.play_step.new.self.pending _ _ _ c.in-EventLimit.ensures.went c.stop_at.ensures.plays;
      calls = λ state h first.
          stands_spent (step_line c.args.bytes.now) state c.loop-moment.self.core c.loop-moment.self.assemblers c.loop-moment.self.pending c.args.moments.now c.loop-moment.moment-index _ _ _ _ _ c.loop-moment-test.true (inv.played state h first)
          _ _ _ c.play_step.new.steps (omega arith) c.play_step.ensures.went;
      cause = λ is. rose_later _ _ _ (omega (arith, inv.count, c.play_step.ensures.count)) (c.stop_at.ensures.cause is);
      count = omega (arith, inv.count, c.play_step.ensures.count, c.stop_at.ensures.count);
    }

pub returns-then-is_last : goal.returns-then-is_last
returns-then-is_last g c =
    let inv = c.loop-moment.invariant in
    record {
      plays = λ state h first.
          stands_end (step_line c.args.bytes.now) state c.loop-moment.self.core c.loop-moment.self.assemblers c.loop-moment.self.pending c.args.moments.now c.loop-moment.moment-index _ _ _ _ _ c.loop-moment-test.true (inv.played state h first)
          c.played.result c.write_pending.result c.play_step.new.self.pending _ _ (Unit {0}) _ (sym (c.is_last.ensures c.args.bytes.now) ∙ c.if-is_last.true) c.played.ensures c.in-Ok.ensures.plays c.in-Ok.ensures.went c.write_pending.ensures.plays;
      calls = λ state h first.
          stands_spent (step_line c.args.bytes.now) state c.loop-moment.self.core c.loop-moment.self.assemblers c.loop-moment.self.pending c.args.moments.now c.loop-moment.moment-index _ _ _ _ _ c.loop-moment-test.true (inv.played state h first)
          _ _ _ c.play_step.new.steps (omega arith) c.play_step.ensures.went;
      cause = λ is. rose_later _ _ _ (omega (arith, inv.count, c.play_step.ensures.count)) (c.write_pending.ensures.cause (wrote c.write_pending.result (sym c.played.ensures ∙ is)));
      count = omega (arith, inv.count, c.play_step.ensures.count, c.write_pending.ensures.count);
    }

pub loop-moment-preserved : goal.loop-moment-preserved
loop-moment-preserved g c =
    let inv = c.loop-moment.invariant in
    record {
      played = λ state h first.
          stands_more (step_line c.args.bytes.now) state c.loop-moment.self.core c.loop-moment.self.assemblers c.loop-moment.self.pending c.args.moments.now c.loop-moment.moment-index _ _ _ _ _ c.loop-moment-test.true (inv.played state h first)
          c.play_step.new.self.core c.play_step.new.self.assemblers c.play_step.new.self.pending _ (Unit {0}) _ (sym (c.is_last.ensures c.args.bytes.now) ∙ c.if-is_last.false) c.in-Ok.ensures.plays (c.in-Ok.ensures.core refl) (c.in-Ok.ensures.fed refl) c.in-Ok.ensures.went;
      count = omega (arith, inv.count, c.play_step.ensures.count);
    }

pub returns : goal.returns
returns g c =
    let inv = c.loop-moment.invariant in
    record {
      plays = λ state h first.
          stands_all (step_line c.args.bytes.now) state c.loop-moment.self.core c.loop-moment.self.assemblers c.loop-moment.self.pending c.args.moments.now c.loop-moment.moment-index _ _ _ _ c.loop-moment-test.false (inv.played state h first) c.played-2.result c.write_pending-2.result _ c.played-2.ensures c.write_pending-2.ensures.plays;
      calls = λ state h first.
          all_spent (step_line c.args.bytes.now) state c.loop-moment.self.core c.loop-moment.self.assemblers c.loop-moment.self.pending c.args.moments.now c.loop-moment.moment-index _ _ _ _ c.loop-moment-test.false (inv.played state h first) c.loop-moment.steps (omega arith);
      cause = λ is. rose_later _ _ _ inv.count (c.write_pending-2.ensures.cause (wrote c.write_pending-2.result (sym c.played-2.ensures ∙ is)));
      count = omega (arith, inv.count, c.write_pending-2.ensures.count);
    }
