use Rattle.std.proofs.Common.{arith}
use Rattle.std.specs.List.{flat_map, range_with_len}
use Rattle.pb_config.specs.Capturing.{captured_position, captured_own, layout_of}
use Rattle.pb_config.proofs.CapturingLemmas.{one_more, all_there, own_to_come}
use Rattle.pb_config.proofs.configs.Config.layout.Goals as goal

pub loop-entry-preserved : goal.loop-entry-preserved
loop-entry-preserved c =
    record {
      made =
          one_more (captured_position c.args.self.now.settings) c.loop-entry.layout c.capture_position.new.layout
          (flat_map (captured_position c.args.self.now.settings) (range_with_len 0 12)) c.loop-entry.entry 12
          c.loop-entry-test.true c.capture_position.ensures.added c.loop-entry.invariant.made;
      below = c.capture_position.ensures.below;
    }

pub loop-entry-2-init : goal.loop-entry-2-init
loop-entry-2-init c =
    record {
      made =
          own_to_come c.args.self.now.settings c.loop-entry.layout
          (all_there (captured_position c.args.self.now.settings) c.loop-entry.layout
          (flat_map (captured_position c.args.self.now.settings) (range_with_len 0 12)) c.loop-entry.entry 12
          (omega (arith, c.loop-entry-test.false)) c.loop-entry.invariant.made);
      below = λ k d lt. omega (arith, c.loop-entry.invariant.below k d lt, c.loop-entry.auto.entry-end);
    }

pub loop-entry-2-preserved : goal.loop-entry-2-preserved
loop-entry-2-preserved c =
    record {
      made =
          one_more (captured_own c.args.self.now.settings) c.loop-entry-2.layout c.capture_own.new.layout
          (layout_of c.args.self.now.settings) c.loop-entry-2.entry 40
          c.loop-entry-2-test.true c.capture_own.ensures.added c.loop-entry-2.invariant.made;
      below = c.capture_own.ensures.below;
    }
