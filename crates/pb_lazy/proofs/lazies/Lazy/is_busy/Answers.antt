use Rattle.std.proofs.Common.{false, sym, ◌∙◌, refl}
use Rattle.std.proofs.lemmas.Bool.{false≢true}
use Rattle.pb_lazy.specs.declared.lazies.Lazy.{Lazy}
use Rattle.pb_lazy.proofs.CallLemmas.{not_true, not_false}
use Rattle.pb_lazy.proofs.MeetLemmas.{quiet_is_met, is_idle, not_idle}
use Rattle.pb_lazy.proofs.lazies.Lazy.is_busy.Goals as goal

pub returns-then-is_plain : goal.returns-then-is_plain
returns-then-is_plain c =
    let q = c.is_plain.ensures c.if-is_plain.true in
    record {
      busy = λ e. absurd (false≢true e);
      idle = λ e. (quiet_is_met c.args.buses.now.bus c.args.tick c.args.self.now c.requires.sound q.1).1;
    }

pub returns : goal.returns
returns c =
    let lazy : Lazy = c.args.self.now in
    let bus = c.args.buses.now.bus in
    let tick = c.args.tick in
    record {
      busy = λ e. not_idle bus tick false lazy c.requires.sound c.requires.known c.requires.tick (λ all.
          false≢true (sym (not_true _ e) ∙ c.goes_on.ensures.1 (refl, all.1, c.look-inputs.ensures ∙ all.2)));
      idle = λ e.
          let all = c.goes_on.ensures.0 (not_false _ e) in
          is_idle bus tick lazy c.requires.sound c.requires.known all.1 (sym c.look-inputs.ensures ∙ all.2);
    }
