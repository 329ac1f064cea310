use Rattle.std.proofs.Common.{◌≡◌, codes, inl, inr, refl, subst}
use Rattle.panda_sim.specs.Run.{IsReplay}
use Rattle.panda_sim.specs.Made.{IsAsked, IsKnown}
use Rattle.panda_sim.specs.Replayed.{EndsUnread}
use Rattle.panda_sim.proofs.Causes.{ends_on_no_script, ends_on_script, fault_of_all, not_usage}
use Rattle.panda_sim.proofs.Forms.{asks_begins, asked_begins, bench_isnt_replay, known_bench, known_make, known_replay, make_isnt_bench, make_isnt_replay, unread_fault, usage_by, usage_leaves}
use Rattle.panda_sim.proofs.TakenLemmas.{bounded_at_first}
use Rattle.panda_sim.proofs.running.run.Goals as goal

pub returns-then-is_make-clause-usage : goal.returns-then-is_make-clause-usage
returns-then-is_make-clause-usage g c =
    let words = c.args.words.now in
    usage_by c.write_script.result (IsAsked (codes "make") words) (IsKnown words) c.write_script.ensures.usage (λ a. inr (inl a)) (known_make words (c.is_make.ensures.begin c.if-is_make.true))

pub returns-then-is_make-clause-known : goal.returns-then-is_make-clause-known
returns-then-is_make-clause-known g c = λ known. inr (inl (c.write_script.ensures.known known))

pub returns-then-is_make-clause-nothing : goal.returns-then-is_make-clause-nothing
returns-then-is_make-clause-nothing g c = λ is. (refl, c.write_script.ensures.nothing is, refl)

pub returns-then-is_make-clause-leaves : goal.returns-then-is_make-clause-leaves
returns-then-is_make-clause-leaves g c = λ is. absurd (make_isnt_replay c.args.words.now (c.is_make.ensures.begin c.if-is_make.true) is)

pub returns-then-is_make-clause-bounded : goal.returns-then-is_make-clause-bounded
returns-then-is_make-clause-bounded g c = bounded_at_first _ _ refl

pub returns-then-is_make-clause-told : goal.returns-then-is_make-clause-told
returns-then-is_make-clause-told g c n seed asks =
    absurd (make_isnt_bench c.args.words.now (c.is_make.ensures.begin c.if-is_make.true) (asks_begins (codes "bench") c.args.words.now n seed asks))

pub returns-then-is_make-clause-read_cause : goal.returns-then-is_make-clause-read_cause
returns-then-is_make-clause-read_cause g c = λ is. absurd (unread_fault c.write_script.result c.write_script.ensures.ends is)

pub returns-then-is_make-clause-fault : goal.returns-then-is_make-clause-fault
returns-then-is_make-clause-fault g c bytes line cause given is = absurd (subst EndsUnread is c.write_script.ensures.ends)

pub returns-then-is_make-clause-script : goal.returns-then-is_make-clause-script
returns-then-is_make-clause-script g c bytes is given none = absurd (make_isnt_replay c.args.words.now (c.is_make.ensures.begin c.if-is_make.true) is)

pub returns-then-is_make-clause-calls : goal.returns-then-is_make-clause-calls
returns-then-is_make-clause-calls g c = λ is. absurd (make_isnt_replay c.args.words.now (c.is_make.ensures.begin c.if-is_make.true) is)

pub returns-then-is_make-clause-bench_calls : goal.returns-then-is_make-clause-bench_calls
returns-then-is_make-clause-bench_calls g c n seed asks =
    absurd (make_isnt_bench c.args.words.now (c.is_make.ensures.begin c.if-is_make.true) (asks_begins (codes "bench") c.args.words.now n seed asks))

pub returns-then-is_make-clause-complete : goal.returns-then-is_make-clause-complete
returns-then-is_make-clause-complete g c bytes lines is given script input output =
    absurd (make_isnt_replay c.args.words.now (c.is_make.ensures.begin c.if-is_make.true) is)

pub returns-then-is_make-clause-bench_complete : goal.returns-then-is_make-clause-bench_complete
returns-then-is_make-clause-bench_complete g c = λ asked output.
    absurd (make_isnt_bench c.args.words.now (c.is_make.ensures.begin c.if-is_make.true) (asked_begins (codes "bench") c.args.words.now asked))

pub returns-then-is_bench-clause-usage : goal.returns-then-is_bench-clause-usage
returns-then-is_bench-clause-usage g c =
    let words = c.args.words.now in
    usage_by c.tell_output.result (IsAsked (codes "bench") words) (IsKnown words) c.tell_output.ensures.usage (λ a. inr (inr a)) (known_bench words (c.is_bench.ensures.begin c.if-is_bench.true))

pub returns-then-is_bench-clause-known : goal.returns-then-is_bench-clause-known
returns-then-is_bench-clause-known g c = λ known. inr (inr (c.tell_output.ensures.known known))

pub returns-then-is_bench-clause-nothing : goal.returns-then-is_bench-clause-nothing
returns-then-is_bench-clause-nothing g c = λ is. (refl, (c.tell_output.ensures.nothing is).0, (c.tell_output.ensures.nothing is).1)

pub returns-then-is_bench-clause-leaves : goal.returns-then-is_bench-clause-leaves
returns-then-is_bench-clause-leaves g c = λ is. absurd (bench_isnt_replay c.args.words.now (c.is_bench.ensures.begin c.if-is_bench.true) is)

pub returns-then-is_bench-clause-bounded : goal.returns-then-is_bench-clause-bounded
returns-then-is_bench-clause-bounded g c = bounded_at_first _ _ refl

pub returns-then-is_bench-clause-made : goal.returns-then-is_bench-clause-made
returns-then-is_bench-clause-made g c n seed asks =
    absurd (make_isnt_bench c.args.words.now (asks_begins (codes "make") c.args.words.now n seed asks) (c.is_bench.ensures.begin c.if-is_bench.true))

pub returns-then-is_bench-clause-read_cause : goal.returns-then-is_bench-clause-read_cause
returns-then-is_bench-clause-read_cause g c = λ is. absurd (unread_fault c.tell_output.result c.tell_output.ensures.ends is)

pub returns-then-is_bench-clause-fault : goal.returns-then-is_bench-clause-fault
returns-then-is_bench-clause-fault g c bytes line cause given is = absurd (subst EndsUnread is c.tell_output.ensures.ends)

pub returns-then-is_bench-clause-script : goal.returns-then-is_bench-clause-script
returns-then-is_bench-clause-script g c bytes is given none = absurd (bench_isnt_replay c.args.words.now (c.is_bench.ensures.begin c.if-is_bench.true) is)

pub returns-then-is_bench-clause-calls : goal.returns-then-is_bench-clause-calls
returns-then-is_bench-clause-calls g c = λ is. absurd (bench_isnt_replay c.args.words.now (c.is_bench.ensures.begin c.if-is_bench.true) is)

pub returns-then-is_bench-clause-make_calls : goal.returns-then-is_bench-clause-make_calls
returns-then-is_bench-clause-make_calls g c = λ asked.
    absurd (make_isnt_bench c.args.words.now (asked_begins (codes "make") c.args.words.now asked) (c.is_bench.ensures.begin c.if-is_bench.true))

pub returns-then-is_bench-clause-complete : goal.returns-then-is_bench-clause-complete
returns-then-is_bench-clause-complete g c bytes lines is given script input output =
    absurd (bench_isnt_replay c.args.words.now (c.is_bench.ensures.begin c.if-is_bench.true) is)

pub returns-then-is_bench-clause-make_complete : goal.returns-then-is_bench-clause-make_complete
returns-then-is_bench-clause-make_complete g c = λ asked output.
    absurd (make_isnt_bench c.args.words.now (asked_begins (codes "make") c.args.words.now asked) (c.is_bench.ensures.begin c.if-is_bench.true))

pub returns-clause-usage : goal.returns-clause-usage
returns-clause-usage g c =
    let words = c.args.words.now in
    usage_by c.run_words.result (IsReplay words) (IsKnown words) c.run_words.ensures.usage (λ is. inl is)
    (known_replay words (c.is_make.ensures.other c.if-is_make.false) (c.is_bench.ensures.other c.if-is_bench.false))

pub returns-clause-known : goal.returns-clause-known
returns-clause-known g c = λ known. inl (c.run_words.ensures.known known)

pub returns-clause-nothing : goal.returns-clause-nothing
returns-clause-nothing g c = λ is.
    let left = usage_leaves c.run_words.result _ _ _ _ c.run_words.ensures.leaves is in
    (left.0, left.1, c.run_words.ensures.nothing is)

pub returns-clause-made : goal.returns-clause-made
returns-clause-made g c n seed asks = absurd (c.is_make.ensures.other c.if-is_make.false (asks_begins (codes "make") c.args.words.now n seed asks))

pub returns-clause-told : goal.returns-clause-told
returns-clause-told g c n seed asks = absurd (c.is_bench.ensures.other c.if-is_bench.false (asks_begins (codes "bench") c.args.words.now n seed asks))

pub returns-clause-make_calls : goal.returns-clause-make_calls
returns-clause-make_calls g c = λ asked. absurd (c.is_make.ensures.other c.if-is_make.false (asked_begins (codes "make") c.args.words.now asked))

pub returns-clause-bench_calls : goal.returns-clause-bench_calls
returns-clause-bench_calls g c n seed asks = absurd (c.is_bench.ensures.other c.if-is_bench.false (asks_begins (codes "bench") c.args.words.now n seed asks))

pub returns-clause-make_complete : goal.returns-clause-make_complete
returns-clause-make_complete g c = λ asked output. absurd (c.is_make.ensures.other c.if-is_make.false (asked_begins (codes "make") c.args.words.now asked))

pub returns-clause-bench_complete : goal.returns-clause-bench_complete
returns-clause-bench_complete g c = λ asked output. absurd (c.is_bench.ensures.other c.if-is_bench.false (asked_begins (codes "bench") c.args.words.now asked))

pub returns-clause-fault : goal.returns-clause-fault
returns-clause-fault g c bytes line cause told is =
    fault_of_all c.run_words.result line cause bytes _ _ _ _ c.run_words.ensures.leaves is told

pub returns-clause-script : goal.returns-clause-script
returns-clause-script g c bytes words told none =
    let ran = c.run_words.ensures in
    ends_on_no_script c.run_words.result bytes _ _ _ _ ran.leaves (not_usage c.run_words.result (IsReplay c.args.words.now) ran.usage.0 words) told none

pub returns-clause-complete : goal.returns-clause-complete
returns-clause-complete g c bytes lines words told script input output =
    let ran = c.run_words.ensures in
    ends_on_script c.run_words.result bytes lines _ _ _ _ _ _ _ _ ran.leaves (not_usage c.run_words.result (IsReplay c.args.words.now) ran.usage.0 words) ran.read_cause ran.write_cause told script input output
