use Rattle.capture_tests.proofs.deadlines.coasts.Goals as goal

pub coast-requires-clause-calm : goal.coast-requires-clause-calm
coast-requires-clause-calm g c = c.in-None.ensures.horizon c.args.ticks
