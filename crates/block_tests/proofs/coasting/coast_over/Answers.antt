use Rattle.block_tests.proofs.coasting.coast_over.Goals as goal

pub coast-requires-clause-calm : goal.coast-requires-clause-calm
coast-requires-clause-calm g c = c.in_default.ensures.horizon c.args.most
