use Rattle.gql_merge.proofs.searching.found_clashes.Goals as goal

pub clashes_over_clean-requires-clause-clean : goal.clashes_over_clean-requires-clause-clean
clashes_over_clean-requires-clause-clean c = c.requires.clean c.if-known.true
