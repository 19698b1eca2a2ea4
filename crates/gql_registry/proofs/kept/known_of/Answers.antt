use Rattle.gql_registry.proofs.kept.known_of.Goals as goal

pub known_with-requires-clause-faults : goal.known_with-requires-clause-faults
known_with-requires-clause-faults c = c.in_ok-faults.ensures c.args.files.now c.requires c.in_ok-schema.ensures
