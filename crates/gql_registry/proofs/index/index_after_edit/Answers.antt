use Rattle.gql_registry.proofs.index.index_after_edit.Goals as goal

pub returns : goal.returns
returns c = record {
  fragments = c.in_ok-fragments.ensures;
  operations = c.in_ok-operations.ensures c.requires.index.0.documents c.requires.index.1.operations c.requires.index.2 c.requires.index.3;
}
