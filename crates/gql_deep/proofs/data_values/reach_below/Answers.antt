use Rattle.gql_deep.proofs.data_values.reach_below.Goals as goal

pub returns-clause-keeps : goal.returns-clause-keeps
returns-clause-keeps c = c.in_ok-group.ensures.keeps c.args.run.now
