use Rattle.gql_registry.proofs.registry.Registry.put_schema.Goals as goal

pub returns-clause-makes : goal.returns-clause-makes
returns-clause-makes c = c.edit_one.ensures.makes

pub returns-clause-shelf : goal.returns-clause-shelf
returns-clause-shelf c = c.edit_one.ensures.shelf

pub returns-clause-pairs : goal.returns-clause-pairs
returns-clause-pairs c = c.edit_one.ensures.pairs

pub returns-clause-walked : goal.returns-clause-walked
returns-clause-walked c = c.edit_one.ensures.walked

pub returns-clause-works : goal.returns-clause-works
returns-clause-works c = c.edit_one.ensures.works
