use Rattle.std.proofs.Common.{refl}
use Rattle.gql_registry.proofs.registry.Registry.put_data.Goals as goal

pub returns-clause-makes : goal.returns-clause-makes
returns-clause-makes c = c.edit_one.ensures.makes

pub returns-clause-shelf : goal.returns-clause-shelf
returns-clause-shelf c = (c.edit_one.ensures.idle refl).0

pub returns-clause-pairs : goal.returns-clause-pairs
returns-clause-pairs c = (c.edit_one.ensures.idle refl).1

pub returns-clause-meter : goal.returns-clause-meter
returns-clause-meter c = (c.edit_one.ensures.idle refl).2
