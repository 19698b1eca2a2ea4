use Rattle.std.proofs.Common.{subst}
use Rattle.gql_folder.specs.Adding.{IsFresh}
use Rattle.gql_folder.proofs.folder.add_named.Goals as goal

pub returns-clause-fresh : goal.returns-clause-fresh
returns-clause-fresh c = subst (IsFresh c.args.name) c.as_slice.ensures.value c.in_default.ensures
