use Rattle.gql_collect.proofs.NestedGroups.{nested_groups}
use Rattle.gql_collect.proofs.laws.some_groups.Goals as goal

pub returns : goal.returns
returns c = nested_groups
