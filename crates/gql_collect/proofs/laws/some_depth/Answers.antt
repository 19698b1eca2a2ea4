use Rattle.gql_collect.proofs.Nested.{all_nest}
use Rattle.gql_collect.proofs.laws.some_depth.Goals as goal

pub returns : goal.returns
returns c = all_nest
