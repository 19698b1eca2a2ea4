use Rattle.std.proofs.Common.{option_map, rules}
use Rattle.std.specs.Option.{option_copied}
use Rattle.gql_types.specs.Written.{written}
use Rattle.gql_coerce.specs.Outcomes.{said}
use Rattle.gql_coerce.proofs.Once.{once_is}
use Rattle.gql_coerce.proofs.ones.once.Goals as goal

pub returns-else-expects_list : goal.returns-else-expects_list
returns-else-expects_list c = once_is (option_map written (option_copied c.args.expected)) (said c.args.coerced) (search rules)
