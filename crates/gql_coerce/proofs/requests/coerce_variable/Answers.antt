use Rattle.std.proofs.Common.{option_map, rules}
use Rattle.std.specs.Option.{option_copied}
use Rattle.serde_json.specs.View.{view}
use Rattle.gql_coerce.proofs.Arguments.{variable_is}
use Rattle.gql_coerce.proofs.requests.coerce_variable.Goals as goal

pub returns : goal.returns
returns c = variable_is c.args.schema.now (view c.args.values.now) c.args.definition.now c.as_str-name.result.now (option_copied c.as_ref-default.result) (option_map (λ v. view v.now) c.get.result) _ _ _ (search rules) (search rules) (search rules)
    c.in_ok-given.ensures c.in_ok-coerced.ensures c.in_ok-placed.ensures
