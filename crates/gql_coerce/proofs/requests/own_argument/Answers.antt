use Rattle.std.proofs.Common.{option_map, rules}
use Rattle.std.specs.Option.{option_copied}
use Rattle.gql_types.specs.Written.{written}
use Rattle.gql_coerce.specs.Inputs.{literal}
use Rattle.gql_coerce.specs.Scopes.{variables_of}
use Rattle.gql_coerce.proofs.Arguments.{request_is}
use Rattle.gql_coerce.proofs.requests.own_argument.Goals as goal

pub returns : goal.returns
returns c = request_is c.args.scope.now.schema.now (written c.args.definition.now.of_type) (option_map (λ a. literal (variables_of c.args.scope.now) a.value) (option_copied c.args.given))
    c.args.definition.now.name.text c.as_str-name.result.now (option_copied c.as_ref-default.result) c.args.definition.now.default _ _ _ (search rules) (search rules)
    c.in_ok-found.ensures c.in_ok-coerced.ensures c.in_ok-placed.ensures
