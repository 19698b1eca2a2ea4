use Rattle.std.proofs.Common.{◌≡◌, ℕ, Some, map, option_map, ap, sym, rules}
use Rattle.std.specs.Option.{option_copied}
use Rattle.gql_types.specs.Written.{written}
use Rattle.serde_json.specs.View.{view}
use Rattle.gql_coerce.specs.Comes.{Eventually}
use Rattle.gql_coerce.specs.Inputs.{literal}
use Rattle.gql_coerce.specs.Outcomes.{argument_said, said, value}
use Rattle.gql_coerce.specs.Requests.{argument_value}
use Rattle.gql_coerce.specs.Scopes.{variables_of}
use Rattle.gql_coerce.proofs.Arguments.{argument_is, at_once}
use Rattle.gql_coerce.proofs.InTime.{to, ok_onward}
use Rattle.gql_coerce.proofs.requests.coerce_argument.Goals as goal

pub returns-in_ok-coerced-in-None : goal.returns-in_ok-coerced-in-None
returns-in_ok-coerced-in-None c =
    let arguments = map (λ g. g.argument.now) c.args.given.now in
    let value_at = λ (n : ℕ). argument_value n c.args.scope.now.schema.now (variables_of c.args.scope.now) arguments c.args.definition.now in
    ok_onward c.as_argument.result (λ a. argument_said a ≡ said c.in_ok-coerced-in-None.coerced) (λ a. Eventually (λ n. value_at n ≡ argument_said a))
    (λ a is. to value_at _ _ (argument_is c.args.scope.now.schema.now (variables_of c.args.scope.now) arguments c.args.definition.now c.as_str.result.now (option_copied c.argument_named-given.result) _
    (search rules) c.argument_named-given.ensures c.in_ok-coerced-in-None.ensures) (sym is)) c.as_argument.ensures

pub returns-in_ok-clone-in-Some : goal.returns-in_ok-clone-in-Some
returns-in_ok-clone-in-Some c =
    let arguments = map (λ g. g.argument.now) c.args.given.now in
    let value_at = λ (n : ℕ). argument_value n c.args.scope.now.schema.now (variables_of c.args.scope.now) arguments c.args.definition.now in
    let of_type = written c.args.definition.now.of_type in
    let given = option_map (λ a. literal (variables_of c.args.scope.now) a.value) (option_copied c.argument_named-given.result) in
    to value_at _ _ (argument_is c.args.scope.now.schema.now (variables_of c.args.scope.now) arguments c.args.definition.now c.as_str.result.now (option_copied c.argument_named-given.result) _
    (search rules) c.argument_named-given.ensures
    (at_once c.args.scope.now.schema.now of_type given c.args.definition.now.name.text c.args.definition.now.default (view c.in-Some.value.now) (λ n. c.in-Some.ensures n of_type)))
    (ap (λ v. value (Some (view v))) (sym c.in_ok-clone-in-Some.ensures.cases))
