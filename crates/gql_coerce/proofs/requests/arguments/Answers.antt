use Rattle.std.proofs.Common.{ℕ, Some, None, map, ap, rules}
use Rattle.gql_ast.specs.declared.type_system.InputValueDefinition.{InputValueDefinition}
use Rattle.serde_json.specs.View.{view, members_view}
use Rattle.gql_coerce.specs.Outcomes.{argument_said, value as given}
use Rattle.gql_coerce.specs.Requests.{arguments, argument_value}
use Rattle.gql_coerce.specs.Scopes.{variables_of}
use Rattle.gql_coerce.proofs.InTime.{to, goes_on, stops, ended}
use Rattle.std.proofs.lemmas.List.{drop_all}
use Rattle.gql_coerce.proofs.requests.arguments.Goals.{in-Given+in_ok-add_shared-in-Given, in-Absent}
use Rattle.gql_coerce.proofs.requests.arguments.Goals as goal

pub returns-in-Refused : goal.returns-in-Refused
returns-in-Refused c = stops (λ (n : ℕ) (d : InputValueDefinition). argument_value n c.args.scope.now.schema.now (variables_of c.args.scope.now) (map (λ g. g.argument.now) c.args.given.now) d) (λ (d : InputValueDefinition). d.name.text) (λ (n : ℕ). arguments n c.args.scope.now.schema.now c.args.definitions.now (map (λ g. g.argument.now) c.args.given.now) (variables_of c.args.scope.now)) c.args.definitions.now c.loop-definition.definition-index c.get-definition.result.now (members_view c.loop-definition.members.entries)
    (search rules) (search rules) c.loop-definition.invariant (argument_said c.in_ok-value.field-0) _ _ c.in_ok-value.ensures (ap argument_said c.in-Refused.is)

pub loop-definition-preserved : goal.loop-definition-preserved
loop-definition-preserved c = elim c.match-branch-2.branch [
  | in-Given+in_ok-add_shared-in-Given w ↦ goes_on (λ (n : ℕ) (d : InputValueDefinition). argument_value n c.args.scope.now.schema.now (variables_of c.args.scope.now) (map (λ g. g.argument.now) c.args.given.now) d) (λ (d : InputValueDefinition). d.name.text) (λ (n : ℕ). arguments n c.args.scope.now.schema.now c.args.definitions.now (map (λ g. g.argument.now) c.args.given.now) (variables_of c.args.scope.now)) c.args.definitions.now c.loop-definition.definition-index c.get-definition.result.now (members_view c.loop-definition.members.entries)
      (search rules) (search rules) c.loop-definition.invariant (Some (view w.in-Given.value)) (argument_said c.in_ok-value.field-0) _ c.in_ok-value.ensures (ap argument_said w.in-Given.is) (search rules)
  | in-Absent w ↦ goes_on (λ (n : ℕ) (d : InputValueDefinition). argument_value n c.args.scope.now.schema.now (variables_of c.args.scope.now) (map (λ g. g.argument.now) c.args.given.now) d) (λ (d : InputValueDefinition). d.name.text) (λ (n : ℕ). arguments n c.args.scope.now.schema.now c.args.definitions.now (map (λ g. g.argument.now) c.args.given.now) (variables_of c.args.scope.now)) c.args.definitions.now c.loop-definition.definition-index c.get-definition.result.now (members_view c.loop-definition.members.entries)
      (search rules) (search rules) c.loop-definition.invariant None (argument_said c.in_ok-value.field-0) _ c.in_ok-value.ensures (ap argument_said w.in-Absent.is) (search rules)
]

pub returns : goal.returns
returns c = to (λ (n : ℕ). arguments n c.args.scope.now.schema.now c.args.definitions.now (map (λ g. g.argument.now) c.args.given.now) (variables_of c.args.scope.now)) _ _ (ended (λ (n : ℕ) (d : InputValueDefinition). argument_value n c.args.scope.now.schema.now (variables_of c.args.scope.now) (map (λ g. g.argument.now) c.args.given.now) d) (λ (d : InputValueDefinition). d.name.text) (λ (n : ℕ). arguments n c.args.scope.now.schema.now c.args.definitions.now (map (λ g. g.argument.now) c.args.given.now) (variables_of c.args.scope.now)) c.args.definitions.now c.loop-definition.definition-index (members_view c.loop-definition.members.entries) (search (rules, drop_all)) c.loop-definition.invariant) (ap given (search rules))
