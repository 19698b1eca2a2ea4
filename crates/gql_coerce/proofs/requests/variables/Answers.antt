use Rattle.std.proofs.Common.{ℕ, Some, None, ap, rules}
use Rattle.gql_ast.specs.declared.executable.VariableDefinition.{VariableDefinition}
use Rattle.serde_json.specs.View.{view, members_view}
use Rattle.gql_coerce.specs.Outcomes.{said, value as given}
use Rattle.gql_coerce.specs.Requests.{variables, variable_value}
use Rattle.gql_coerce.proofs.InTime.{to, goes_on, stops, ended}
use Rattle.std.proofs.lemmas.List.{drop_all}
use Rattle.gql_coerce.proofs.requests.variables.Goals.{in-Given+in_ok-value-in-Given+in_ok-add_shared-in-Given, in-Absent}
use Rattle.gql_coerce.proofs.requests.variables.Goals as goal

pub returns-in-Refused : goal.returns-in-Refused
returns-in-Refused c = stops (λ (n : ℕ) (d : VariableDefinition). variable_value n c.args.schema.now (view c.args.values.now) d) (λ (d : VariableDefinition). d.name.text) (λ (n : ℕ). variables n c.args.schema.now c.args.definitions.now (view c.args.values.now)) c.args.definitions.now c.loop-definition.definition-index c.definition-item.result (members_view c.loop-definition.members.entries)
    (search rules) (search rules) c.loop-definition.invariant (said c.in_ok-value.field-0) _ _ c.in_ok-value.ensures (ap said c.in-Refused.is)

pub loop-definition-preserved : goal.loop-definition-preserved
loop-definition-preserved c = elim c.match-branch-2.branch [
  | in-Given+in_ok-value-in-Given+in_ok-add_shared-in-Given w ↦ goes_on (λ (n : ℕ) (d : VariableDefinition). variable_value n c.args.schema.now (view c.args.values.now) d) (λ (d : VariableDefinition). d.name.text) (λ (n : ℕ). variables n c.args.schema.now c.args.definitions.now (view c.args.values.now)) c.args.definitions.now c.loop-definition.definition-index c.definition-item.result (members_view c.loop-definition.members.entries)
      (search rules) (search rules) c.loop-definition.invariant (Some (view w.in-Given.value)) (said c.in_ok-value.field-0) _ c.in_ok-value.ensures (ap said w.in-Given.is) (search rules)
  | in-Absent w ↦ goes_on (λ (n : ℕ) (d : VariableDefinition). variable_value n c.args.schema.now (view c.args.values.now) d) (λ (d : VariableDefinition). d.name.text) (λ (n : ℕ). variables n c.args.schema.now c.args.definitions.now (view c.args.values.now)) c.args.definitions.now c.loop-definition.definition-index c.definition-item.result (members_view c.loop-definition.members.entries)
      (search rules) (search rules) c.loop-definition.invariant None (said c.in_ok-value.field-0) _ c.in_ok-value.ensures (ap said w.in-Absent.is) (search rules)
]

pub returns : goal.returns
returns c = to (λ (n : ℕ). variables n c.args.schema.now c.args.definitions.now (view c.args.values.now)) _ _ (ended (λ (n : ℕ) (d : VariableDefinition). variable_value n c.args.schema.now (view c.args.values.now) d) (λ (d : VariableDefinition). d.name.text) (λ (n : ℕ). variables n c.args.schema.now c.args.definitions.now (view c.args.values.now)) c.args.definitions.now c.loop-definition.definition-index (members_view c.loop-definition.members.entries) (search (rules, drop_all)) c.loop-definition.invariant) (ap given (search rules))
