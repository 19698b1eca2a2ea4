use Rattle.std.proofs.Common.{◌≡◌, ◌++◌, take, flat_map}
use Rattle.gql_ast.specs.declared.literal.Literal.{Literal}
use Rattle.gql_ast.specs.declared.literal.ObjectField.{ObjectField}
use Rattle.gql_inputs.specs.BadValues.{within}
use Rattle.gql_inputs.specs.Values.{value_of}
use Rattle.gql_inputs.proofs.within.+within.Given as goal

abbrev pub invariant-add_within_all-loop-item : goal.invariant-add_within_all-loop-item
invariant-add_within_all-loop-item l = l.found.items ≡ l.initial.found.items ++ flat_map (λ (x : Literal). within l.scalar l.name (value_of x)) (take l.item-index l.items)

abbrev pub invariant-add_within_fields-loop-field : goal.invariant-add_within_fields-loop-field
invariant-add_within_fields-loop-field l = l.found.items ≡ l.initial.found.items ++ flat_map (λ (f : ObjectField). within l.scalar l.name (value_of f.value)) (take l.field-index l.fields)
