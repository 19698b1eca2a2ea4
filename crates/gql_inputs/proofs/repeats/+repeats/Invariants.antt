use Rattle.std.proofs.Common.{◌≡◌, ◌++◌, take, flat_map}
use Rattle.gql_ast.specs.declared.literal.Literal.{Literal}
use Rattle.gql_ast.specs.declared.literal.ObjectField.{ObjectField}
use Rattle.gql_inputs.specs.BadValues.{repeats}
use Rattle.gql_inputs.specs.Values.{value_of}
use Rattle.gql_inputs.proofs.repeats.+repeats.Given as goal

abbrev pub invariant-add_repeats_in_all-loop-item : goal.invariant-add_repeats_in_all-loop-item
invariant-add_repeats_in_all-loop-item l = l.found.items ≡ l.initial.found.items ++ flat_map (λ (x : Literal). repeats (value_of x)) (take l.item-index l.items)

abbrev pub invariant-add_repeats_in_fields-loop-field : goal.invariant-add_repeats_in_fields-loop-field
invariant-add_repeats_in_fields-loop-field l = l.found.items ≡ l.initial.found.items ++ flat_map (λ (f : ObjectField). repeats (value_of f.value)) (take l.field-index l.fields)
