use Rattle.std.proofs.Common.{◌≡◌, take, map, None}
use Rattle.gql_ast.specs.declared.literal.ObjectField.{ObjectField}
use Rattle.gql_faults.specs.Places.{named}
use Rattle.gql_types.specs.Parts.{sited}
use Rattle.gql_inputs.proofs.repeats.names.Given as goal

abbrev pub invariant-loop-field : goal.invariant-loop-field
invariant-loop-field l = map named l.names.items ≡ sited None (map (λ (f : ObjectField). f.name) (take l.field-index l.fields))
