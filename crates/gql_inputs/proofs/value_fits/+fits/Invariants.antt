use Rattle.std.proofs.Common.{◌≡◌, [], take, map, flat_map}
use Rattle.gql_ast.specs.declared.literal.Literal.{Literal}
use Rattle.gql_inputs.specs.BadValues.{item_misfits, field_misfits}
use Rattle.gql_inputs.specs.ExpectedTypes.{written_of}
use Rattle.gql_inputs.specs.Lookups.{fields_in}
use Rattle.gql_inputs.specs.Values.{given_field, value_of}
use Rattle.gql_inputs.proofs.value_fits.+fits.Given as goal

abbrev pub invariant-items_fit-loop-item : goal.invariant-items_fit-loop-item
invariant-items_fit-loop-item g l = record {
  same_look : g.A.InputTypes.look l.types ≡ g.A.InputTypes.look l.fn.types;
  same_kept : g.A.InputTypes.kept l.types ≡ g.A.InputTypes.kept l.fn.types;
  so_far : flat_map (λ (x : Literal). item_misfits (g.A.InputTypes.look l.fn.types) (written_of l.of_type) (value_of x)) (take l.item-index l.items) ≡ [];
}

abbrev pub invariant-fields_fit-loop-field : goal.invariant-fields_fit-loop-field
invariant-fields_fit-loop-field g l = record {
  same_look : g.A.InputTypes.look l.types ≡ g.A.InputTypes.look l.fn.types;
  same_kept : g.A.InputTypes.kept l.types ≡ g.A.InputTypes.kept l.fn.types;
  so_far : flat_map (field_misfits (g.A.InputTypes.look l.fn.types) (fields_in (g.A.Answer.InputType.form l.of_type))) (map given_field (take l.field-index l.fields)) ≡ [];
}
