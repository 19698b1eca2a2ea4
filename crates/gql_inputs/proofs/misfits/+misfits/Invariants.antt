use Rattle.std.proofs.Common.{◌≡◌, ◌++◌, take, map, flat_map}
use Rattle.gql_ast.specs.declared.literal.Literal.{Literal}
use Rattle.gql_inputs.specs.BadValues.{item_misfits, field_misfits}
use Rattle.gql_inputs.specs.ExpectedTypes.{written_of}
use Rattle.gql_inputs.specs.Lookups.{fields_in}
use Rattle.gql_inputs.specs.Values.{given_field, value_of}
use Rattle.gql_inputs.proofs.misfits.+misfits.Given as goal

abbrev pub invariant-add_items-loop-item : goal.invariant-add_items-loop-item
invariant-add_items-loop-item g l = record {
  same_look : g.A.InputTypes.look l.types ≡ g.A.InputTypes.look l.fn.types;
  same_kept : g.A.InputTypes.kept l.types ≡ g.A.InputTypes.kept l.fn.types;
  so_far : l.found.items ≡ l.fn.found.items ++ flat_map (λ (x : Literal). item_misfits (g.A.InputTypes.look l.fn.types) (written_of l.of_type) (value_of x)) (take l.item-index l.items);
}

abbrev pub invariant-add_fields-loop-field : goal.invariant-add_fields-loop-field
invariant-add_fields-loop-field g l = record {
  same_look : g.A.InputTypes.look l.types ≡ g.A.InputTypes.look l.fn.types;
  same_kept : g.A.InputTypes.kept l.types ≡ g.A.InputTypes.kept l.fn.types;
  so_far : l.found.items ≡ l.fn.found.items ++ flat_map (field_misfits (g.A.InputTypes.look l.fn.types) (fields_in (g.A.Answer.InputType.form l.of_type))) (map given_field (take l.field-index l.fields));
}
