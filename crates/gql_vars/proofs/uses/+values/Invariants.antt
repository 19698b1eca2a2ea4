use Rattle.std.proofs.Common.{◌≡◌, ◌++◌, map, flat_map, take}
use Rattle.gql_ast.specs.declared.literal.ObjectField.{ObjectField}
use Rattle.gql_vars.specs.Lists.{use_of}
use Rattle.gql_vars.specs.Uses.{literal_uses}
use Rattle.gql_vars.proofs.uses.+values.Given as goal

abbrev pub invariant-add_uses_of_fields-loop-field : goal.invariant-add_uses_of_fields-loop-field
invariant-add_uses_of_fields-loop-field l = map use_of l.uses.items
    ≡ map use_of l.initial.uses.items ++ flat_map (λ (f : ObjectField). literal_uses l.file f.value) (take l.field-index l.fields)

abbrev pub invariant-add_uses_of_items-loop-item : goal.invariant-add_uses_of_items-loop-item
invariant-add_uses_of_items-loop-item l = map use_of l.uses.items
    ≡ map use_of l.initial.uses.items ++ flat_map (literal_uses l.file) (take l.item-index l.items)
