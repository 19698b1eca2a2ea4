use Rattle.std.proofs.Common.{◌≡◌, ◌++◌, map, drop, false}
use Rattle.gql_ast.specs.LiteralTexts.{comma_list, literal_text, object_field_text}
use Rattle.gql_ast.proofs.print.+prints.Given as goal

abbrev pub invariant-write_items-loop-item : goal.invariant-write_items-loop-item
invariant-write_items-loop-item l = l.out.items ++ comma_list l.later (map literal_text (drop l.item-index l.items))
    ≡ l.initial.out.items ++ comma_list false (map literal_text l.items)

abbrev pub invariant-write_fields-loop-field : goal.invariant-write_fields-loop-field
invariant-write_fields-loop-field l = l.out.items ++ comma_list l.later (map object_field_text (drop l.field-index l.fields))
    ≡ l.initial.out.items ++ comma_list false (map object_field_text l.fields)
