use Rattle.std.proofs.Common.{◌≡◌, ◌++◌, map, take, string_bytes}
use Rattle.gql_merge.specs.Calls.{object_field_text, value_text, with_commas}
use Rattle.gql_merge.proofs.texts.+values.Given as goal

abbrev pub invariant-add_items-loop-item : goal.invariant-add_items-loop-item
invariant-add_items-loop-item l = string_bytes l.out ≡ string_bytes l.initial.out ++ with_commas (map value_text (take l.item-index l.items))

abbrev pub invariant-object_field_texts-loop-field : goal.invariant-object_field_texts-loop-field
invariant-object_field_texts-loop-field l = l.texts.items ≡ map object_field_text (take l.field-index l.fields)
