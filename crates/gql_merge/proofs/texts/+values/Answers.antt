use Rattle.std.proofs.Common.{◌++◌, ◌∙◌, ap, codes, map, string_bytes, sym}
use Rattle.gql_merge.specs.Calls.{in_order, object_field_text, text_list, text_object, text_variable, value_text, with_commas}
use Rattle.gql_merge.proofs.Appending.{two, three}
use Rattle.gql_merge.proofs.texts.+values.Goals as goal

pub add_value-returns-in_ok-push_str-in-Variable-2 :
    goal.add_value-returns-in_ok-push_str-in-Variable-2
add_value-returns-in_ok-push_str-in-Variable-2 t c =
    two (string_bytes c.args.out.now) _ _ (codes "$") c.in-Variable.name
    c.in_ok-push_str-in-Variable.ensures.bytes
    (c.in_ok-push_str-in-Variable-2.ensures.bytes ∙ ap (λ l. string_bytes c.push_str.new.self ++ l) c.as_str.ensures)
    ∙ ap (λ l. string_bytes c.args.out.now ++ l) (sym (ap value_text c.in-Variable.is ∙ text_variable c.in-Variable.place c.in-Variable.name))

pub add_value-returns-in_ok-push_str-in-List-2 : goal.add_value-returns-in_ok-push_str-in-List-2
add_value-returns-in_ok-push_str-in-List-2 t c =
    three (string_bytes c.args.out.now) _ _ _ (codes "[") (with_commas (map value_text c.in-List.items)) (codes "]")
    c.in_ok-push_str-in-List.ensures.bytes
    (c.in_ok-add_items-in-List.ensures ∙ ap (λ l. string_bytes c.push_str-in-List.new.self ++ with_commas (map value_text l)) c.as_slice.ensures)
    c.in_ok-push_str-in-List-2.ensures.bytes
    ∙ ap (λ l. string_bytes c.args.out.now ++ l) (sym (ap value_text c.in-List.is ∙ text_list c.in-List.place c.in-List.items))

pub add_value-returns-in_ok-push_str-in-Object-2 :
    goal.add_value-returns-in_ok-push_str-in-Object-2
add_value-returns-in_ok-push_str-in-Object-2 t c =
    three (string_bytes c.args.out.now) _ _ _ (codes "{") (with_commas (in_order (map object_field_text c.in-Object.fields))) (codes "}")
    c.in_ok-push_str-in-Object.ensures.bytes
    (c.in_ok-add_in_order-in-Object.ensures
    ∙ ap (λ l. string_bytes c.push_str-in-Object.new.self ++ with_commas (in_order l)) (c.as_slice-in-Object-2.ensures.value ∙ c.in_ok-texts-in-Object.ensures
    ∙ ap (map object_field_text) c.as_slice-in-Object.ensures))
    c.in_ok-push_str-in-Object-2.ensures.bytes
    ∙ ap (λ l. string_bytes c.args.out.now ++ l) (sym (ap value_text c.in-Object.is ∙ text_object c.in-Object.place c.in-Object.fields))
