use Rattle.std.proofs.Common.{◌∙◌, Bor, ap, sym, map, bytes_eq}
use Rattle.std.specs.List.{list_any}
use Rattle.gql_ast.specs.declared.text.Text.{Text}
use Rattle.gql_node_rules.specs.Resolved.{resolution}
use Rattle.gql_node_rules.specs.ValueTypes.{is_input_object}
use Rattle.gql_node_rules.proofs.Changes.{turned}
use Rattle.gql_node_rules.proofs.Sets.{any_map}
use Rattle.gql_node_rules.proofs.Uses.{none_if}
use Rattle.gql_node_rules.proofs.directive_use.DirectiveUse.of.Goals as goal

pub returns : goal.returns
returns c =
    let types = c.in_ok-types.ensures in
    record {
      none = λ e. ap (map resolution) (none_if c.args.all.now (sym c.is_empty.ensures ∙ turned c.is_empty.result e));
      values = λ q. c.in_ok-values.ensures q ∙ ap (list_any (bytes_eq q)) (ap (map (λ n. n.now)) c.as_slice.ensures.value ∙ types);
      flat = c.has_input_object-has_input_objects.ensures
          ∙ sym (any_map (is_input_object c.args.schema.now) (λ (n : Bor Text). n.now) c.as_slice-2.result.now)
          ∙ ap (list_any (is_input_object c.args.schema.now)) (ap (map (λ n. n.now)) c.as_slice-2.ensures.value ∙ types);
    }
