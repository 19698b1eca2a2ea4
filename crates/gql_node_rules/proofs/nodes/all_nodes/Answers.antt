use Rattle.std.proofs.Common.{◌∙◌, ◌++◌, ap, map}
use Rattle.gql_ast.specs.declared.type_system.DirectiveDefinition.{DirectiveDefinition}
use Rattle.gql_ast.specs.declared.type_system.FieldDefinition.{FieldDefinition}
use Rattle.gql_ast.specs.declared.type_system.TypeDefinition.{TypeDefinition}
use Rattle.gql_ast.specs.declared.type_system.TypeExtension.{TypeExtension}
use Rattle.gql_types.specs.Parts.{fields_of, values_of, input_fields_of}
use Rattle.gql_node_rules.specs.Borrowed.{one}
use Rattle.gql_node_rules.specs.Nodes.{each, within}
use Rattle.gql_node_rules.proofs.nodes.all_nodes.Goals as goal

pub returns : goal.returns
returns c =
    let types = ap (map one) c.as_slice.ensures.value ∙ c.in_ok-types.ensures in
    let extensions = ap (map one) c.as_slice-2.ensures.value ∙ c.in_ok-type_extensions.ensures in
    let parts = c.in_ok-parts.ensures ∙ (λ k. each (λ (d : TypeDefinition). d.parts) (types k) ++ each (λ (e : TypeExtension). e.parts) (extensions k)) in
    let fields = c.in_ok-fields.ensures ∙ ap (within fields_of) (ap (map one) c.as_slice-3.ensures.value ∙ parts) in
    let values = c.in_ok-values.ensures ∙ ap (within values_of) (ap (map one) c.as_slice-4.ensures.value ∙ parts) in
    let input_fields = c.in_ok-input_fields.ensures ∙ ap (within input_fields_of) (ap (map one) c.as_slice-5.ensures.value ∙ parts) in
    let of_fields = ap (map one) c.as_slice-6.ensures.value ∙ fields in
    let of_directives = ap (map one) c.as_slice-7.ensures.value ∙ c.in_ok-directives.ensures in
    let arguments = c.in_ok-arguments.ensures
    ∙ (λ k. within (λ (f : FieldDefinition). f.arguments) (of_fields k) ++ within (λ (d : DirectiveDefinition). d.arguments) (of_directives k)) in
    λ k. record {
      types = c.in_ok-types.ensures k;
      type_extensions = c.in_ok-type_extensions.ensures k;
      directives = c.in_ok-directives.ensures k;
      schemas = c.in_ok-schemas.ensures k;
      schema_extensions = c.in_ok-schema_extensions.ensures k;
      parts = parts k;
      fields = fields k;
      values = values k;
      input_fields = input_fields k;
      arguments = arguments k;
    }
