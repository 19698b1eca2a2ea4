use Rattle.std.proofs.Common.{◌∙◌, ap, filter, length}
use Rattle.gql_ast.specs.declared.definition.Definition.{Definition}
use Rattle.gql_types.specs.Definitions.{in_order_of}
use Rattle.gql_node_rules.specs.OtherTrees.{defines_type, others}
use Rattle.gql_node_rules.proofs.Held.{counted}
use Rattle.gql_node_rules.proofs.file_definitions.FileDefinitions.of.Goals as goal

pub returns : goal.returns
returns c = record {
  types = c.count_types.ensures ∙ ap (λ ds. length (filter (λ (d : Definition). defines_type d.tree) ds)) c.as_slice-definitions.ensures
      ∙ counted c.args.document.now.definitions;
  others = c.in_ok-others.ensures ∙ ap (λ ds. others (in_order_of ds)) c.as_slice-definitions.ensures;
}
