use Rattle.std.proofs.Common.{◌∙◌, ap, bytes_eq, is_some}
use Rattle.std.specs.List.{list_any}
use Rattle.gql_ast.specs.declared.type_system.InputValueDefinition.{InputValueDefinition}
use Rattle.gql_node_rules.proofs.Found.{is_found_in, some_copied}
use Rattle.gql_node_rules.proofs.signature.Signature.defines.Goals as goal

pub returns : goal.returns
returns c =
    let test = λ (v : InputValueDefinition). bytes_eq c.args.name.now v.name.text in
    c.is_some.ensures ∙ some_copied c.get.result ∙ ap is_some c.get.ensures
    ∙ is_found_in (λ a. a.definition.now) test c.args.self.now.arguments ∙ ap (list_any test) c.args.self.now.all
