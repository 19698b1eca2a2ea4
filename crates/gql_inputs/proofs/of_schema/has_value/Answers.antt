use Rattle.std.proofs.Common.{◌∙◌, bytes_eq, sym}
use Rattle.gql_ast.specs.declared.type_system.EnumValueDefinition.{EnumValueDefinition}
use Rattle.gql_built_in.specs.declared.sited.Sited.{Sited}
use Rattle.gql_inputs.proofs.Finding.{any_made, is_found}
use Rattle.gql_inputs.proofs.of_schema.has_value.Goals as goal

pub returns : goal.returns
returns c = c.is_some.ensures ∙ (is_found c.get.result _ c.args.values.now c.get.ensures
    ∙ sym (any_made (λ (v : Sited EnumValueDefinition). v.node.name.text) (bytes_eq c.args.name.now) c.args.values.now))
