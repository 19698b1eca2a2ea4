use Rattle.std.proofs.Common.{◌∙◌, refl, sym}
use Rattle.gql_ast.specs.declared.type_system.InputValueDefinition.{InputValueDefinition}
use Rattle.gql_built_in.specs.declared.sited.Sited.{Sited}
use Rattle.gql_types.specs.RequiredInputs.{is_required_input}
use Rattle.gql_inputs.specs.Lookups.{field_of}
use Rattle.gql_inputs.proofs.RequiredFields.{required_count_of}
use Rattle.gql_inputs.proofs.of_schema.required_count.Goals as goal

pub returns : goal.returns
returns c = c.required_count.ensures
    ∙ sym (required_count_of field_of (λ (d : Sited InputValueDefinition). is_required_input d.node) (λ d. refl) c.args.fields.now)
