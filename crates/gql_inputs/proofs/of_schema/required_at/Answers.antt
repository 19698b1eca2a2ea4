use Rattle.std.proofs.Common.{◌∙◌, refl, Some, ap, sym}
use Rattle.gql_ast.specs.declared.type_system.InputValueDefinition.{InputValueDefinition}
use Rattle.gql_built_in.specs.declared.sited.Sited.{Sited}
use Rattle.gql_types.specs.RequiredInputs.{is_required_input}
use Rattle.gql_inputs.specs.Lookups.{field_of}
use Rattle.gql_inputs.proofs.RequiredFields.{required_at_of, required_count_of}
use Rattle.gql_inputs.proofs.of_schema.required_at.Goals as goal

pub required_at-requires : goal.required_at-requires
required_at-requires c = rw (sym (required_count_of field_of (λ (d : Sited InputValueDefinition). is_required_input d.node) (λ d. refl) c.args.fields.now)) c.requires

pub returns : goal.returns
returns c = required_at_of field_of (λ (d : Sited InputValueDefinition). is_required_input d.node) (λ d. refl) c.args.fields.now c.args.index _ c.required_at.ensures
    ∙ ap Some (sym c.input_field.ensures)
