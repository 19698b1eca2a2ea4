use Rattle.std.proofs.Common.{ap, sym, ◌∙◌}
use Rattle.gql_inputs.specs.ExpectedTypes.{written_of}
use Rattle.gql_inputs.specs.InputTypes.{name_in}
use Rattle.gql_inputs.proofs.Stepping.{name_typed}
use Rattle.gql_inputs.proofs.expected_type.ExpectedType.name.Goals as goal

pub returns-in-Placeless : goal.returns-in-Placeless
returns-in-Placeless c = sym (name_typed c.in-Placeless.steps.now c.in-Placeless.name.now)
    ∙ ap (λ t. name_in (written_of t)) (sym c.in-Placeless.is)
