use Rattle.std.proofs.Common.{◌≡◌, Some, false}
use Rattle.serde_json.specs.View.{view}
use Rattle.gql_types.specs.Written.{written}
use Rattle.gql_steps.specs.Direct.{data_of}
use Rattle.gql_steps.specs.DirectParts.{IsDirectly}
use Rattle.gql_steps.specs.Execution.{is_null}
use Rattle.gql_steps.specs.Leaves.{as_scalar}
use Rattle.gql_steps.specs.declared.direct.Direct.{Direct}
use Rattle.gql_steps.proofs.Directly.{if_both, scalar_directly}
use Rattle.gql_steps.proofs.direct_field.direct_member.Goals as goal

pub returns-else-is_null-clause-is : goal.returns-else-is_null-clause-is
returns-else-is_null-clause-is c =
    let t = written c.args.of_type.now in
    let d = view c.args.value.now in
    if_both (λ (x : Direct). as_scalar c.args.scalar d ≡ Some (data_of x)) (λ (x : Direct). is_null d ≡ false) (λ (x : Direct). IsDirectly c.args.scalar t d (data_of x)) c.direct_scalar.result
    (λ x v p. scalar_directly c.args.scalar t d (data_of x) c.requires v p) c.direct_scalar.ensures.value c.direct_scalar.ensures.present
