use Rattle.std.proofs.Common.{◌≡◌, None, rules}
use Rattle.gql_inputs.specs.declared.scalar.Scalar.{Scalar}
use Rattle.gql_types.specs.Written.{written}
use Rattle.serde_json.specs.Data as json
use Rattle.serde_json.specs.Data.{Data}
use Rattle.serde_json.specs.Find.{get}
use Rattle.serde_json.specs.View.{view}
use Rattle.gql_steps.specs.Direct.{data_of}
use Rattle.gql_steps.specs.DirectParts.{IsDirectly}
use Rattle.gql_steps.specs.Resolution.{resolved}
use Rattle.gql_steps.specs.declared.direct.Direct.{Direct}
use Rattle.gql_steps.proofs.Directly.{if_some, missing_resolved}
use Rattle.gql_steps.proofs.direct_field.stored_value.Goals as goal

pub returns-in-None : goal.returns-in-None
returns-in-None c =
    let t = written c.args.field.now.of_type.now in
    let d = view c.args.object.now in
    let name = c.args.field.now.name.now in
    let none : get name d ≡ None = search rules in
    if_some (λ (x : Direct). (s : Scalar) → IsDirectly s t json.null (data_of x)) (λ (x : Direct). (a : Data) → IsDirectly c.args.scalar t (resolved name t a d) (data_of x)) c.direct_null.result
    (λ x h a. missing_resolved c.args.scalar name t a d (data_of x) none (h c.args.scalar)) c.direct_null.ensures
