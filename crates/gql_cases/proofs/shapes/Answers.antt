use Rattle.gql_cases.proofs.OfShapes.{shared_shape_is_same_shape}
use Rattle.gql_cases.proofs.shapes.Goals as goal

pub returns : goal.returns
returns c = shared_shape_is_same_shape
