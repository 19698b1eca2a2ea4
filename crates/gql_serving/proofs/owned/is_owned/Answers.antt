use Rattle.gql_serving.proofs.Owning.{owned_if, unowned}
use Rattle.gql_serving.proofs.owned.is_owned.Goals as goal

pub returns-in-None : goal.returns-in-None
returns-in-None c = λ at. unowned c.args.places.now c.args.fault.now c.in-None.is

pub returns-in_ok-is_among-in-Some : goal.returns-in_ok-is_among-in-Some
returns-in_ok-is_among-in-Some c = λ at. owned_if c.args.places.now c.args.fault.now c.in-Some.owner c.in_ok-is_among-in-Some.is_among c.in-Some.is (c.in_ok-is_among-in-Some.ensures at)
