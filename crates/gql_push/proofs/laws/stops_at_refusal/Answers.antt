use Rattle.gql_push.proofs.Undisturbed.{stops_at_refusal}
use Rattle.gql_push.proofs.laws.stops_at_refusal.Goals as goal

pub returns : goal.returns
returns c = stops_at_refusal
