use Rattle.gql_coerce.proofs.Reported as reported
use Rattle.gql_coerce.proofs.laws.refusal_is_reported.Goals as goal

pub returns : goal.returns
returns c = λ s good t known x is values r path comes. reported.refusal_is_reported s good t known x is values r path comes
