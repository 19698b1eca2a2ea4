use Rattle.gql_registry.proofs.KeptProfile.{edit_keeps}
use Rattle.gql_registry.proofs.laws.keeps_profile.Goals as goal

pub returns : goal.returns
returns c = edit_keeps
