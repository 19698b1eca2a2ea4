use Rattle.gql_stored.proofs.Lasting.{members_last}
use Rattle.gql_stored.proofs.laws.other_members.Goals as goal

pub returns : goal.returns
returns c = members_last
