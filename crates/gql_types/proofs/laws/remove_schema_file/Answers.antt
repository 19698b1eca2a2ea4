use Rattle.gql_types.proofs.OtherTypes.{removal_keeps}
use Rattle.gql_types.proofs.laws.remove_schema_file.Goals as goal

pub returns : goal.returns
returns c = removal_keeps
