use Rattle.gql_types.proofs.OtherTypes.{put_keeps}
use Rattle.gql_types.proofs.laws.put_schema_file.Goals as goal

pub returns : goal.returns
returns c = put_keeps
