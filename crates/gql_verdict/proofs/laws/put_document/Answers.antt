use Rattle.gql_verdict.proofs.Edited.{put_changes_only}
use Rattle.gql_verdict.proofs.laws.put_document.Goals as goal

pub returns : goal.returns
returns c = put_changes_only
