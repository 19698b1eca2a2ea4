use Rattle.gql_verdict.proofs.Edited.{remove_changes_only}
use Rattle.gql_verdict.proofs.laws.remove_document.Goals as goal

pub returns : goal.returns
returns c = remove_changes_only
