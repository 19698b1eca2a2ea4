use Rattle.gql_verdict.proofs.EditedSchema.{schema_changes_only}
use Rattle.gql_verdict.proofs.laws.edit_schema.Goals as goal

pub returns : goal.returns
returns c = schema_changes_only
