use Rattle.serde_json.proofs.Views.{view-Object}
use Rattle.gql_coerce.proofs.coerced_object.CoercedObject.new.Goals as goal

pub returns : goal.returns
returns c = view-Object c.args.members
