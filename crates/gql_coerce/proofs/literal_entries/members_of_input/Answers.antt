use Rattle.std.proofs.Common.{option_map}
use Rattle.serde_json.specs.View.{view}
use Rattle.gql_coerce.specs.Scopes.{values_in}
use Rattle.gql_coerce.proofs.literal_entries.members_of_input.Goals as goal

pub returns : goal.returns
returns c = c.in_ok-found.ensures (values_in (option_map (λ v. view v.now) c.args.variables))
